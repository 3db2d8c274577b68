-- What can be read in front of a text, by what can be read of the whole.
use Rattle.std.proofs.Common.{◌≡◌, ℕ, suc, Bool, true, false, ◌==◌, cond, List, [], ◌∷◌, map, Option, Some, None, All, refl, sym, ap, subst, ◌∙◌}
use Rattle.std.proofs.lemmas.List.Elements.{All-cons, All-nil}
use Rattle.json_differing.specs.declared.spelled.Spelled.{Spelled}
use Rattle.json_spell.specs.Tree.{Tree, object, Pairs, no_pairs}
use Rattle.json_spell.specs.Grammar.{is_ws}
use Rattle.json_spell.specs.Nesting.{Nests, MembersNest}
use Rattle.json_differing.specs.Readable.{HasMember, HasMembers, HasMore, HasValue}
use Rattle.json_spell.specs.Reading.{add_pair, after_byte, after_part, closed, key_at, list_by, member_by, members_at, read_map, skip, spaced, value_at}
use Rattle.json_differing.specs.Spelled.{SpelledNests, spelled_view}
use Rattle.json_spell.specs.View.{pairs_of}
use Rattle.json_spell.proofs.ListSteps.{onto}
use Rattle.json_spell.proofs.Opened.{bind_some, map_some, some_is}
use Rattle.json_spell.proofs.ValueSteps.{member-key, members_at-is, value_at-object}

-- the members of an object
pub object_has : (n : ℕ) (s inside : List ℕ) → skip is_ws s ≡ 0x7B ∷ inside → HasValue (suc n) s → HasMembers n inside
object_has n s inside is has =
    let m = map_some (λ (p : Tree × List ℕ). (p.0, skip is_ws p.1)) (value_at (skip is_ws s)) has.read in
    let k = map_some (λ (p : Pairs × List ℕ). (object p.0, p.1)) (list_by no_pairs 0x7D members_at inside) (sym (value_at-object (skip is_ws s) 0x7B inside is refl) ∙ m.1.0) in
    let tree_is : has.tree ≡ object k.0.0 = ap (λ (q : Tree × List ℕ). q.0) (sym m.1.1) ∙ ap (λ (q : Tree × List ℕ). q.0) (sym k.1.1) in
    record { members = k.0.0; rest = k.0.1; read = k.1.0; nest = subst (λ (t : Tree). Nests (suc n) t) tree_is has.nests }

-- the value of a member
pub member_has : (n : ℕ) (s rest name : List ℕ) → key_at s ≡ Some (name, rest) → HasMember n s → HasValue n rest
member_has n s rest name key has =
    let m = map_some (λ (p : Tree × List ℕ). ((name, p.0), p.1)) (spaced value_at rest) (sym (member-key value_at s name rest key) ∙ has.read) in
    let tree_is : has.tree ≡ m.0.0 = ap (λ (q : (List ℕ × Tree) × List ℕ). q.0.1) (sym m.1.1) in
    record { tree = m.0.0; rest = m.0.1; read = m.1.0; nests = subst (λ (t : Tree). Nests n t) tree_is has.nests }

-- members that don't close at once
pub open_has : (n : ℕ) (s : List ℕ) → after_byte 0x7D (skip is_ws s) ≡ None → HasMembers n s → HasMore n s
open_has n s none has =
    record { members = has.members; rest = has.rest; read = sym (ap (closed no_pairs (members_at s)) none) ∙ has.read; nest = has.nest }

-- what a part leads to
part_of : (n : ℕ) (s : List ℕ) (has : HasMore n s)
    → (p : (List ℕ × Tree) × List ℕ) × ((member_by value_at s ≡ Some p) × (after_part add_pair no_pairs 0x7D members_at p.0 p.1 ≡ Some (has.members, has.rest)))
part_of n s has = bind_some (member_by value_at s) (λ (p : (List ℕ × Tree) × List ℕ). after_part add_pair no_pairs 0x7D members_at p.0 p.1) (sym (members_at-is s) ∙ has.read)

-- the first of them nests, and so do those behind it
first-nests : (n : ℕ) (p : List ℕ × Tree) (r : List ℕ) (ps : Pairs) (rest : List ℕ) → after_part add_pair no_pairs 0x7D members_at p r ≡ Some (ps, rest) → MembersNest n ps → Nests n p.1
first-nests n p [] ps rest e nest = absurd cc
first-nests n p (x ∷ r) ps rest e nest = at (x == 0x2C) (x == 0x7D) e
  where
    at : (a b : Bool) → cond a (read_map (add_pair p) (members_at r)) (cond b (Some (add_pair p no_pairs, r)) None) ≡ Some (ps, rest) → Nests n p.1
    at true b e =
        let m = map_some (λ (q : Pairs × List ℕ). (add_pair p q.0, q.1)) (members_at r) e in
        (subst (λ (l : Pairs). MembersNest n l) (ap (λ (q : Pairs × List ℕ). q.0) (sym m.1.1)) nest).0
    at false true e = (subst (λ (l : Pairs). MembersNest n l) (ap (λ (q : Pairs × List ℕ). q.0) (sym (some_is e))) nest).0
    at false false e = absurd cc

pub more_has : (n : ℕ) (s : List ℕ) → HasMore n s → HasMember n s
more_has n s has =
    let p = part_of n s has in
    record { name = p.0.0.0; tree = p.0.0.1; rest = p.0.1; read = p.1.0; nests = first-nests n p.0.0 p.0.1 has.members has.rest p.1.1 has.nest }

-- behind a separator
pub next_has : (n : ℕ) (s : List ℕ) (m : List ℕ × Tree) (r : List ℕ) (byte : ℕ) (rest : List ℕ) → member_by value_at s ≡ Some (m, r) → r ≡ byte ∷ rest → (byte == 0x2C) ≡ true → HasMore n s → HasMore n rest
next_has n s m r byte rest read r_is is has =
    let p = part_of n s has in
    let same : p.0 ≡ (m, r) = some_is (sym p.1.0 ∙ read) in
    let after : after_part add_pair no_pairs 0x7D members_at m r ≡ Some (has.members, has.rest) =
    ap (λ (q : (List ℕ × Tree) × List ℕ). after_part add_pair no_pairs 0x7D members_at q.0 q.1) (sym same) ∙ p.1.1 in
    let next : after_part add_pair no_pairs 0x7D members_at m (byte ∷ rest) ≡ Some (has.members, has.rest) = ap (after_part add_pair no_pairs 0x7D members_at m) (sym r_is) ∙ after in
    let cut : after_part add_pair no_pairs 0x7D members_at m (byte ∷ rest) ≡ read_map (add_pair m) (members_at rest) = rw is refl in
    let k = map_some (λ (q : Pairs × List ℕ). (add_pair m q.0, q.1)) (members_at rest) (sym cut ∙ next) in
    record {
      members = k.0.0;
      rest = k.0.1;
      read = k.1.0;
      nest = (subst (λ (l : Pairs). MembersNest n l) (ap (λ (q : Pairs × List ℕ). q.0) (sym k.1.1)) has.nest).1;
    }

-- members in front of what is left of all
pub left_has : (n : ℕ) (xs : List (List ℕ × Tree)) (left whole : List ℕ) → list_by no_pairs 0x7D members_at whole ≡ read_map (onto add_pair xs) (members_at left) → HasMembers n whole → HasMore n left
left_has n xs left whole same has =
    let m = map_some (λ (q : Pairs × List ℕ). (onto add_pair xs q.0, q.1)) (members_at left) (sym same ∙ has.read) in
    record {
      members = m.0.0;
      rest = m.0.1;
      read = m.1.0;
      nest = behind xs m.0.0 (subst (λ (l : Pairs). MembersNest n l) (ap (λ (q : Pairs × List ℕ). q.0) (sym m.1.1)) has.nest);
    }
  where
    behind : (xs : List (List ℕ × Tree)) (l : Pairs) → MembersNest n (onto add_pair xs l) → MembersNest n l
    behind [] l h = h
    behind (x ∷ xs) l h = behind xs l h.1

-- members that were told apart nest where all do
pub members_low : (n : ℕ) (s : List ℕ) (ms : List Spelled) (r : List ℕ) → list_by no_pairs 0x7D members_at s ≡ Some (pairs_of (map spelled_view ms), r) → HasMembers n s → All (SpelledNests n) ms
members_low n s ms r read has =
    let same : has.members ≡ pairs_of (map spelled_view ms) = ap (λ (q : Pairs × List ℕ). q.0) (some_is (sym has.read ∙ read)) in
    each ms (subst (λ (l : Pairs). MembersNest n l) same has.nest)
  where
    each : (ms : List Spelled) → MembersNest n (pairs_of (map spelled_view ms)) → All (SpelledNests n) ms
    each [] h = All-nil (SpelledNests n)
    each (m ∷ ms) h = All-cons (SpelledNests n) m ms h.0 (each ms h.1)
