-- Members gone over from the end: the set has the keys seen, and the flags say whose key doesn't come again.
use Rattle.std.proofs.Common.{◌≡◌, Bool, true, false, not, cond, ◌||◌, ℕ, zero, suc, ◌-◌, ◌≤◌, List, [], ◌∷◌, ◌++◌, length, take, get_or, map, reverse, refl, sym, ap, ◌∙◌, append_assoc, arith, rules}
use Rattle.std.specs.Ordering.{nat_cmp, is_eq}
use Rattle.std.specs.Cmp.Lexicographic.{slice_cmp}
use Rattle.std.specs.Str.{bytes_eq}
use Rattle.std.specs.BTreeSet.{BTreeSet, contains}
use Rattle.std.proofs.lemmas.Map.Text.{is_eq-slice_cmp}
use Rattle.std.proofs.lemmas.List.{reverse-append}
use denote.Ref.{Bor}
use Rattle.json_spell.specs.declared.json.Json.{the_lemmas}
use Rattle.json_spell.specs.declared.json.Member.{Member}
use Rattle.json_spell.specs.Tree.{Pairs}
use Rattle.json_spell.specs.View.{json_view, member_view, pairs_of}
use Rattle.entity_json.specs.Maps.{has_key, lasts}

-- members, as definitions speak of them
abbrev pub members_of : List Member → Pairs
members_of members = pairs_of (map member_view members)

-- whether the set has the text
abbrev pub has : BTreeSet (Bor (List ℕ)) → Bor (List ℕ) → Bool
has seen key = contains (λ x y. slice_cmp nat_cmp x.now y.now) seen key

-- what was passed, from the end: the keys that it has, and its flags, the last one first
pub record Passed (members rest : List Member) (flags : List Bool) (seen : BTreeSet (Bor (List ℕ))) : Type 0 where
  pub passed : List Member
  pub is : members ≡ rest ++ passed
  pub flagged : reverse flags ≡ lasts (members_of passed)
  pub are_seen : (key : Bor (List ℕ)) → has seen key ≡ has_key key.now (members_of passed)

pub member_view-is : (m : Member) → member_view m ≡ (m.key.now, json_view m.value)
member_view-is m = search (rules, the_lemmas)

cond_or : (b c : Bool) → cond b true c ≡ (b || c)
cond_or true c = refl
cond_or false c = refl

-- one member more in front of those passed
has_key-first : (key : List ℕ) (m : Member) (ms : List Member) → has_key key (members_of (m ∷ ms)) ≡ (bytes_eq m.key.now key || has_key key (members_of ms))
has_key-first key m ms = ap (λ p. bytes_eq p.0 key || has_key key (members_of ms)) (member_view-is m)

rest-is : (members before : List Member) (m : Member) (rest passed : List Member) → rest ≡ before ++ m ∷ [] → members ≡ rest ++ passed → members ≡ before ++ m ∷ passed
rest-is members before m rest passed e is = is ∙ ap (λ r. r ++ passed) e ∙ append_assoc before (m ∷ []) passed

passed_more : (members before rest : List Member) (m : Member) (flags : List Bool) (flag : Bool) (seen new : BTreeSet (Bor (List ℕ))) (key : Bor (List ℕ))
    → Passed members rest flags seen → rest ≡ before ++ m ∷ [] → key.now ≡ m.key.now → flag ≡ not (has seen key)
    → ((q : Bor (List ℕ)) → has new q ≡ cond (is_eq (slice_cmp nat_cmp key.now q.now)) true (has seen q)) → Passed members before (flags ++ flag ∷ []) new
passed_more members before rest m flags flag seen new key p e same flag_is update =
    let known : has seen key ≡ has_key (member_view m).0 (members_of p.passed) =
    p.are_seen key ∙ ap (λ k. has_key k (members_of p.passed)) (same ∙ sym (ap (λ v. v.0) (member_view-is m))) in
    record {
      passed = m ∷ p.passed;
      is = rest-is members before m rest p.passed e p.is;
      flagged = reverse-append flags (flag ∷ []) ∙ ap (λ b. b ∷ reverse flags) (flag_is ∙ ap not known) ∙ ap (λ bs. not (has_key (member_view m).0 (members_of p.passed)) ∷ bs) p.flagged;
      are_seen = λ q. update q ∙ ap (λ b. cond b true (has seen q)) (is_eq-slice_cmp key.now q.now) ∙ ap (λ b. cond (bytes_eq key.now q.now) true b) (p.are_seen q)
          ∙ ap (λ k. cond (bytes_eq k q.now) true (has_key q.now (members_of p.passed))) same ∙ cond_or (bytes_eq m.key.now q.now) (has_key q.now (members_of p.passed)) ∙ sym (has_key-first q.now m p.passed);
    }

-- where nothing is left, all are flagged
pub passed_all : (members : List Member) (flags : List Bool) (seen : BTreeSet (Bor (List ℕ))) → Passed members [] flags seen → reverse flags ≡ lasts (members_of members)
passed_all members flags seen p = p.flagged ∙ ap (λ ms. lasts (members_of ms)) (sym p.is)

-- a list by its last value
ends-at : {A : Type 0} (n : ℕ) (xs : List A) (x : A) → length xs ≡ suc n → xs ≡ take n xs ++ get_or xs n x ∷ []
ends-at n [] x e = absurd (omega (arith, e))
ends-at zero (y ∷ []) x e = refl
ends-at zero (y ∷ z ∷ xs) x e = absurd (omega (arith, e))
ends-at (suc n) (y ∷ xs) x e = ap (λ r. y ∷ r) (ends-at n xs x (omega (arith, e)))

-- the last member of those left goes over to those passed
pub passed_last : (members rest : List Member) (none : Member) (flags : List Bool) (flag : Bool) (seen new : BTreeSet (Bor (List ℕ))) (key : Bor (List ℕ))
    → Passed members rest flags seen → 1 ≤ length rest → key.now ≡ (get_or rest (length rest - 1) none).key.now → flag ≡ not (has seen key)
    → ((q : Bor (List ℕ)) → has new q ≡ cond (is_eq (slice_cmp nat_cmp key.now q.now)) true (has seen q)) → Passed members (take (length rest - 1) rest) (flags ++ flag ∷ []) new
passed_last members rest none flags flag seen new key p some same flag_is update =
    passed_more members (take (length rest - 1) rest) rest (get_or rest (length rest - 1) none) flags flag seen new key p
    (ends-at (length rest - 1) rest none (omega (arith, some))) same flag_is update
