-- Going over the members of a map: the first one is an entry, or its key comes again.
use Rattle.std.proofs.Common.{◌≡◌, ℕ, ◌≤◌, ◌-◌, Bool, true, false, not, List, [], ◌∷◌, ◌++◌, length, take, drop, get_or, reverse, Option, None, Some, refl, sym, ap, ◌∙◌, arith}
use Rattle.std.specs.Option.{option_eq, option_to_list}
use Rattle.std.proofs.lemmas.List.{take_all, reverse-append}
use Rattle.std.proofs.Math.Bool.{beq}
use Rattle.json_spell.specs.declared.json.Member.{Member}
use Rattle.json_spell.specs.Tree.{Tree}
use Rattle.json_spell.specs.View.{member_view}
use Rattle.entity_json.specs.Maps.{has_key, entries, lasts}
use Rattle.entity_json.specs.Reading.Steps.{steps}
use Rattle.entity_json.proofs.LastMembers.{members_of, member_view-is}

-- a list by its first value
front-is : {A : Type 0} (l : List A) (none : A) → 1 ≤ length l → l ≡ get_or l 0 none ∷ take (length l - 1) (drop 1 l)
front-is [] none some = absurd (omega (arith, some))
front-is (x ∷ xs) none some = ap (λ r. x ∷ r) (sym (take_all (length (x ∷ xs) - 1) xs (omega arith)))

-- whether the key of a member comes again
again : (m : Member) (ms : List Member) → has_key (member_view m).0 (members_of ms) ≡ has_key m.key.now (members_of ms)
again m ms = ap (λ p. has_key p.0 (members_of ms)) (member_view-is m)

-- the first member is an entry
entry-read : {B : Type 0} (read : List ℕ × Tree → List B → Option (List B)) (m : Member) (ms : List Member) (out new : List B)
    → has_key m.key.now (members_of ms) ≡ false → read (member_view m) out ≡ Some new
    → steps read (entries (members_of (m ∷ ms))) out ≡ steps read (entries (members_of ms)) new
entry-read read m ms out new last is =
    let test : has_key (member_view m).0 (members_of ms) ≡ false = again m ms ∙ last in
    rw (test, is) refl

-- its key comes again
entry-passed : {B : Type 0} (read : List ℕ × Tree → List B → Option (List B)) (m : Member) (ms : List Member) (out : List B)
    → has_key m.key.now (members_of ms) ≡ true
    → steps read (entries (members_of (m ∷ ms))) out ≡ steps read (entries (members_of ms)) out
entry-passed read m ms out known =
    let test : has_key (member_view m).0 (members_of ms) ≡ true = again m ms ∙ known in
    rw test refl

-- the members after the first one make with it what all make
pub front-read : {B : Type 0} (read : List ℕ × Tree → List B → Option (List B)) (l : List Member) (none : Member) (out new : List B)
    → 1 ≤ length l → has_key (get_or l 0 none).key.now (members_of (take (length l - 1) (drop 1 l))) ≡ false → read (member_view (get_or l 0 none)) out ≡ Some new
    → steps read (entries (members_of (take (length l - 1) (drop 1 l)))) new ≡ steps read (entries (members_of l)) out
front-read read l none out new some last is =
    sym (ap (λ ms. steps read (entries (members_of ms)) out) (front-is l none some) ∙ entry-read read (get_or l 0 none) (take (length l - 1) (drop 1 l)) out new last is)

-- and without it, where its key comes again
pub front-passed : {B : Type 0} (read : List ℕ × Tree → List B → Option (List B)) (l : List Member) (none : Member) (out : List B)
    → 1 ≤ length l → has_key (get_or l 0 none).key.now (members_of (take (length l - 1) (drop 1 l))) ≡ true
    → steps read (entries (members_of (take (length l - 1) (drop 1 l)))) out ≡ steps read (entries (members_of l)) out
front-passed read l none out some known =
    sym (ap (λ ms. steps read (entries (members_of ms)) out) (front-is l none some) ∙ entry-passed read (get_or l 0 none) (take (length l - 1) (drop 1 l)) out known)

not-true : (b : Bool) → not b ≡ true → b ≡ false
not-true true e = absurd cc
not-true false e = refl

-- the last flag is popped, which says that the first member is an entry
popped-true : (olds news : List Bool) (flag : Option Bool) (l : List Member) (none : Member)
    → 1 ≤ length l → olds ≡ news ++ option_to_list flag → option_eq beq flag (Some true) ≡ true → reverse olds ≡ lasts (members_of l)
    → (has_key (get_or l 0 none).key.now (members_of (take (length l - 1) (drop 1 l))) ≡ false) × (reverse news ≡ lasts (members_of (take (length l - 1) (drop 1 l))))
popped-true olds news None l none some is test flagged = absurd cc
popped-true olds news (Some false) l none some is test flagged = absurd cc
popped-true olds news (Some true) l none some is test flagged =
    let m : Member = get_or l 0 none in
    let rest : List Member = take (length l - 1) (drop 1 l) in
    let e : true ∷ reverse news ≡ not (has_key (member_view m).0 (members_of rest)) ∷ lasts (members_of rest) =
    sym (reverse-append news (true ∷ [])) ∙ ap reverse (sym is) ∙ flagged ∙ ap (λ ms. lasts (members_of ms)) (front-is l none some) in
    let head : not (has_key (member_view m).0 (members_of rest)) ≡ true = cc in
    let tail : reverse news ≡ lasts (members_of rest) = cc in
    (sym (again m rest) ∙ not-true (has_key (member_view m).0 (members_of rest)) head, tail)

-- so the members after it make with it what all make, and the flags left are theirs
pub flagged-read : {B : Type 0} (read : List ℕ × Tree → List B → Option (List B)) (olds news : List Bool) (flag : Option Bool) (l : List Member) (none : Member) (out new : List B)
    → 1 ≤ length l → olds ≡ news ++ option_to_list flag → option_eq beq flag (Some true) ≡ true → reverse olds ≡ lasts (members_of l) → read (member_view (get_or l 0 none)) out ≡ Some new
    → (steps read (entries (members_of (take (length l - 1) (drop 1 l)))) new ≡ steps read (entries (members_of l)) out) × (reverse news ≡ lasts (members_of (take (length l - 1) (drop 1 l))))
flagged-read read olds news flag l none out new some is test flagged was_read =
    let p = popped-true olds news flag l none some is test flagged in
    (front-read read l none out new some p.0 was_read, p.1)
