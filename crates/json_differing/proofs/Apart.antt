-- Members gone over from the end: the set has the names seen, and none comes twice.
use Rattle.std.proofs.Common.{◌≡◌, Bool, true, false, not, cond, ◌||◌, ℕ, zero, suc, ◌-◌, ◌≤◌, List, [], ◌∷◌, ◌++◌, length, take, drop, get_or, map, inl, inr, refl, sym, ap, subst, ◌∙◌, append_assoc, arith}
use Rattle.std.specs.Prelude.{◌≢◌}
use Rattle.std.specs.Ordering.{nat_cmp, is_eq}
use Rattle.std.specs.Cmp.Lexicographic.{slice_cmp}
use Rattle.std.specs.Str.{bytes_eq}
use Rattle.std.specs.BTreeSet.{BTreeSet, contains}
use Rattle.std.proofs.lemmas.Map.Text.{is_eq-slice_cmp}
use Rattle.std.proofs.lemmas.Slice.Eq.{bytes_eq-Decides}
use denote.Ref.{Bor}
use Rattle.sorted_sets.specs.Rising.{In}
use Rattle.json_differing.specs.declared.spelled.Spelled.{Spelled}
use Rattle.json_spell.specs.Tree.{Tree}
use Rattle.json_differing.specs.Spelled.{spelled_view}
use Rattle.json_differing.specs.Differing.{AreApart, has_name}

-- whether the set has the text
abbrev pub has : BTreeSet (Bor (List ℕ)) → Bor (List ℕ) → Bool
has seen key = contains (λ x y. slice_cmp nat_cmp x.now y.now) seen key

-- what was passed, from the end
pub record Passed (members rest : List Spelled) (seen : BTreeSet (Bor (List ℕ))) : Type 0 where
  pub passed : List Spelled
  pub is : members ≡ rest ++ passed
  pub apart : AreApart (map spelled_view passed)
  pub are_seen : (key : Bor (List ℕ)) (o : List ℕ × Tree) → In o (map spelled_view passed) → o.0 ≡ key.now → has seen key ≡ true

-- at the end, all are apart
pub passed_all : (members : List Spelled) (seen : BTreeSet (Bor (List ℕ))) → Passed members [] seen → AreApart (map spelled_view members)
passed_all members seen p = subst (λ (ms : List Spelled). AreApart (map spelled_view ms)) (sym p.is) p.apart

-- a list by its last value
ends-at : {A : Type 0} (n : ℕ) (xs : List A) (x : A) → length xs ≡ suc n → xs ≡ take n xs ++ get_or xs n x ∷ []
ends-at n [] x e = absurd (omega (arith, e))
ends-at zero (y ∷ []) x e = refl
ends-at zero (y ∷ z ∷ xs) x e = absurd (omega (arith, e))
ends-at (suc n) (y ∷ xs) x e = ap (λ r. y ∷ r) (ends-at n xs x (omega (arith, e)))

-- one member more in front of those passed, whose name wasn't seen
pub passed_last : (members rest : List Spelled) (none : Spelled) (flag : Bool) (seen new : BTreeSet (Bor (List ℕ))) (key : Bor (List ℕ))
    → Passed members rest seen → 1 ≤ length rest → key.now ≡ (spelled_view (get_or rest (length rest - 1) none)).0 → flag ≡ not (has seen key) → flag ≡ true
    → ((q : Bor (List ℕ)) → has new q ≡ cond (is_eq (slice_cmp nat_cmp key.now q.now)) true (has seen q)) → Passed members (take (length rest - 1) rest) new
passed_last members rest none flag seen new key p some name flag_is unseen update =
    let m = get_or rest (length rest - 1) none in
    let before = take (length rest - 1) rest in
    let split : rest ≡ before ++ m ∷ [] = ends-at (length rest - 1) rest none (omega (arith, some)) in
    let fresh : has seen key ≡ false = no (has seen key) (sym flag_is ∙ unseen) in
    record {
      passed = m ∷ p.passed;
      is = p.is ∙ ap (λ r. r ++ p.passed) split ∙ append_assoc before (m ∷ []) p.passed;
      apart = ((λ o among same. let there = p.are_seen key o among (same ∙ sym name) in absurd cc), p.apart);
      are_seen = λ q o among same. update q ∙ seen_more q o (is_eq (slice_cmp nat_cmp key.now q.now)) (is_eq-slice_cmp key.now q.now) among same;
    }
  where
    no : (b : Bool) → not b ≡ true → b ≡ false
    no true e = absurd cc
    no false e = refl

    seen_more : (q : Bor (List ℕ)) (o : List ℕ × Tree) (b : Bool) → b ≡ bytes_eq key.now q.now → In o (map spelled_view (get_or rest (length rest - 1) none ∷ p.passed)) → o.0 ≡ q.now → cond b true (has seen q) ≡ true
    seen_more q o true is among same = refl
    seen_more q o false is (inl first) same =
        let equal : bytes_eq key.now q.now ≡ true = (bytes_eq-Decides key.now q.now).1 (name ∙ sym (ap (λ (v : List ℕ × Tree). v.0) first) ∙ same) in
        absurd cc
    seen_more q o false is (inr among) same = p.are_seen q o among same

-- a name that no member has
none_named : (name : List ℕ) (ms : List (List ℕ × Tree)) → has_name name ms ≡ false → (o : List ℕ × Tree) → In o ms → o.0 ≢ name
none_named name [] none o among = absurd among
none_named name (m ∷ ms) none o among = at (bytes_eq m.0 name) refl none among (none_named name ms)
  where
    at : (b : Bool) → bytes_eq m.0 name ≡ b → (b || has_name name ms) ≡ false → In o (m ∷ ms) → (has_name name ms ≡ false → (p : List ℕ × Tree) → In p ms → p.0 ≢ name) → o.0 ≢ name
    at true is none among rest = absurd cc
    at false is none (inl first) rest = λ same. let equal : bytes_eq m.0 name ≡ true = (bytes_eq-Decides m.0 name).1 (ap (λ (v : List ℕ × Tree). v.0) (sym first) ∙ same) in absurd cc
    at false is none (inr among) rest = rest none o among

-- one more member in front, whose name no other has
apart_more : (m : List ℕ × Tree) (ms : List (List ℕ × Tree)) → has_name m.0 ms ≡ false → AreApart ms → AreApart (m ∷ ms)
apart_more m ms none apart = (none_named m.0 ms none, apart)

all_taken : {A : Type 0} (n : ℕ) (xs : List A) → n ≡ length xs → take n xs ≡ xs
all_taken zero [] e = refl
all_taken zero (x ∷ xs) e = absurd (omega (arith, e))
all_taken (suc n) [] e = refl
all_taken (suc n) (x ∷ xs) e = ap (λ l. x ∷ l) (all_taken n xs (omega (arith, e)))

-- the members behind the first one are what is left of the list
behind_first : {A : Type 0} (x : A) (xs : List A) → take (length (x ∷ xs) - 1) (drop 1 (x ∷ xs)) ≡ xs
behind_first x xs = all_taken (length (x ∷ xs) - 1) xs (omega arith)

-- the first member goes in front of those behind it, of which none has its name
pub apart_front : (left : List Spelled) (none : Spelled) (name : List ℕ) → 1 ≤ length left → name ≡ (spelled_view (get_or left 0 none)).0
    → has_name name (map spelled_view (take (length left - 1) (drop 1 left))) ≡ false → AreApart (map spelled_view (take (length left - 1) (drop 1 left))) → AreApart (map spelled_view left)
apart_front [] none name some name_is no_other apart = absurd (omega (arith, some))
apart_front (s ∷ ss) none name some name_is no_other apart =
    let rest : take (length (s ∷ ss) - 1) (drop 1 (s ∷ ss)) ≡ ss = behind_first s ss in
    let views = λ (l : List Spelled). map spelled_view l in
    apart_more (spelled_view s) (views ss) (ap (λ q. has_name q (views ss)) (sym name_is) ∙ ap (λ l. has_name name (views l)) (sym rest) ∙ no_other)
    (subst (λ (l : List Spelled). AreApart (views l)) rest apart)
