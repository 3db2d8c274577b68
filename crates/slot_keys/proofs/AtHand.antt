-- Keys that are in one of two lists.
use Rattle.std.proofs.Common.{◌≡◌, ℕ, Bool, true, false, ◌||◌, List, [], ◌∷◌, ◌++◌, length, Result, Ok, Err, is_ok, refl, sym, ◌∙◌, ap, subst, append_assoc, true≢false}
use Rattle.std.specs.Prelude.{is_err, OnOk}
use Rattle.std.specs.BTreeSet.{insert_key}
use Rattle.std.specs.List.Sorted.{IsSearchInRange, IsBinarySearchResult}
use Rattle.sorted_sets.specs.Rising.{has, IsRising}
use Rattle.sorted_sets.proofs.Bools.{equal, or_comm, or_false, or_true}
use Rattle.sorted_sets.proofs.Rising.{has-append, has-insert_key}
use Rattle.sorted_sets.proofs.Sorting.{found}
use Rattle.slot_keys.specs.declared.key.Key.{Key}
use Rattle.slot_keys.specs.Keys.{key_cmp, key_cmp-total, key_cmp-IsAntisymmetric, same_key}
use Rattle.slot_keys.proofs.Lists.{has-push}

pub held_old : (old added : List Key) (key : Key) (r : Result ℕ ℕ) → IsRising key_cmp old → IsSearchInRange r (length old) → IsBinarySearchResult (λ y. key_cmp y key) old r → is_ok r ≡ true → has key_cmp key (old ++ added) ≡ true
held_old old added key r rises within at ok = has-append key_cmp key old added ∙ ap (λ b. b || has key_cmp key added) (sym (found key_cmp-total old key r rises within at) ∙ ok)

pub not_held : (old added : List Key) (key : Key) (r : Result ℕ ℕ) → IsRising key_cmp old → IsSearchInRange r (length old) → IsBinarySearchResult (λ y. key_cmp y key) old r → is_ok r ≡ false → has key_cmp key added ≡ false → has key_cmp key (old ++ added) ≡ false
not_held old added key r rises within at missed none = has-append key_cmp key old added ∙ or_false _ _ (sym (found key_cmp-total old key r rises within at) ∙ missed) none

pub held_added : (old added : List Key) (key : Key) → has key_cmp key added ≡ true → has key_cmp key (old ++ added) ≡ true
held_added old added key there = has-append key_cmp key old added ∙ or_true _ _ there

-- one more key among those that came
module _ (old added keys : List Key) (held : (key : Key) → has key_cmp key (old ++ added) ≡ has key_cmp key (old ++ keys)) (key : Key) where
  pushed : (k : Key) → has key_cmp k (old ++ (keys ++ key ∷ [])) ≡ (has key_cmp k (old ++ keys) || same_key k key)
  pushed k = ap (has key_cmp k) (sym (append_assoc old keys (key ∷ []))) ∙ has-push key_cmp k (old ++ keys) key

  absorbed : (a b : Bool) → (b ≡ true → a ≡ true) → (a || b) ≡ a
  absorbed true b h = refl
  absorbed false true h = sym (h refl)
  absorbed false false h = refl

  -- which was at hand
  pub held_again : has key_cmp key (old ++ added) ≡ true → (k : Key) → has key_cmp k (old ++ added) ≡ has key_cmp k (old ++ (keys ++ key ∷ []))
  held_again there k = held k ∙ sym (pushed k ∙ absorbed (has key_cmp k (old ++ keys)) (same_key k key) (λ same. subst (λ (x : Key). has key_cmp x (old ++ keys) ≡ true) (sym (key_cmp-IsAntisymmetric k key (equal _ same))) (sym (held key) ∙ there)))

  last : (a b c : Bool) → (a || (b || c)) ≡ ((a || c) || b)
  last true b c = refl
  last false b c = or_comm b c

  -- or is added
  pub held_more : (k : Key) → has key_cmp k (old ++ insert_key key_cmp added key) ≡ has key_cmp k (old ++ (keys ++ key ∷ []))
  held_more k =
      has-append key_cmp k old (insert_key key_cmp added key) ∙ ap (λ b. has key_cmp k old || b) (has-insert_key key_cmp-total k key added)
      ∙ last (has key_cmp k old) (same_key k key) (has key_cmp k added)
      ∙ ap (λ b. b || same_key k key) (sym (has-append key_cmp k old added) ∙ held k) ∙ sym (pushed k)

-- what a call says of its success, where it succeeded
pub on_ok : {A B : Type 0} (r : Result A B) (P : Type 0) → is_err r ≡ false → OnOk r P → P
on_ok (Ok x) P e h = h
on_ok (Err x) P e h = absurd (true≢false e)
