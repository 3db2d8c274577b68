-- Keys that were added and are found again.
use Rattle.std.proofs.Common.{◌≡◌, ℕ, zero, suc, ◌<◌, Bool, true, false, ◌||◌, ⊎_elim, List, [], ◌∷◌, ◌++◌, length, Option, Some, None, slice_get, slice_set, refl, sym, ◌∙◌, ap, arith, append_assoc}
use Rattle.std.specs.BTreeSet.{insert_key}
use Rattle.std.proofs.lemmas.Bool.{cases_eq}
use Rattle.std.proofs.lemmas.List.{length-set}
use Rattle.std.proofs.lemmas.Option.{slice_get_within}
use Rattle.sorted_sets.specs.Rising.{has}
use Rattle.sorted_sets.proofs.Bools.{equal, or_comm, or_false, or_swap}
use Rattle.sorted_sets.proofs.Rising.{has-insert_key}
use Rattle.slot_keys.specs.declared.key.Key.{Key}
use Rattle.slot_keys.specs.Keys.{key_cmp, key_cmp-total, key_cmp-IsAntisymmetric, same_key}
use Rattle.slot_keys.specs.declared.added.Added.{Added}
use Rattle.slot_keys.specs.Added.{bucket_of, first_of, is_added, is_held, is_there}
use Rattle.slot_keys.proofs.Lists.{has-push, never}

-- ---- a key more

get_set : {A : Type 0} (xs : List A) (i : ℕ) (x : A) → i < length xs → slice_get (slice_set xs i x) i ≡ Some x
get_set [] i x low = absurd (omega arith)
get_set (y ∷ ys) zero x low = refl
get_set (y ∷ ys) (suc i) x low = get_set ys i x (omega arith)

get_set_other : {A : Type 0} (xs : List A) (i j : ℕ) (x : A) → (j ≡ i → ⊥) → slice_get (slice_set xs i x) j ≡ slice_get xs j
get_set_other [] i j x ne = refl
get_set_other (y ∷ ys) zero zero x ne = absurd (ne refl)
get_set_other (y ∷ ys) zero (suc j) x ne = refl
get_set_other (y ∷ ys) (suc i) zero x ne = refl
get_set_other (y ∷ ys) (suc i) (suc j) x ne = get_set_other ys i j x (λ e. ne (ap suc e))

joined : (o : Option (Option Key)) (k : Key) (same there : Bool) → (o ≡ Some None → same ≡ false) → is_there o k (same || there) ≡ (same || is_there o k there)
joined None k same there f = refl
joined (Some None) k same there f = sym (ap (λ b. b || false) (f refl))
joined (Some (Some first)) k same there f = or_swap (same_key k first) same there

module _ (firsts : List (Option Key)) (others : List Key) (key : Key) (n b : ℕ) (buckets : n ≡ length firsts) (is : b ≡ bucket_of key n) where
  its : b ≡ bucket_of key (length firsts)
  its = is ∙ ap (bucket_of key) buckets

  -- in another bucket there are other keys
  another : (k : Key) → (bucket_of k (length firsts) ≡ b → ⊥) → same_key k key ≡ false
  another k ne = never (same_key k key) (λ same. ne (ap (λ x. bucket_of x (length firsts)) (key_cmp-IsAntisymmetric k key (equal _ same)) ∙ sym its))

  -- the first one of its bucket
  module _ (empty : slice_get firsts b ≡ Some None) (apart : (k : Key) → first_of firsts k ≡ Some None → has key_cmp k others ≡ false) where
    first_then : (k : Key) → first_of (slice_set firsts b (Some key)) k ≡ slice_get (slice_set firsts b (Some key)) (bucket_of k (length firsts))
    first_then k = ap (λ m. slice_get (slice_set firsts b (Some key)) (bucket_of k m)) (length-set firsts b (Some key))

    its_own : (k : Key) → bucket_of k (length firsts) ≡ b → first_of (slice_set firsts b (Some key)) k ≡ Some (Some key)
    its_own k e = first_then k ∙ ap (slice_get (slice_set firsts b (Some key))) e ∙ get_set firsts b (Some key) (slice_get_within firsts b None empty)

    others_own : (k : Key) → (bucket_of k (length firsts) ≡ b → ⊥) → first_of (slice_set firsts b (Some key)) k ≡ first_of firsts k
    others_own k ne = first_then k ∙ get_set_other firsts b (bucket_of k (length firsts)) (Some key) ne

    pub first_added : (k : Key) → is_there (first_of (slice_set firsts b (Some key)) k) k (has key_cmp k others) ≡ (same_key k key || is_there (first_of firsts k) k (has key_cmp k others))
    first_added k = ⊎_elim
        (λ e.
        let was : first_of firsts k ≡ Some None = ap (slice_get firsts) e ∙ empty in
        ap (λ o. is_there o k (has key_cmp k others)) (its_own k e) ∙ ap (λ t. same_key k key || t) (apart k was ∙ sym (ap (λ o. is_there o k (has key_cmp k others)) was)))
        (λ ne. ap (λ o. is_there o k (has key_cmp k others)) (others_own k ne) ∙ sym (ap (λ t. t || is_there (first_of firsts k) k (has key_cmp k others)) (another k ne)))
        (cases_eq (bucket_of k (length firsts)) b)

    pub first_apart : (k : Key) → first_of (slice_set firsts b (Some key)) k ≡ Some None → has key_cmp k others ≡ false
    first_apart k none = ⊎_elim
        (λ e. absurd (filled (sym (its_own k e) ∙ none)))
        (λ ne. apart k (sym (others_own k ne) ∙ none))
        (cases_eq (bucket_of k (length firsts)) b)
      where
        filled : Some (Some key) ≡ Some None → ⊥
        filled e = absurd cc

  -- or one of the others
  module _ (full : slice_get firsts b ≡ Some None → ⊥) where
    not_it : (k : Key) → first_of firsts k ≡ Some None → same_key k key ≡ false
    not_it k none = never (same_key k key) (λ same. full (ap (slice_get firsts) its ∙ ap (first_of firsts) (sym (key_cmp-IsAntisymmetric k key (equal _ same))) ∙ none))

    pub other_added : (k : Key) → is_there (first_of firsts k) k (has key_cmp k (insert_key key_cmp others key)) ≡ (same_key k key || is_there (first_of firsts k) k (has key_cmp k others))
    other_added k = ap (is_there (first_of firsts k) k) (has-insert_key key_cmp-total k key others) ∙ joined (first_of firsts k) k (same_key k key) (has key_cmp k others) (not_it k)

    pub other_apart : ((k : Key) → first_of firsts k ≡ Some None → has key_cmp k others ≡ false) → (k : Key) → first_of firsts k ≡ Some None → has key_cmp k (insert_key key_cmp others key) ≡ false
    other_apart apart k none = has-insert_key key_cmp-total k key others ∙ or_false _ _ (not_it k none) (apart k none)

-- ---- keys at hand

last : (a b c : Bool) → (a || (b || c)) ≡ ((a || c) || b)
last true b c = refl
last false b c = or_comm b c

-- one key more is at hand
pub held_with : (old : List Key) (added new : Added) (keys : List Key) → ((k : Key) → is_held old added k ≡ has key_cmp k (old ++ keys)) → (key : Key) → ((k : Key) → is_added new k ≡ (same_key k key || is_added added k)) → (k : Key) → is_held old new k ≡ has key_cmp k (old ++ (keys ++ key ∷ []))
held_with old added new keys held key more k =
    ap (λ b. has key_cmp k old || b) (more k)
    ∙ last (has key_cmp k old) (same_key k key) (is_added added k)
    ∙ ap (λ b. b || same_key k key) (held k)
    ∙ sym (ap (has key_cmp k) (sym (append_assoc old keys (key ∷ []))) ∙ has-push key_cmp k (old ++ keys) key)
