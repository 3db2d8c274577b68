-- The keys from one to another are those from the first's position on, up to the other.
use Rattle.std.proofs.Common.{◌≡◌, ℕ, Bool, true, false, cond, ◌&&◌, List, [], ◌∷◌, ◌++◌, Ordering, Less, Equal, Greater, refl, sym, ◌∙◌, ap, subst, append-nil, append_assoc}
use Rattle.std.specs.Cmp.{IsTotalOrder}
use Rattle.std.specs.Ordering.{is_le}
use Rattle.std.proofs.lemmas.List.Elements.{filter-append}
use Rattle.sorted_sets.specs.Rising.{Above, IsRising}
use Rattle.sorted_sets.proofs.Rising.{turned, Above-weaken}
use Rattle.block_index.specs.Blocks.{keys_of, keys_between}
use Rattle.block_index.specs.Search.{keys_before, keys_from, Below, Begins, Stands}
use Rattle.block_index.specs.Taking.{up_to, Takes}
use Rattle.block_index.proofs.Parts.{at_position}
use Rattle.block_index.proofs.Standing.{tail_rising}

module _ {K : Type 0} {R : K → K → Ordering} (o : IsTotalOrder R) (from to : K) where
  none_below : (xs : List K) → Below R from xs → keys_between R from to xs ≡ []
  none_below [] h = refl
  none_below (x ∷ xs) h = ap (λ r. cond (is_le r && is_le (R x to)) (x ∷ keys_between R from to xs) (keys_between R from to xs)) (turned o x from Less h.0) ∙ none_below xs h.1

  none_above : (xs : List K) → Above R to xs → keys_between R from to xs ≡ []
  none_above [] h = refl
  none_above (x ∷ xs) h =
      ap (λ r. cond (is_le (R from x) && is_le r) (x ∷ keys_between R from to xs) (keys_between R from to xs)) (turned o to x Less h.0)
      ∙ never (is_le (R from x)) ∙ none_above xs h.1
    where
      never : (b : Bool) → cond (b && false) (x ∷ keys_between R from to xs) (keys_between R from to xs) ≡ keys_between R from to xs
      never true = refl
      never false = refl

  first : (x : K) (xs : List K) → keys_between R from to xs ≡ up_to R to xs → Above R x xs → cond (is_le (R x to)) (x ∷ keys_between R from to xs) (keys_between R from to xs) ≡ cond (is_le (R x to)) (x ∷ up_to R to xs) []
  first x xs rest above =
      elim (R x to) as (λ r. R x to ≡ r → cond (is_le r) (x ∷ keys_between R from to xs) (keys_between R from to xs) ≡ cond (is_le r) (x ∷ up_to R to xs) []) [
        | Less ↦ λ e. ap (λ l. x ∷ l) rest
        | Equal ↦ λ e. ap (λ l. x ∷ l) rest
        | Greater ↦ λ e. none_above xs (Above-weaken o to x xs (turned o x to Greater e) above)
      ] refl

  all_from : (xs : List K) → Above R from xs → IsRising R xs → keys_between R from to xs ≡ up_to R to xs
  all_from [] h rising = refl
  all_from (x ∷ xs) h rising =
      ap (λ r. cond (is_le r && is_le (R x to)) (x ∷ keys_between R from to xs) (keys_between R from to xs)) h.0
      ∙ first x xs (all_from xs h.1 rising.1) rising.0

  pub above_tied : (x : K) (xs : List K) → R from x ≡ Equal → Above R x xs → Above R from xs
  above_tied x [] e h = tt
  above_tied x (y ∷ ys) e h = (o.congr from x y e ∙ h.0, above_tied x ys e h.1)

  from_position : (found : Bool) (xs : List K) → Begins R from found xs → IsRising R xs → keys_between R from to xs ≡ up_to R to xs
  from_position false xs h rising = all_from xs h rising
  from_position true [] h rising = absurd h
  from_position true (x ∷ xs) h rising =
      ap (λ r. cond (is_le r && is_le (R x to)) (x ∷ keys_between R from to xs) (keys_between R from to xs)) h
      ∙ first x xs (all_from xs (above_tied x xs h rising.0) rising.1) rising.0

  -- the keys between two are those from the first one's position on, up to the other
  pub range_is : (bs : List (List K)) (i at : ℕ) (found : Bool) → Stands R from bs i at found → IsRising R (keys_of bs) → keys_between R from to (keys_of bs) ≡ up_to R to (keys_from bs i at)
  range_is bs i at found s rising =
      let split = at_position bs i at in
      ap (keys_between R from to) split
      ∙ filter-append _ (keys_before bs i at) (keys_from bs i at)
      ∙ ap (λ l. l ++ keys_between R from to (keys_from bs i at)) (none_below (keys_before bs i at) s.below)
      ∙ from_position found (keys_from bs i at) s.begins (tail_rising o (keys_before bs i at) (keys_from bs i at) (subst (IsRising R) split rising))

module _ {K : Type 0} (R : K → K → Ordering) (to : K) where
  -- what was taken of two lists one after the other
  pub takes_then : (xs ys before some found : List K) (one more : Bool) → one ≡ true → Takes R to xs before some one → Takes R to ys some found more → Takes R to (xs ++ ys) before found more
  takes_then xs ys before some found one more goes h g rest =
      ap (λ l. before ++ up_to R to l) (append_assoc xs ys rest)
      ∙ h (ys ++ rest)
      ∙ ap (λ b. some ++ cond b (up_to R to (ys ++ rest)) []) goes
      ∙ g rest

  pub takes_stop : (xs ys before found : List K) (more : Bool) → more ≡ false → Takes R to xs before found more → Takes R to (xs ++ ys) before found false
  takes_stop xs ys before found more stop h rest =
      ap (λ l. before ++ up_to R to l) (append_assoc xs ys rest)
      ∙ h (ys ++ rest)
      ∙ ap (λ b. found ++ cond b (up_to R to (ys ++ rest)) []) stop

  pub takes_same : (xs ys before found : List K) (more : Bool) → xs ≡ ys → Takes R to xs before found more → Takes R to ys before found more
  takes_same xs ys before found more e h rest = ap (λ l. before ++ up_to R to (l ++ rest)) (sym e) ∙ h rest

  pub taken_whole : (keys before found : List K) (more : Bool) → before ≡ [] → Takes R to keys before found more → found ≡ up_to R to keys
  taken_whole keys before found more start h =
      sym (ap (up_to R to) (sym (append-nil keys))
      ∙ ap (λ l. l ++ up_to R to (keys ++ [])) (sym start)
      ∙ h []
      ∙ ap (λ l. found ++ l) (none more) ∙ append-nil found)
    where
      none : (b : Bool) → cond b (up_to R to []) [] ≡ []
      none true = refl
      none false = refl
