-- The keys of a map's entries rise.
use Rattle.std.proofs.Common.{◌≡◌, Bool, true, false, ◌&&◌, T, List, [], ◌∷◌, Ordering, Less, Equal, Greater, is_lt, refl}
use Rattle.std.specs.Prelude.{map as mapped}
use Rattle.std.specs.FinMap.Entries.{below_all, is_sorted}
use Rattle.sorted_sets.specs.Rising.{Above, IsRising}

-- what a test by two tests says of each
pub and_first : (a b : Bool) → T (a && b) → T a
and_first true b h = tt
and_first false b h = h

pub and_second : (a b : Bool) → T (a && b) → T b
and_second true b h = h
and_second false b h = absurd h

-- an order's answer that `is_lt` passes is `Less`
pub less : (r : Ordering) → T (is_lt r) → r ≡ Less
less Less h = refl
less Equal h = absurd h
less Greater h = absurd h

module _ {K X : Type 0} (R : K → K → Ordering) where
  above_keys : (k : K) (es : List (K × X)) → T (below_all R k es) → Above R k (mapped (λ e. e.0) es)
  above_keys k [] h = tt
  above_keys k (e ∷ es) h = (less _ (and_first _ _ h), above_keys k es (and_second _ _ h))

  -- the keys of sorted entries rise
  pub rising_keys : (es : List (K × X)) → T (is_sorted R es) → IsRising R (mapped (λ e. e.0) es)
  rising_keys [] h = tt
  rising_keys (e ∷ es) h = (above_keys e.0 es (and_first _ _ h), rising_keys es (and_second _ _ h))
