-- The same set of triples in three orders.
use Rattle.std.specs.Prelude.{◌≡◌, Bool, List, count_by}
use Rattle.std.specs.List.{All}
use Rattle.sorted_sets.specs.Rising.{IsRising}
use Rattle.slot_keys.specs.declared.key.Key.{Key}
use Rattle.slot_keys.specs.Keys.{FitsSlots, key_cmp, turned}

-- the second list has the turned triples of the first: each test passes as often
pub record IsTurned (xs ys : List Key) : Type 0 where
  pub alike : (p : Key → Bool) → count_by p ys ≡ count_by (λ key. p (turned key)) xs

-- the triples in rising order, turned once, and turned twice
pub record IsOrders (subjects predicates objects : List Key) : Type 0 where
  pub rising : IsRising key_cmp subjects
  pub second : IsTurned subjects predicates
  pub third : IsTurned predicates objects
  pub fit : All FitsSlots subjects
  pub fit_second : All FitsSlots predicates
  pub fit_third : All FitsSlots objects
