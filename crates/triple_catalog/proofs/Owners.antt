-- Counts of triples: what holds of all counts, at the order of triples.
use Rattle.std.proofs.Common.{◌≡◌, ℕ, ◌+◌, ◌-◌, Bool, cond}
use Rattle.std.specs.FinMap as map
use Rattle.std.specs.Ordering.{eq_by_cmp}
use Rattle.rdf_term.specs.{declared.triple.Triple.Triple, Order.triple_cmp, Order.triple_cmp-total}
use Rattle.term_pool.specs.Pool.{one_if}
use Rattle.slot_index.proofs.Raising as raising
use Rattle.slot_index.proofs.Raising.{kept}
use Rattle.triple_catalog.specs.Counts.{Counts, count_of, with_count, raised, lowered}

abbrev pub same_triple : Triple → Triple → Bool
same_triple = eq_by_cmp triple_cmp

pub get-with_count : (counts : Counts) (t : Triple) (n : ℕ) (q : Triple) → map.get (with_count counts t n) q ≡ cond (same_triple q t) (kept n) (map.get counts q)
get-with_count = raising.get-with_count triple_cmp-total

pub count_of-raised : (counts : Counts) (t q : Triple) → count_of (raised counts t) q ≡ count_of counts q + one_if (same_triple q t)
count_of-raised = raising.count_of-raised triple_cmp-total

pub count_of-lowered : (counts : Counts) (t q : Triple) → count_of (lowered counts t) q ≡ count_of counts q - one_if (same_triple q t)
count_of-lowered = raising.count_of-lowered triple_cmp-total
