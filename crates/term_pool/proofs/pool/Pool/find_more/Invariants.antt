use Rattle.std.proofs.Common.{◌≢◌, ℕ, ◌<◌, get_or, Some}
use Rattle.term_pool.specs.Pool.{text_in_slot}
use Rattle.term_pool.proofs.pool.Pool.find_more.Given as goal

abbrev pub invariant-loop-number : goal.invariant-loop-number
invariant-loop-number l = (k : ℕ) → k < l.number-index → text_in_slot l.self l.region (get_or l.self.more.items k 0) ≢ Some l.text
