-- The keys, borrowed, are the keys.
use Rattle.std.proofs.Common.{length, ap, sym, ◌∙◌}
use Rattle.triple_store.proofs.updates.timed.Goals as goal

pub times_after-times-requires-clause-rising : goal.times_after-times-requires-clause-rising
times_after-times-requires-clause-rising c = rw c.slices.ensures c.requires.rising

pub times_after-times-requires-clause-as_many : goal.times_after-times-requires-clause-as_many
times_after-times-requires-clause-as_many c = c.requires.as_many ∙ sym (ap length c.slices.ensures)

pub returns-clause-times : goal.returns-clause-times
returns-clause-times c = rw (c.slices.ensures, c.as_slice.ensures.value) at c.times_after-times.ensures
