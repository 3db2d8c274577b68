-- The entities so far whose pages are kept were counted.
use Rattle.std.proofs.Common.{◌≡◌, ◌≤◌, take}
use Rattle.std.specs.List.{count_by}
use Rattle.drill_replay.specs.Summary.{is_kept_in}
use Rattle.drill_replay.proofs.summary.kept.Given as goal

abbrev pub invariant-loop-id : goal.invariant-loop-id
invariant-loop-id l = (l.count ≡ count_by (is_kept_in l.world.replay.played.records) (take l.id-index l.id-items)) × (l.count ≤ l.id-index)
