-- The lines so far were written.
use Rattle.std.proofs.Common.{take, Ok}
use Rattle.std.specs.List.{flat_map}
use Rattle.snapshot.specs.declared.line.Line.TheVariants.{Remembered}
use Rattle.checkpoint.specs.{Archive.Writes, Archive.archive, Saved.ended}
use Rattle.world_snapshots.proofs.saving.write_events.Given as goal

abbrev pub invariant-loop-event : goal.invariant-loop-event
invariant-loop-event g l = Writes (flat_map (λ e. ended (Remembered e)) (take l.event-index l.events)) (archive g.F.Snapshots l.fn.out) (archive g.F.Snapshots l.out) (Ok tt)
