-- The lines so far were written.
use Rattle.std.proofs.Common.{take, Ok}
use Rattle.std.specs.List.{flat_map}
use Rattle.snapshot.specs.declared.line.Line.TheVariants.{Side}
use Rattle.checkpoint.specs.{Archive.Writes, Archive.archive, Saved.ended}
use Rattle.world_snapshots.proofs.saving.write_entries.Given as goal

abbrev pub invariant-loop-entry : goal.invariant-loop-entry
invariant-loop-entry g l = Writes (flat_map (λ e. ended (Side e)) (take l.entry-index l.entries)) (archive g.F.Snapshots l.fn.out) (archive g.F.Snapshots l.out) (Ok tt)
