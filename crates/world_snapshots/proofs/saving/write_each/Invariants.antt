-- The lines so far were written.
use Rattle.std.proofs.Common.{take, Ok}
use Rattle.std.specs.List.{flat_map}
use Rattle.replay_model.specs.Records.{record_of}
use Rattle.snapshot.specs.declared.line.Line.TheVariants.{Entity}
use Rattle.checkpoint.specs.{Archive.Writes, Archive.archive, Saved.ended}
use Rattle.world_snapshots.proofs.saving.write_each.Given as goal

abbrev pub invariant-loop-id : goal.invariant-loop-id
invariant-loop-id g l = Writes (flat_map (λ x. ended (Entity x (record_of l.world.replay.played.records x))) (take l.id-index l.ids)) (archive g.F.Snapshots l.fn.out) (archive g.F.Snapshots l.out) (Ok tt)
