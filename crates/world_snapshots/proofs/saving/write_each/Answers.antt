-- Before the first line, one line more, and where a line isn't written.
use Rattle.std.proofs.lemmas.Result.{err_from_is_err_and}
use Rattle.replay_model.specs.Records.{record_of}
use Rattle.snapshot.specs.declared.line.Line.TheVariants.{Entity}
use Rattle.text_output.proofs.Parts.{text_more}
use Rattle.checkpoint.specs.{Archive.archive, Saved.ended}
use Rattle.world_snapshots.proofs.Written.{fails_then, text_written, writes_nothing}
use Rattle.world_snapshots.proofs.saving.write_each.Goals as goal

pub loop-id-init : goal.loop-id-init
loop-id-init g c = writes_nothing (archive g.F.Snapshots c.args.out.now)

pub returns-in_err-write_record : goal.returns-in_err-write_record
returns-in_err-write_record g c =
    let p = err_from_is_err_and c.from_residual.result c.from_residual.ensures.1 in
    rw (p.1, p.2) (fails_then _ _ _ _ _ _ _ c.loop-id.invariant c.in_err-write_record.ensures)

pub loop-id-preserved : goal.loop-id-preserved
loop-id-preserved g c =
    text_written (λ x. ended (Entity x (record_of c.args.world.now.replay.played.records x))) c.args.ids.now c.loop-id.id-index _ _ _ _ (text_more (λ x. ended (Entity x (record_of c.args.world.now.replay.played.records x))) c.args.ids.now _ _ c.loop-id-test.true)
    c.loop-id.invariant c.in_ok-write_record.ensures
