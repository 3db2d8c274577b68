-- Before the first line, one line more, and where a line isn't written.
use Rattle.std.proofs.lemmas.Result.{err_from_is_err_and}
use Rattle.snapshot.specs.declared.line.Line.TheVariants.{Remembered}
use Rattle.text_output.proofs.Parts.{text_more}
use Rattle.checkpoint.specs.{Archive.archive, Saved.ended}
use Rattle.world_snapshots.proofs.Written.{fails_then, text_written, writes_nothing}
use Rattle.world_snapshots.proofs.saving.write_events.Goals as goal

pub loop-event-init : goal.loop-event-init
loop-event-init g c = writes_nothing (archive g.F.Snapshots c.args.out.now)

pub returns-in_err-write_line : goal.returns-in_err-write_line
returns-in_err-write_line g c =
    let p = err_from_is_err_and c.from_residual.result c.from_residual.ensures.1 in
    rw (p.1, p.2) (fails_then _ _ _ _ _ _ _ c.loop-event.invariant c.in_err-write_line.ensures)

pub loop-event-preserved : goal.loop-event-preserved
loop-event-preserved g c =
    text_written (λ e. ended (Remembered e)) c.args.events.now c.loop-event.event-index _ _ _ _ (text_more (λ e. ended (Remembered e)) c.args.events.now _ _ c.loop-event-test.true)
    c.loop-event.invariant c.in_ok-write_line.ensures
