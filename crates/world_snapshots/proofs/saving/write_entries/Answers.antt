-- Before the first line, one line more, and where a line isn't written.
use Rattle.std.proofs.lemmas.Result.{err_from_is_err_and}
use Rattle.snapshot.specs.declared.line.Line.TheVariants.{Side}
use Rattle.text_output.proofs.Parts.{text_more}
use Rattle.checkpoint.specs.{Archive.archive, Saved.ended}
use Rattle.world_snapshots.proofs.Written.{fails_then, text_written, writes_nothing}
use Rattle.world_snapshots.proofs.saving.write_entries.Goals as goal

pub loop-entry-init : goal.loop-entry-init
loop-entry-init g c = writes_nothing (archive g.F.Snapshots c.args.out.now)

pub returns-in_err-write_line : goal.returns-in_err-write_line
returns-in_err-write_line g c =
    let p = err_from_is_err_and c.from_residual.result c.from_residual.ensures.1 in
    rw (p.1, p.2) (fails_then _ _ _ _ _ _ _ c.loop-entry.invariant c.in_err-write_line.ensures)

pub loop-entry-preserved : goal.loop-entry-preserved
loop-entry-preserved g c =
    text_written (λ e. ended (Side e)) c.args.entries.now c.loop-entry.entry-index _ _ _ _ (text_more (λ e. ended (Side e)) c.args.entries.now _ _ c.loop-entry-test.true)
    c.loop-entry.invariant c.in_ok-write_line.ensures
