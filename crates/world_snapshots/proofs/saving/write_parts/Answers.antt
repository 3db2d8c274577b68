-- The lines are those of the snapshot; where one isn't written, the others are no matter.
use Rattle.std.proofs.Common.{Ok, arith}
use Rattle.std.proofs.lemmas.Result.{err_from_is_err_and}
use Rattle.checkpoint.specs.{Archive.archive, Saved.saved_of}
use Rattle.world_snapshots.proofs.{SavedText.save_all, Written.fails_at_once, Written.fails_then, Written.writes_both, Written.writes_nothing}
use Rattle.world_snapshots.proofs.saving.write_parts.Goals as goal

pub returns-in_err-lines : goal.returns-in_err-lines
returns-in_err-lines g c =
    let p = err_from_is_err_and c.from_residual.result c.from_residual.ensures.1 in
    rw (p.1, p.2) (fails_at_once _ (archive g.F.Snapshots c.args.out.now))

pub returns-in_err-write_line : goal.returns-in_err-write_line
returns-in_err-write_line g c =
    let p = err_from_is_err_and c.from_residual-in_err-write_line.result c.from_residual-in_err-write_line.ensures.1 in
    rw (p.1, p.2) (fails_then _ _ _ _ _ _ _ (writes_nothing (archive g.F.Snapshots c.args.out.now)) c.in_err-write_line.ensures)

pub returns-in_err-write_events : goal.returns-in_err-write_events
returns-in_err-write_events g c =
    let p = err_from_is_err_and c.from_residual-in_err-write_events.result c.from_residual-in_err-write_events.ensures.1 in
    rw (p.1, p.2) (fails_then _ _ _ _ _ _ _ c.in_ok-write_line.ensures c.in_err-write_events.ensures)

pub returns-in_err-write_entries : goal.returns-in_err-write_entries
returns-in_err-write_entries g c =
    let p = err_from_is_err_and c.from_residual-in_err-write_entries.result c.from_residual-in_err-write_entries.ensures.1 in
    rw (p.1, p.2) (fails_then _ _ _ _ _ _ _ (writes_both (Ok tt) _ _ _ _ _ c.in_ok-write_line.ensures c.in_ok-write_events.ensures) c.in_err-write_entries.ensures)

pub returns-in_err-write_records : goal.returns-in_err-write_records
returns-in_err-write_records g c =
    let p = err_from_is_err_and c.from_residual-in_err-write_records.result c.from_residual-in_err-write_records.ensures.1 in
    rw (p.1, p.2) (fails_then _ _ _ _ _ _ _ (writes_both (Ok tt) _ _ _ _ _ (writes_both (Ok tt) _ _ _ _ _ c.in_ok-write_line.ensures c.in_ok-write_events.ensures) c.in_ok-write_entries.ensures)
    c.in_err-write_records.ensures)

pub returns : goal.returns
returns g c =
    save_all (saved_of c.args.world.now c.args.counts) c.head_of.result c.args.lists.events.now c.entries-entries.result.now c.args.lists.entities.now c.in_ok-lines.lines
    c.head_of.ensures c.requires.events c.entries-entries.ensures c.requires.entities (omega arith) _ _ _ _ _ _ _ c.in_ok-write_line.ensures c.in_ok-write_events.ensures
    c.in_ok-write_entries.ensures c.in_ok-write_records.ensures c.write_line-2.ensures
