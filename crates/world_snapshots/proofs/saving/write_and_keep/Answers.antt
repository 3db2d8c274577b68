-- A snapshot that wasn't begun, one that wasn't written whole, and one that was.
use Rattle.std.proofs.lemmas.Result.{err_from_is_err_and}
use Rattle.checkpoint.specs.Archive.{archive}
use Rattle.world_snapshots.proofs.Written.{kept_whole, unbegun, unwritten}
use Rattle.world_snapshots.proofs.saving.write_and_keep.Goals as goal

pub returns-in_err-begin : goal.returns-in_err-begin
returns-in_err-begin g c =
    let p = err_from_is_err_and c.from_residual.result c.from_residual.ensures.1 in
    rw (p.1, p.2) (unbegun _ _ (archive g.F.Snapshots c.args.snapshots.now) (archive g.F.Snapshots c.begin.new.self) c.in_err-begin.ensures.same c.in_err-begin.ensures.later c.in_err-begin.ensures.most
    c.in_err-begin.ensures.outcome)

pub returns-in_err-write_lines : goal.returns-in_err-write_lines
returns-in_err-write_lines g c =
    let p = err_from_is_err_and c.from_residual-in_err-write_lines.result c.from_residual-in_err-write_lines.ensures.1 in
    rw (p.1, p.2) (unwritten _ (archive g.F.Snapshots c.args.snapshots.now) (archive g.F.Snapshots c.begin.new.self) c.in_ok-begin.ensures.outcome c.in_ok-begin.ensures.same c.in_ok-begin.ensures.later
    c.in_ok-begin.ensures.most _ (archive g.F.Snapshots c.write_lines.new.out) c.in_err-write_lines.ensures)

pub returns : goal.returns
returns g c =
    kept_whole _ (archive g.F.Snapshots c.args.snapshots.now) (archive g.F.Snapshots c.begin.new.self) c.in_ok-begin.ensures.outcome c.in_ok-begin.ensures.same c.in_ok-begin.ensures.later
    c.in_ok-begin.ensures.most c.keep.result (archive g.F.Snapshots c.write_lines.new.out) (archive g.F.Snapshots c.keep.new.self) c.in_ok-write_lines.ensures c.keep.ensures.later c.keep.ensures.most
    c.keep.ensures.outcome
