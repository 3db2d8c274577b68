-- The line, or a prefix of it; then the section, or a prefix of it.
use Rattle.std.proofs.Common.{refl, ◌∙◌, ap, ℕ, List, [], cond, false}
use Rattle.std.proofs.lemmas.Result.{err_from_is_err_and}
use Rattle.replay_model.specs.Transcript.{export_section}
use Rattle.text_output.specs.Printing.{output}
use Rattle.text_output.proofs.Parts.{cut_short_at_once, not_handed, prints_both, prints_first, some_more}
use Rattle.following.specs.Following.{replica_line}
use Rattle.following.proofs.printing.print_replica.Goals as goal

pub returns-in_err-line : goal.returns-in_err-line
returns-in_err-line g c =
    let p = err_from_is_err_and c.from_residual.result c.from_residual.ensures.1 in
    rw (p.1, p.2) (cut_short_at_once _ (output g.K.Sink c.args.out.now))

pub returns-in_err-write_all : goal.returns-in_err-write_all
returns-in_err-write_all g c =
    let line = c.as_bytes-text.ensures.value ∙ c.in_ok-line.ensures ∙ ap replica_line c.applied.ensures in
    let section : List ℕ = cond c.args.export (export_section c.args.replica.now.triples) [] in
    let p = err_from_is_err_and c.from_residual-in_err-write_all.result c.from_residual-in_err-write_all.ensures.1 in
    rw (p.1, p.2) (not_handed _ _ _ _ (prints_first _ (replica_line c.args.replica.now.applied) section _ _ (rw line at c.in_err-write_all.ensures)))

pub returns-in_err-flush : goal.returns-in_err-flush
returns-in_err-flush g c =
    let line = c.as_bytes-text.ensures.value ∙ c.in_ok-line.ensures ∙ ap replica_line c.applied.ensures in
    let section : List ℕ = cond c.args.export (export_section c.args.replica.now.triples) [] in
    let p = err_from_is_err_and c.from_residual-in_err-flush.result c.from_residual-in_err-flush.ensures.1 in
    rw (p.1, p.2) (prints_first _ (replica_line c.args.replica.now.applied) section _ _
    (c.in_err-flush.ensures (replica_line c.args.replica.now.applied) (output g.K.Sink c.args.out.now) (some_more false _ [] _ refl (rw line at c.is_empty.ensures)) (rw line at c.in_ok-write_all.ensures)))

pub returns : goal.returns
returns g c =
    let line = c.as_bytes-text.ensures.value ∙ c.in_ok-line.ensures ∙ ap replica_line c.applied.ensures in
    let section : List ℕ = cond c.args.export (export_section c.args.replica.now.triples) [] in
    prints_both c.print_export.result (replica_line c.args.replica.now.applied) section _ _ _
    (c.in_ok-flush.ensures (replica_line c.args.replica.now.applied) (output g.K.Sink c.args.out.now) (some_more false _ [] _ refl (rw line at c.is_empty.ensures)) (rw line at c.in_ok-write_all.ensures))
    c.print_export.ensures
