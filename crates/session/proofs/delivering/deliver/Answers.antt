-- An event or a watermark is taken, a question answered, or what is held remapped.
use Rattle.std.proofs.Common.{refl}
use Rattle.std.proofs.lemmas.Result.{err_from_is_err_and}
use Rattle.text_output.specs.Printing.{output}
use Rattle.replay_model.specs.Transcript.{for_bindings, for_triples}
use Rattle.run_model.specs.{Moment.Environment, Moment.Stage, Moment.stage, Moved.environment_in, Remapping.mapped_in}
use Rattle.run_model.proofs.Deliveries.{ask_cut_off, ask_taken, event_cut_off, event_taken, mapping_cut_off, mapping_taken, mark_cut_off, mark_taken}
use Rattle.session.proofs.delivering.deliver.Goals as goal

pub returns-in_ok-answer-in-Event-clause-ok : goal.returns-in_ok-answer-in-Event-clause-ok
returns-in_ok-answer-in-Event-clause-ok g c =
    let s : Environment = environment_in c.args.replay.now c.args.incoming.now.context.report (g.R.Revisions.contents c.args.revisions.now) c.args.incoming.now.context.folder.now in
    let before : Stage = stage g.R.Revisions g.K.Sink c.args.revisions.now c.args.out.now c.args.replay.now.world in
    rw (c.in-Event.is, c.in_ok-answer-in-Event.ensures.ok) (λ ds start counted at_rest. event_taken s ds start before c.args.incoming.now.context.reported c.in-Event.event at_rest)

pub returns-in_err-answer-in-Event-clause-err : goal.returns-in_err-answer-in-Event-clause-err
returns-in_err-answer-in-Event-clause-err g c =
    let s : Environment = environment_in c.args.replay.now c.args.incoming.now.context.report (g.R.Revisions.contents c.args.revisions.now) c.args.incoming.now.context.folder.now in
    let before : Stage = stage g.R.Revisions g.K.Sink c.args.revisions.now c.args.out.now c.args.replay.now.world in
    let p = err_from_is_err_and c.from_residual.result c.from_residual.ensures.1 in
    rw (p.1, p.2, c.in-Event.is, c.in_err-answer-in-Event.ensures.err) (event_cut_off s c.in-Event.event c.args.incoming.now.context.reported c.args.incoming.now.context.matched before)

pub returns-in_ok-reported-in-Watermark-clause-ok : goal.returns-in_ok-reported-in-Watermark-clause-ok
returns-in_ok-reported-in-Watermark-clause-ok g c =
    let s : Environment = environment_in c.args.replay.now c.args.incoming.now.context.report (g.R.Revisions.contents c.args.revisions.now) c.args.incoming.now.context.folder.now in
    let before : Stage = stage g.R.Revisions g.K.Sink c.args.revisions.now c.args.out.now c.args.replay.now.world in
    rw c.in-Watermark.is (λ ds start counted at_rest. mark_taken s ds start before (stage g.R.Revisions g.K.Sink c.apply_due.new.revisions c.apply_due.new.out c.apply_due.new.replay.world) c.args.incoming.now.context.reported _ c.in-Watermark.mark
    (rw c.raise.ensures at c.in_ok-reported-in-Watermark.ensures.ok) (rw c.raise.ensures at c.apply_due.ensures.versions) c.apply_due.ensures.written.faults at_rest)

pub returns-in_err-reported-in-Watermark-clause-err : goal.returns-in_err-reported-in-Watermark-clause-err
returns-in_err-reported-in-Watermark-clause-err g c =
    let s : Environment = environment_in c.args.replay.now c.args.incoming.now.context.report (g.R.Revisions.contents c.args.revisions.now) c.args.incoming.now.context.folder.now in
    let before : Stage = stage g.R.Revisions g.K.Sink c.args.revisions.now c.args.out.now c.args.replay.now.world in
    let p = err_from_is_err_and c.from_residual-in_err-reported-in-Watermark.result c.from_residual-in_err-reported-in-Watermark.ensures.1 in
    rw (p.1, p.2, c.in-Watermark.is) (mark_cut_off _ s c.in-Watermark.mark c.args.incoming.now.context.reported c.args.incoming.now.context.matched before (stage g.R.Revisions g.K.Sink c.apply_due.new.revisions c.apply_due.new.out c.apply_due.new.replay.world)
    (rw c.raise.ensures at c.in_err-reported-in-Watermark.ensures.held_up) (rw c.raise.ensures at c.apply_due.ensures.versions)
    (rw c.raise.ensures at c.in_err-reported-in-Watermark.ensures.err))

pub returns-in_ok-reported-in-Ask-clause-ok : goal.returns-in_ok-reported-in-Ask-clause-ok
returns-in_ok-reported-in-Ask-clause-ok g c =
    let s : Environment = environment_in c.args.replay.now c.args.incoming.now.context.report (g.R.Revisions.contents c.args.revisions.now) c.args.incoming.now.context.folder.now in
    let before : Stage = stage g.R.Revisions g.K.Sink c.args.revisions.now c.args.out.now c.args.replay.now.world in
    rw c.in-Ask.is (λ ds start counted at_rest. ask_taken s ds start before (for_triples c.in-Ask.pattern) c.args.incoming.now.context.reported c.args.incoming.now.context.matched _ (output g.K.Sink c.answer.new.out)
    c.in_ok-reported-in-Ask.ensures.answers counted at_rest)

pub returns-in_err-reported-in-Ask-clause-err : goal.returns-in_err-reported-in-Ask-clause-err
returns-in_err-reported-in-Ask-clause-err g c =
    let s : Environment = environment_in c.args.replay.now c.args.incoming.now.context.report (g.R.Revisions.contents c.args.revisions.now) c.args.incoming.now.context.folder.now in
    let before : Stage = stage g.R.Revisions g.K.Sink c.args.revisions.now c.args.out.now c.args.replay.now.world in
    let p = err_from_is_err_and c.from_residual-in_err-reported-in-Ask.result c.from_residual-in_err-reported-in-Ask.ensures.1 in
    rw (p.1, p.2, c.in-Ask.is) (ask_cut_off c.args.incoming.now.context.report _ s (for_triples c.in-Ask.pattern) c.args.incoming.now.context.reported c.args.incoming.now.context.matched before (output g.K.Sink c.answer.new.out) refl
    c.in_err-reported-in-Ask.ensures.answers)

pub returns-in_ok-reported-in-Mapping-clause-ok : goal.returns-in_ok-reported-in-Mapping-clause-ok
returns-in_ok-reported-in-Mapping-clause-ok g c =
    let s : Environment = environment_in c.args.replay.now c.args.incoming.now.context.report (g.R.Revisions.contents c.args.revisions.now) c.args.incoming.now.context.folder.now in
    let before : Stage = stage g.R.Revisions g.K.Sink c.args.revisions.now c.args.out.now c.args.replay.now.world in
    let call = c.in_ok-reported-in-Mapping.ensures in
    rw (c.in-Mapping.is, c.take_mapping.ensures.state) (λ ds start counted at_rest. mapping_taken s ds start before (mapped_in c.take_mapping.new.replay.world) c.in-Mapping.version c.args.incoming.now.context.reported _ (output g.K.Sink c.take_mapping.new.out)
    call.ok call.roomed call.tells c.take_mapping.ensures.written.faults at_rest)

pub returns-in_err-reported-in-Mapping-clause-err : goal.returns-in_err-reported-in-Mapping-clause-err
returns-in_err-reported-in-Mapping-clause-err g c =
    let s : Environment = environment_in c.args.replay.now c.args.incoming.now.context.report (g.R.Revisions.contents c.args.revisions.now) c.args.incoming.now.context.folder.now in
    let before : Stage = stage g.R.Revisions g.K.Sink c.args.revisions.now c.args.out.now c.args.replay.now.world in
    let p = err_from_is_err_and c.from_residual-in_err-reported-in-Mapping.result c.from_residual-in_err-reported-in-Mapping.ensures.1 in
    rw (p.1, p.2, c.in-Mapping.is, c.take_mapping.ensures.state) (mapping_cut_off _ s c.in-Mapping.version c.args.incoming.now.context.reported c.args.incoming.now.context.matched before (mapped_in c.take_mapping.new.replay.world) (output g.K.Sink c.take_mapping.new.out) c.in_err-reported-in-Mapping.ensures.err)

pub returns-in_ok-reported-in-Match-clause-ok : goal.returns-in_ok-reported-in-Match-clause-ok
returns-in_ok-reported-in-Match-clause-ok g c =
    let s : Environment = environment_in c.args.replay.now c.args.incoming.now.context.report (g.R.Revisions.contents c.args.revisions.now) c.args.incoming.now.context.folder.now in
    let before : Stage = stage g.R.Revisions g.K.Sink c.args.revisions.now c.args.out.now c.args.replay.now.world in
    rw c.in-Match.is (λ ds start counted at_rest. ask_taken s ds start before (for_bindings c.in-Match.query) c.args.incoming.now.context.reported c.args.incoming.now.context.matched _ (output g.K.Sink c.answer_match.new.out)
    c.in_ok-reported-in-Match.ensures.answers counted at_rest)

pub returns-in_err-reported-in-Match-clause-err : goal.returns-in_err-reported-in-Match-clause-err
returns-in_err-reported-in-Match-clause-err g c =
    let s : Environment = environment_in c.args.replay.now c.args.incoming.now.context.report (g.R.Revisions.contents c.args.revisions.now) c.args.incoming.now.context.folder.now in
    let before : Stage = stage g.R.Revisions g.K.Sink c.args.revisions.now c.args.out.now c.args.replay.now.world in
    let p = err_from_is_err_and c.from_residual-in_err-reported-in-Match.result c.from_residual-in_err-reported-in-Match.ensures.1 in
    rw (p.1, p.2, c.in-Match.is) (ask_cut_off c.args.incoming.now.context.report _ s (for_bindings c.in-Match.query) c.args.incoming.now.context.reported c.args.incoming.now.context.matched before (output g.K.Sink c.answer_match.new.out) refl
    c.in_err-reported-in-Match.ensures.answers)
