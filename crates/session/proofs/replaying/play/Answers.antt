-- The lines were taken, and the end where it is that of the deliveries; what is reported was printed; and the world was saved, or not wholly.
use Rattle.std.proofs.Common.{◌≤◌, ◌∙◌, ℕ, None, sym, ap, inl, inr, refl, arith}
use Rattle.std.proofs.lemmas.Result.{err_from_is_err_and}
use Rattle.checkpoint.specs.Archive.{archive}
use Rattle.following.specs.Input.{input}
use Rattle.snapshot.specs.declared.counts.Counts.{Counts}
use Rattle.run_model.specs.Headline.{HasPrinted}
use Rattle.run_model.specs.Moment.{Moment, Run, moment, start_of, with_output, numbers_after}
use Rattle.run_model.specs.{Moved.run_in, Delivering.HasTakenAll}
use Rattle.run_model.proofs.{Deliveries.end_begun, Deliveries.end_taken, Ends.halted, Ends.paused, Ends.replayed}
use Rattle.run_model.proofs.Printed.{ending_closed, ending_saved, kept_or_not, leaves_part, may_leave, reported, stopped_unsaved, unreported}
use Rattle.session.proofs.replaying.play.Goals as goal

-- a count that rose twice
later : (a b c : ℕ) → a ≤ b → b ≤ c → a ≤ c
later a b c first then = omega arith

pub returns-in_err-taken-clause-ending : goal.returns-in_err-taken-clause-ending
returns-in_err-taken-clause-ending g c =
    let p = err_from_is_err_and c.from_residual.result c.from_residual.ensures.1 in
    rw (p.1, p.2) (record {
      outcome = c.in_err-taken.ensures.err;
      taken = c.take_lines.ensures.taken;
      snapshot = λ none. inl (ap (archive g.F.Snapshots) (c.take_lines.ensures.snapshot none));
      resumed = ap (input g.S.Source) c.take_lines.ensures.resumed;
    })

-- ---- the end of the deliveries

pub returns-in_err-take_end-clause-ending : goal.returns-in_err-take_end-clause-ending
returns-in_err-take_end-clause-ending g c =
    let run : Run = run_in c.args.replay.now c.args.task.now.report (g.R.Revisions.contents c.args.ports.now.revisions) c.args.task.now.options.now in
    let before : Moment = moment g.S.Source g.R.Revisions g.K.Sink g.F.Snapshots c.args.ports.now c.args.replay.now.world in
    let between : Moment = moment g.S.Source g.R.Revisions g.K.Sink g.F.Snapshots c.take_lines.new.ports c.take_lines.new.replay.world in
    let lines = c.in_ok-taken.ensures in
    let stays = rw (lines.further.revisions.known, c.folder.ensures, lines.same.limit ∙ c.requires.limit, lines.same.routes) at c.in_err-take_end.ensures.err in
    let held_up = rw (lines.further.revisions.known, c.folder.ensures, lines.same.limit ∙ c.requires.limit, lines.same.routes) at c.in_err-take_end.ensures.held_up in
    let p = err_from_is_err_and c.from_residual-in_err-take_end.result c.from_residual-in_err-take_end.ensures.1 in
    rw (p.1, p.2) (record {
      outcome = halted _ run before _ between.stage.output lines.ok.at_rest.later held_up (inr (record {
        closed = sym c.closes.ensures ∙ c.if-closes.true;
        deliveries = lines.ok.deliveries;
        read = lines.ok.read;
        within = end_begun run.environment lines.ok.deliveries (start_of run before) _ between.stage _ _ stays lines.ok.at_rest;
        mapped = c.take_end.ensures.versions _ lines.ok.at_rest.mapped;
        are = lines.ok.are;
        kept = lines.ok.kept;
      }));
      taken = c.take_lines.ensures.taken;
      snapshot = λ none. inl (ap (archive g.F.Snapshots) (c.take_lines.ensures.snapshot none));
      resumed = ap (input g.S.Source) c.take_lines.ensures.resumed;
    })

pub returns-in_err-close-clause-ending : goal.returns-in_err-close-clause-ending
returns-in_err-close-clause-ending g c =
    let run : Run = run_in c.args.replay.now c.args.task.now.report (g.R.Revisions.contents c.args.ports.now.revisions) c.args.task.now.options.now in
    let before : Moment = moment g.S.Source g.R.Revisions g.K.Sink g.F.Snapshots c.args.ports.now c.args.replay.now.world in
    let between : Moment = moment g.S.Source g.R.Revisions g.K.Sink g.F.Snapshots c.take_lines.new.ports c.take_lines.new.replay.world in
    let lines = c.in_ok-taken.ensures in
    let ended : Moment = moment g.S.Source g.R.Revisions g.K.Sink g.F.Snapshots (record c.take_lines.new.ports { revisions = c.take_end.new.revisions; out = c.take_end.new.out }) c.take_end.new.replay.world in
    let applies = rw (lines.further.revisions.known, c.folder.ensures, lines.same.limit ∙ c.requires.limit, lines.same.routes) at c.in_ok-take_end.ensures.ok in
    let numbers : Counts = numbers_after run.numbered run.environment.report c.in_ok-taken.taken.reported c.in_ok-taken.taken.matched c.in_ok-taken.taken.lines in
    let taken : HasTakenAll run numbers before ended = replayed run before ended lines.ok.deliveries _ lines.ok.kept (sym c.closes.ensures ∙ c.if-closes.true) lines.ok.read lines.ok.are
    (end_taken run.environment lines.ok.deliveries (start_of run before) between.stage _ _ _ applies c.take_end.ensures.versions c.take_end.ensures.written.faults lines.ok.at_rest) numbers in
    let p = err_from_is_err_and c.from_residual-in_err-close.result c.from_residual-in_err-close.ensures.1 in
    rw (p.1, p.2) (record {
      outcome = unreported c.args.task.now.report _ run numbers before ended _ refl (later _ _ _ lines.further.out.faults c.take_end.ensures.written.faults) taken (rw (c.take_end.ensures.same.routes ∙ lines.same.routes) at c.in_err-close.ensures.prints);
      taken = c.take_lines.ensures.taken;
      snapshot = λ none. inl (ap (archive g.F.Snapshots) (c.take_lines.ensures.snapshot none));
      resumed = ap (input g.S.Source) c.take_lines.ensures.resumed;
    })

pub returns-then-closes-clause-ending : goal.returns-then-closes-clause-ending
returns-then-closes-clause-ending g c =
    let run : Run = run_in c.args.replay.now c.args.task.now.report (g.R.Revisions.contents c.args.ports.now.revisions) c.args.task.now.options.now in
    let before : Moment = moment g.S.Source g.R.Revisions g.K.Sink g.F.Snapshots c.args.ports.now c.args.replay.now.world in
    let between : Moment = moment g.S.Source g.R.Revisions g.K.Sink g.F.Snapshots c.take_lines.new.ports c.take_lines.new.replay.world in
    let lines = c.in_ok-taken.ensures in
    let ended : Moment = moment g.S.Source g.R.Revisions g.K.Sink g.F.Snapshots (record c.take_lines.new.ports { revisions = c.take_end.new.revisions; out = c.take_end.new.out }) c.take_end.new.replay.world in
    let applies = rw (lines.further.revisions.known, c.folder.ensures, lines.same.limit ∙ c.requires.limit, lines.same.routes) at c.in_ok-take_end.ensures.ok in
    let numbers : Counts = numbers_after run.numbered run.environment.report c.in_ok-taken.taken.reported c.in_ok-taken.taken.matched c.in_ok-taken.taken.lines in
    let taken : HasTakenAll run numbers before ended = replayed run before ended lines.ok.deliveries _ lines.ok.kept (sym c.closes.ensures ∙ c.if-closes.true) lines.ok.read lines.ok.are
    (end_taken run.environment lines.ok.deliveries (start_of run before) between.stage _ _ _ applies c.take_end.ensures.versions c.take_end.ensures.written.faults lines.ok.at_rest) numbers in
    record {
      outcome = ending_closed run numbers before (record ended { stage = with_output ended.stage _ }) (sym c.closes.ensures ∙ c.if-closes.true)
          (reported c.args.task.now.report run numbers before ended _ refl taken (rw (c.take_end.ensures.same.routes ∙ lines.same.routes) at c.in_ok-close.ensures.prints));
      taken = c.take_lines.ensures.taken;
      snapshot = λ none. tt;
      resumed = ap (input g.S.Source) c.take_lines.ensures.resumed;
    }

-- ---- more deliveries may come

pub returns-in_err-close-2-clause-ending : goal.returns-in_err-close-2-clause-ending
returns-in_err-close-2-clause-ending g c =
    let run : Run = run_in c.args.replay.now c.args.task.now.report (g.R.Revisions.contents c.args.ports.now.revisions) c.args.task.now.options.now in
    let before : Moment = moment g.S.Source g.R.Revisions g.K.Sink g.F.Snapshots c.args.ports.now c.args.replay.now.world in
    let between : Moment = moment g.S.Source g.R.Revisions g.K.Sink g.F.Snapshots c.take_lines.new.ports c.take_lines.new.replay.world in
    let lines = c.in_ok-taken.ensures in
    let numbers : Counts = numbers_after run.numbered run.environment.report c.in_ok-taken.taken.reported c.in_ok-taken.taken.matched c.in_ok-taken.taken.lines in
    let taken : HasTakenAll run numbers before between = paused run before between c.in_ok-taken.taken (sym c.closes.ensures ∙ c.if-closes.false) lines.ok in
    let p = err_from_is_err_and c.from_residual-in_err-close-2.result c.from_residual-in_err-close-2.ensures.1 in
    rw (p.1, p.2) (record {
      outcome = unreported c.args.task.now.report _ run numbers before between _ refl lines.further.out.faults taken (rw lines.same.routes at c.in_err-close-2.ensures.prints);
      taken = c.take_lines.ensures.taken;
      snapshot = λ none. inl (ap (archive g.F.Snapshots) (c.take_lines.ensures.snapshot none));
      resumed = ap (input g.S.Source) c.take_lines.ensures.resumed;
    })

pub returns-in_err-save_taken-clause-ending : goal.returns-in_err-save_taken-clause-ending
returns-in_err-save_taken-clause-ending g c =
    let run : Run = run_in c.args.replay.now c.args.task.now.report (g.R.Revisions.contents c.args.ports.now.revisions) c.args.task.now.options.now in
    let before : Moment = moment g.S.Source g.R.Revisions g.K.Sink g.F.Snapshots c.args.ports.now c.args.replay.now.world in
    let between : Moment = moment g.S.Source g.R.Revisions g.K.Sink g.F.Snapshots c.take_lines.new.ports c.take_lines.new.replay.world in
    let lines = c.in_ok-taken.ensures in
    let numbers : Counts = numbers_after run.numbered run.environment.report c.in_ok-taken.taken.reported c.in_ok-taken.taken.matched c.in_ok-taken.taken.lines in
    let taken : HasTakenAll run numbers before between = paused run before between c.in_ok-taken.taken (sym c.closes.ensures ∙ c.if-closes.false) lines.ok in
    let printed : HasPrinted run numbers before (record between { stage = with_output between.stage _ }) = reported c.args.task.now.report run numbers before between _ refl taken (rw lines.same.routes at c.in_ok-close-2.ensures.prints) in
    let saves = rw lines.same.earlier at c.in_err-save_taken.ensures in
    let p = err_from_is_err_and c.from_residual-in_err-save_taken.result c.from_residual-in_err-save_taken.ensures.1 in
    rw (p.1, p.2) (record {
      outcome = stopped_unsaved _ run numbers before _ _ (sym c.closes.ensures ∙ c.if-closes.false) lines.further.snapshot.faults printed saves;
      taken = c.take_lines.ensures.taken;
      snapshot = λ none. leaves_part _ run numbers before _ _ (sym c.closes.ensures ∙ c.if-closes.false) printed saves;
      resumed = ap (input g.S.Source) c.take_lines.ensures.resumed;
    })

pub returns-clause-ending : goal.returns-clause-ending
returns-clause-ending g c =
    let run : Run = run_in c.args.replay.now c.args.task.now.report (g.R.Revisions.contents c.args.ports.now.revisions) c.args.task.now.options.now in
    let before : Moment = moment g.S.Source g.R.Revisions g.K.Sink g.F.Snapshots c.args.ports.now c.args.replay.now.world in
    let between : Moment = moment g.S.Source g.R.Revisions g.K.Sink g.F.Snapshots c.take_lines.new.ports c.take_lines.new.replay.world in
    let lines = c.in_ok-taken.ensures in
    let numbers : Counts = numbers_after run.numbered run.environment.report c.in_ok-taken.taken.reported c.in_ok-taken.taken.matched c.in_ok-taken.taken.lines in
    let taken : HasTakenAll run numbers before between = paused run before between c.in_ok-taken.taken (sym c.closes.ensures ∙ c.if-closes.false) lines.ok in
    let printed : HasPrinted run numbers before (record between { stage = with_output between.stage _ }) = reported c.args.task.now.report run numbers before between _ refl taken (rw lines.same.routes at c.in_ok-close-2.ensures.prints) in
    record {
      outcome = ending_saved run numbers before _ _ (sym c.closes.ensures ∙ c.if-closes.false) printed (rw lines.same.earlier at c.in_ok-save_taken.ensures);
      taken = c.take_lines.ensures.taken;
      snapshot = λ none. tt;
      resumed = ap (input g.S.Source) c.take_lines.ensures.resumed;
    }

pub returns-clause-unsaved : goal.returns-clause-unsaved
returns-clause-unsaved g c = inl (inr (sym c.closes.ensures ∙ c.if-closes.false, tt))

pub returns-in_err-save_taken-clause-unsaved : goal.returns-in_err-save_taken-clause-unsaved
returns-in_err-save_taken-clause-unsaved g c =
    let p = err_from_is_err_and c.from_residual-in_err-save_taken.result c.from_residual-in_err-save_taken.ensures.1 in
    rw (p.1, p.2) (inl (inr (sym c.closes.ensures ∙ c.if-closes.false, may_leave _)))

-- ---- without `--every` the lines keep nothing

pub returns-in_err-taken-clause-unsaved : goal.returns-in_err-taken-clause-unsaved
returns-in_err-taken-clause-unsaved g c = kept_or_not c.args.task.now.options.now _ c.take_lines.ensures.snapshot

pub returns-in_err-take_end-clause-unsaved : goal.returns-in_err-take_end-clause-unsaved
returns-in_err-take_end-clause-unsaved g c = kept_or_not c.args.task.now.options.now _ c.take_lines.ensures.snapshot

pub returns-in_err-close-clause-unsaved : goal.returns-in_err-close-clause-unsaved
returns-in_err-close-clause-unsaved g c = kept_or_not c.args.task.now.options.now _ c.take_lines.ensures.snapshot

pub returns-then-closes-clause-unsaved : goal.returns-then-closes-clause-unsaved
returns-then-closes-clause-unsaved g c = kept_or_not c.args.task.now.options.now None c.take_lines.ensures.snapshot

pub returns-in_err-close-2-clause-unsaved : goal.returns-in_err-close-2-clause-unsaved
returns-in_err-close-2-clause-unsaved g c = kept_or_not c.args.task.now.options.now _ c.take_lines.ensures.snapshot
