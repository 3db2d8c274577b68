-- The start, a fault of the reader, a line that is refused, a line that is taken, and a save.
use Rattle.std.proofs.Common.{◌≡◌, ◌+◌, ◌≤◌, [], ◌∷◌, ◌∙◌, refl, sym, ap, arith}
use Rattle.std.proofs.lemmas.Result.{err_from_is_err_and}
use Rattle.checkpoint.specs.Archive.{archive}
use Rattle.world.specs.Limit.{Limit}
use Rattle.run_model.specs.{Moment.Moment, Moment.Run, Moment.marks, Moment.moment, Moved.run_in}
use Rattle.run_model.proofs.Deliveries.{rest_open}
use Rattle.run_model.proofs.Ongoing.{delivered_on, goes_on, none_gone, read_on, saved_on}
use Rattle.run_model.proofs.Progress.{count_left, counted_nothing, delivery_stops, end_reached, fault_stops, kept_then, line_stops, line_taken, next_line, next_marks, numbers_left, one_mark, saving_stops, taken_on}
use Rattle.run_model.proofs.{Reading.nothing_left, Saves.marks-push}
use Rattle.session.proofs.taking.take_lines.Goals as goal

pub loop-line-init : goal.loop-line-init
loop-line-init g c =
    let run : Run = run_in c.args.replay.now c.args.task.now.report (g.R.Revisions.contents c.args.ports.now.revisions) c.args.task.now.options.now in (
      rw (c.new-lines.ensures, c.max_bytes.ensures.value, c.before-taken.ensures, c.earlier.ensures.value)
          (counted_nothing run _ c.requires.stands),
      none_gone g.S.Source g.R.Revisions g.K.Sink g.F.Snapshots _,
      record { limit = refl; routes = refl; earlier = refl },
      λ none. refl,
      refl,
    )

pub returns-in_err-number-clause-err : goal.returns-in_err-number-clause-err
returns-in_err-number-clause-err g c =
    let p = err_from_is_err_and c.from_residual.result c.from_residual.ensures.1 in
    rw (p.1, p.2) (fault_stops _ _ _ _ _ _ c.loop-line.invariant.0.progress _ c.next.new.self _ _ _ c.in_err-number.ensures.cause c.in_err-number.ensures.leaves c.next.ensures.reads)

pub returns-in_err-delivery-clause-err : goal.returns-in_err-delivery-clause-err
returns-in_err-delivery-clause-err g c =
    let p = err_from_is_err_and c.from_residual-in_err-delivery.result c.from_residual-in_err-delivery.ensures.1 in
    let line = rw c.in-Some.is at c.in_ok-number.ensures.line in
    let number = rw c.in-Some.is at c.in_ok-number.ensures.number in
    let bytes = rw c.in-Some.is at c.in_ok-number.ensures.bytes in
    let refused = rw c.as_slice.ensures.value at c.in_err-delivery.ensures.err in
    rw (p.1, p.2) (line_stops _ _ _ _ _ _ c.loop-line.invariant.0.progress c.next.new.line.items c.next.new.self _ _ _ _ c.in-Some.number
    (record { first = line; total = c.in_ok-number.ensures.length; takes = bytes; goes = c.in_ok-number.ensures.goes_on; reads = c.next.ensures.reads }) number.0 refused)

pub deliver-delivered-requires-clause-open : goal.deliver-delivered-requires-clause-open
deliver-delivered-requires-clause-open g c = rest_open _ _ _ _ _ c.loop-line.invariant.0.progress.at_rest

pub deliver-delivered-requires-clause-lean : goal.deliver-delivered-requires-clause-lean
deliver-delivered-requires-clause-lean g c = λ answers. ap (λ (l : Limit). l.lean) (c.loop-line.invariant.2.limit ∙ c.requires.limit) ∙ c.requires.lean answers

pub deliver-delivered-requires-clause-number : goal.deliver-delivered-requires-clause-number
deliver-delivered-requires-clause-number g c =
    let within = rw c.earlier.ensures.value at c.earlier.ensures.within in
    let so_far = c.loop-line.invariant.0.progress in
    numbers_left c.args.task.now.report c.args.replay.now.earlier c.loop-line.taken.reported c.loop-line.taken.matched c.loop-line.lines within.asks within.matches so_far.few so_far.few_matched
    so_far.sound so_far.max (rw c.max_bytes.ensures.value at c.max_bytes.ensures.bounded)

-- ---- one line more is counted

pub after-counted-requires-clause-lines : goal.after-counted-requires-clause-lines
after-counted-requires-clause-lines g c =
    let within = rw c.earlier.ensures.value at c.earlier.ensures.within in
    let so_far = c.loop-line.invariant.0.progress in
    let few : c.loop-line.taken.lines ≤ _ = omega (arith, c.loop-line.invariant.0.lines_are) in
    count_left c.args.replay.now.earlier.lines c.loop-line.taken.lines c.loop-line.lines within.lines few so_far.sound so_far.max (rw c.max_bytes.ensures.value at c.max_bytes.ensures.bounded)

pub after-counted-requires-clause-matched : goal.after-counted-requires-clause-matched
after-counted-requires-clause-matched g c =
    let within = rw c.earlier.ensures.value at c.earlier.ensures.within in
    let so_far = c.loop-line.invariant.0.progress in
    count_left c.args.replay.now.earlier.matches c.loop-line.taken.matched c.loop-line.lines within.matches so_far.few_matched so_far.sound so_far.max (rw c.max_bytes.ensures.value at c.max_bytes.ensures.bounded)

pub after-counted-requires-clause-marks : goal.after-counted-requires-clause-marks
after-counted-requires-clause-marks g c =
    let so_far = c.loop-line.invariant.0.progress in
    let few : c.loop-line.taken.marks ≤ 0 + c.loop-line.lines.given = omega (arith, c.loop-line.invariant.0.few_marks) in
    count_left 0 c.loop-line.taken.marks c.loop-line.lines (omega arith) few so_far.sound so_far.max (rw c.max_bytes.ensures.value at c.max_bytes.ensures.bounded)

-- ---- a delivery isn't taken, or not wholly

pub returns-in_err-done-clause-err : goal.returns-in_err-done-clause-err
returns-in_err-done-clause-err g c =
    let p = err_from_is_err_and c.from_residual-in_err-done.result c.from_residual-in_err-done.ensures.1 in
    let line = rw c.in-Some.is at c.in_ok-number.ensures.line in
    let bytes = rw c.in-Some.is at c.in_ok-number.ensures.bytes in
    let delivered = rw c.as_slice.ensures.value at c.in_ok-delivery.ensures.ok in
    let cuts = rw (c.loop-line.invariant.1.revisions.known, c.folder-folder.ensures, c.loop-line.invariant.2.limit ∙ c.requires.limit, c.loop-line.invariant.2.routes) at c.in_err-done.ensures.err in
    rw (p.1, p.2) (delivery_stops _ _ _ _ _ _ c.loop-line.invariant.0.progress c.next.new.line.items c.next.new.self
    (moment g.S.Source g.R.Revisions g.K.Sink g.F.Snapshots (record c.loop-line.ports { events = c.next.new.source; revisions = c.deliver-delivered.new.revisions; out = c.deliver-delivered.new.out }) c.deliver-delivered.new.replay.world) c.in_ok-delivery.delivery
    (record { first = line; total = c.in_ok-number.ensures.length; takes = bytes; goes = c.in_ok-number.ensures.goes_on; reads = c.next.ensures.reads }) delivered refl _ cuts)

-- ---- a line is taken, and saved if a save follows it

pub loop-line-preserved : goal.loop-line-preserved
loop-line-preserved g c =
    let so_far = c.loop-line.invariant.0 in
    let after : Moment = moment g.S.Source g.R.Revisions g.K.Sink g.F.Snapshots (record c.loop-line.ports { events = c.next.new.source; revisions = c.deliver-delivered.new.revisions; out = c.deliver-delivered.new.out }) c.deliver-delivered.new.replay.world in
    let line = rw c.in-Some.is at c.in_ok-number.ensures.line in
    let number = rw c.in-Some.is at c.in_ok-number.ensures.number in
    let bytes = rw c.in-Some.is at c.in_ok-number.ensures.bytes in
    let delivered = rw c.as_slice.ensures.value at c.in_ok-delivery.ensures.ok in
    let takes = rw (c.loop-line.invariant.1.revisions.known, c.folder-folder.ensures, c.loop-line.invariant.2.limit ∙ c.requires.limit, c.loop-line.invariant.2.routes) at c.in_ok-done.ensures.ok in
    let given : c.next.new.self.given ≡ c.loop-line.lines.given + 1 = sym number.1 ∙ number.0 in
    let saves = rw (c.after-counted.ensures, c.is_mark-mark.ensures, c.deliver-delivered.ensures.same.earlier ∙ c.loop-line.invariant.2.earlier) at c.in_ok-save_if_due.ensures in
    let d = c.in_ok-delivery.delivery in
    rw c.after-counted.ensures (
      record {
        progress = line_taken _ _ _ _ _ _ so_far.progress c.next.new.line.items c.next.new.self after d (record { first = line; total = c.in_ok-number.ensures.length; takes = bytes; goes = c.in_ok-number.ensures.goes_on; reads = c.next.ensures.reads }) delivered refl c.in_ok-done.done.reported takes (archive g.F.Snapshots c.save_if_due.new.snapshots)
            (kept_then _ _ _ _ _ _ so_far.progress c.next.new.line.items c.next.new.self after d (record { first = line; total = c.in_ok-number.ensures.length; takes = bytes; goes = c.in_ok-number.ensures.goes_on; reads = c.next.ensures.reads }) delivered refl c.in_ok-done.done.reported takes (c.loop-line.taken.lines + 1) _ (next_line _ _ _ _ so_far.lines_are refl) (ap (λ n. n + marks (d ∷ [])) so_far.marks_are) _ saves.saves)
            c.in_ok-number.ensures.later given c.in_ok-number.ensures.ended;
        lines_are = next_line _ _ _ _ so_far.lines_are given;
        marks_are = ap (λ n. n + marks (d ∷ [])) so_far.marks_are ∙ sym (marks-push so_far.progress.deliveries d);
        few_marks = next_marks _ _ _ _ so_far.few_marks (one_mark d) given;
      },
      saved_on g.S.Source g.R.Revisions g.K.Sink g.F.Snapshots _ _ c.save_if_due.new.snapshots
          (delivered_on g.S.Source g.R.Revisions g.K.Sink g.F.Snapshots _ c.loop-line.ports _ _ _ c.loop-line.invariant.1 c.next.ensures.later c.next.ensures.most c.deliver-delivered.ensures.source c.deliver-delivered.ensures.written) c.save_if_due.ensures.further,
      goes_on _ _ _ c.loop-line.invariant.2 c.deliver-delivered.ensures.same,
      λ none. c.save_if_due.ensures.same none ∙ c.loop-line.invariant.3 none,
      c.loop-line.invariant.4,
    )

pub returns-in_err-save_if_due-clause-err : goal.returns-in_err-save_if_due-clause-err
returns-in_err-save_if_due-clause-err g c =
    let p = err_from_is_err_and c.from_residual-in_err-save_if_due.result c.from_residual-in_err-save_if_due.ensures.1 in
    let so_far = c.loop-line.invariant.0 in
    let after : Moment = moment g.S.Source g.R.Revisions g.K.Sink g.F.Snapshots (record c.loop-line.ports { events = c.next.new.source; revisions = c.deliver-delivered.new.revisions; out = c.deliver-delivered.new.out }) c.deliver-delivered.new.replay.world in
    let line = rw c.in-Some.is at c.in_ok-number.ensures.line in
    let bytes = rw c.in-Some.is at c.in_ok-number.ensures.bytes in
    let delivered = rw c.as_slice.ensures.value at c.in_ok-delivery.ensures.ok in
    let takes = rw (c.loop-line.invariant.1.revisions.known, c.folder-folder.ensures, c.loop-line.invariant.2.limit ∙ c.requires.limit, c.loop-line.invariant.2.routes) at c.in_ok-done.ensures.ok in
    let saves = rw (c.after-counted.ensures, c.is_mark-mark.ensures, c.deliver-delivered.ensures.same.earlier ∙ c.loop-line.invariant.2.earlier) at c.in_err-save_if_due.ensures in
    rw (p.1, p.2) (saving_stops _ _ _ _ _ _ so_far.progress c.next.new.line.items c.next.new.self after c.in_ok-delivery.delivery (record { first = line; total = c.in_ok-number.ensures.length; takes = bytes; goes = c.in_ok-number.ensures.goes_on; reads = c.next.ensures.reads }) delivered refl c.in_ok-done.done.reported takes _ (c.loop-line.taken.lines + 1) _
    (ap (λ n. n + marks (c.in_ok-delivery.delivery ∷ [])) so_far.marks_are) _ c.loop-line.invariant.1.snapshot.faults saves.saves)

pub returns-in_err-save_if_due-clause-snapshot : goal.returns-in_err-save_if_due-clause-snapshot
returns-in_err-save_if_due-clause-snapshot g c = λ none. c.save_if_due.ensures.same none ∙ c.loop-line.invariant.3 none

-- ---- the end of the lines

pub returns-clause-ok : goal.returns-clause-ok
returns-clause-ok g c =
    let line = rw c.in_default.is at c.in_ok-number.ensures.line in
    end_reached _ _ _ _ _ _ c.loop-line.invariant.0.progress _ _ (nothing_left c.next.new.self.held _ (rw line.1 line.0)) line.0 c.loop-line.taken refl refl c.loop-line.invariant.0.lines_are

-- ---- what was taken, and how the ports go on

pub returns-clause-taken : goal.returns-clause-taken
returns-clause-taken g c = taken_on _ _ _ _ _ _ c.loop-line.invariant.0.progress c.next.new.self _ _ c.next.ensures.reads

pub returns-in_err-number-clause-taken : goal.returns-in_err-number-clause-taken
returns-in_err-number-clause-taken g c = taken_on _ _ _ _ _ _ c.loop-line.invariant.0.progress c.next.new.self _ _ c.next.ensures.reads

pub returns-in_err-delivery-clause-taken : goal.returns-in_err-delivery-clause-taken
returns-in_err-delivery-clause-taken g c = taken_on _ _ _ _ _ _ c.loop-line.invariant.0.progress c.next.new.self _ _ c.next.ensures.reads

pub returns-in_err-done-clause-taken : goal.returns-in_err-done-clause-taken
returns-in_err-done-clause-taken g c = taken_on _ _ _ _ _ _ c.loop-line.invariant.0.progress c.next.new.self _ _ c.next.ensures.reads

pub returns-in_err-save_if_due-clause-taken : goal.returns-in_err-save_if_due-clause-taken
returns-in_err-save_if_due-clause-taken g c = taken_on _ _ _ _ _ _ c.loop-line.invariant.0.progress c.next.new.self _ _ c.next.ensures.reads

pub returns-clause-further : goal.returns-clause-further
returns-clause-further g c = read_on g.S.Source g.R.Revisions g.K.Sink g.F.Snapshots _ c.loop-line.ports _ c.loop-line.invariant.1 c.next.ensures.later c.next.ensures.most

pub returns-in_err-number-clause-further : goal.returns-in_err-number-clause-further
returns-in_err-number-clause-further g c = read_on g.S.Source g.R.Revisions g.K.Sink g.F.Snapshots _ c.loop-line.ports _ c.loop-line.invariant.1 c.next.ensures.later c.next.ensures.most

pub returns-in_err-delivery-clause-further : goal.returns-in_err-delivery-clause-further
returns-in_err-delivery-clause-further g c = read_on g.S.Source g.R.Revisions g.K.Sink g.F.Snapshots _ c.loop-line.ports _ c.loop-line.invariant.1 c.next.ensures.later c.next.ensures.most

pub returns-in_err-done-clause-further : goal.returns-in_err-done-clause-further
returns-in_err-done-clause-further g c = delivered_on g.S.Source g.R.Revisions g.K.Sink g.F.Snapshots _ c.loop-line.ports _ _ _ c.loop-line.invariant.1 c.next.ensures.later c.next.ensures.most c.deliver-delivered.ensures.source c.deliver-delivered.ensures.written

pub returns-in_err-save_if_due-clause-further : goal.returns-in_err-save_if_due-clause-further
returns-in_err-save_if_due-clause-further g c = saved_on g.S.Source g.R.Revisions g.K.Sink g.F.Snapshots _ _ c.save_if_due.new.snapshots
    (delivered_on g.S.Source g.R.Revisions g.K.Sink g.F.Snapshots _ c.loop-line.ports _ _ _ c.loop-line.invariant.1 c.next.ensures.later c.next.ensures.most c.deliver-delivered.ensures.source c.deliver-delivered.ensures.written) c.save_if_due.ensures.further
