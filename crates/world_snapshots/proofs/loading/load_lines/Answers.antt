-- The start, a fault of the reader, a line that isn't taken, and the end.
use Rattle.std.proofs.Common.{rules, ◌≡◌, ◌≢◌, ◌+◌, ◌≤◌, length, Err, refl, sym, ap, ◌∙◌, arith, subst}
use Rattle.std.proofs.lemmas.Result.{err_from_is_err_and}
use Rattle.wq_io.specs.Lines.{taken}
use Rattle.checkpoint.specs.Loading.{AreStageWithin}
use Rattle.world_snapshots.proofs.Rests.{rests_applied}
use Rattle.world_snapshots.proofs.UnderWay.{all_loaded, begins, early_stops, fault_stops, goes_on, line_stops, none_left, nothing_left, unended_stops}
use Rattle.world_snapshots.proofs.loading.load_lines.Goals as goal

pub loop-number-init : goal.loop-number-init
loop-number-init g c = (
  rw c.with_limit-lines.ensures (begins c.args.loader.now.world.limit (g.S.Source.left c.args.file.now) c.args.loader.now.world c.args.loader.now.stage c.requires.stage c.requires.ready refl),
  omega arith,
  refl,
)

pub returns-in_err-number-clause-fault : goal.returns-in_err-number-clause-fault
returns-in_err-number-clause-fault g c =
    let p = err_from_is_err_and c.from_residual.result c.from_residual.ensures.1 in
    rw (p.1, p.2) (fault_stops c.args.loader.now.world.limit _ _ _ _ _ _ _ c.loop-number.invariant.0 _ _ (g.S.Source.faults c.next.new.source) _ c.loop-number.invariant.1 c.in_err-number.ensures.cause)

pub returns-in_err-take_line-clause-fault : goal.returns-in_err-take_line-clause-fault
returns-in_err-take_line-clause-fault g c =
    let p = err_from_is_err_and c.from_residual-in_err-take_line.result c.from_residual-in_err-take_line.ensures.1 in
    let line = rw c.in-Some.is at c.in_ok-number.ensures.line in
    let number = rw c.in-Some.is at c.in_ok-number.ensures.number in
    let bad = rw c.as_slice.ensures.value at c.in_err-take_line.ensures.bad in
    let full = rw c.as_slice.ensures.value at c.in_err-take_line.ensures.full in
    rw (p.1, p.2) (line_stops c.args.loader.now.world.limit _ _ (g.S.Source.left c.next.new.source) _ c.next.new.self _ _ _ c.in-Some.number _ c.next.new.line.items c.loop-number.invariant.0
    (record { first = line; total = c.in_ok-number.ensures.length; given = sym number.1 ∙ number.0 }) (number.0 ∙ ap (λ k. k + 1) (sym c.loop-number.invariant.0.given_is)) _
    (λ k is. bad k (ap (λ fault. Err fault) is)) (λ is. full (ap (λ fault. Err fault) is))
    (subst (λ k. length c.next.new.line.items ≤ k) c.loop-number.invariant.0.max_line c.in_ok-number.ensures.goes_on.short)
    (λ is. c.in_err-take_line.ensures.others.0 (ap (λ fault. Err fault) is)) (λ is. c.in_err-take_line.ensures.others.1 (ap (λ fault. Err fault) is)) _ _)

pub loop-number-preserved : goal.loop-number-preserved
loop-number-preserved g c =
    let line = rw c.in-Some.is at c.in_ok-number.ensures.line in
    let number = rw c.in-Some.is at c.in_ok-number.ensures.number in
    let takes = rw c.as_slice.ensures.value at c.in_ok-take_line.ensures.ok in
    let has_room = rw c.as_slice.ensures.value at c.in_ok-take_line.ensures.within in
    let longer = rw c.as_slice-in-Some.ensures.value at c.with_line-length.ensures in (
      goes_on c.args.loader.now.world.limit _ _ (g.S.Source.left c.next.new.source) _ c.next.new.self _ _ _ _ _ c.in-Some.number _ _ c.next.new.line.items c.loop-number.invariant.0
          (record { first = line; total = c.in_ok-number.ensures.length; given = sym number.1 ∙ number.0 }) c.in_ok-number.ensures.goes_on
          (number.0 ∙ ap (λ k. k + 1) (sym c.loop-number.invariant.0.given_is)) c.in_ok-number.ensures.ended takes c.in_ok-take_line.ensures.ready c.take_line.ensures.limit has_room longer,
      omega (arith, c.loop-number.invariant.1, c.next.ensures.later),
      c.next.ensures.most ∙ c.loop-number.invariant.2,
    )

pub returns-then-taken-length-clause-fault : goal.returns-then-taken-length-clause-fault
returns-then-taken-length-clause-fault g c =
    let none = rw c.in_default.is at c.in_ok-number.ensures.line in
    let same = rw c.in_default.is at c.in_ok-number.ensures.number in
    let other : taken c.next.new.self ≢ c.loop-number.length = search rules in
    unended_stops c.args.loader.now.world.limit _ (g.S.Source.left c.next.new.source) c.next.new.self _ _ _ _
    (none_left c.args.loader.now.world.limit _ _ (g.S.Source.left c.next.new.source) _ c.next.new.self _ _ _ _ c.next.new.line.items c.loop-number.invariant.0 none.1 c.in_ok-number.ensures.length same
    c.in_ok-number.ensures.goes_on c.in_ok-number.ensures.ended)
    (rw none.1 none.0) other 0 0

pub returns-in-Ok-clause-saved : goal.returns-in-Ok-clause-saved
returns-in-Ok-clause-saved g c =
    let none = rw c.in_default.is at c.in_ok-number.ensures.line in
    let same = rw c.in_default.is at c.in_ok-number.ensures.number in
    let equal : taken c.next.new.self ≡ c.loop-number.length = search rules in
    all_loaded c.args.loader.now.world.limit _ (g.S.Source.left c.next.new.source) c.next.new.self c.loop-number.loader.world c.loop-number.loader.stage c.in-Ok.counts _ _
    (none_left c.args.loader.now.world.limit _ _ (g.S.Source.left c.next.new.source) _ c.next.new.self _ _ _ _ c.next.new.line.items c.loop-number.invariant.0 none.1 c.in_ok-number.ensures.length same
    c.in_ok-number.ensures.goes_on c.in_ok-number.ensures.ended)
    (rw none.1 none.0) equal c.in-Ok.ensures.counts

pub returns-in-Ok-clause-applied : goal.returns-in-Ok-clause-applied
returns-in-Ok-clause-applied g c =
    let ready = c.loop-number.invariant.0.ready in
    λ e there. rests_applied c.loop-number.loader.world.replay e ready.resting (ready.failed e there)

pub returns-in-Ok-clause-documents : goal.returns-in-Ok-clause-documents
returns-in-Ok-clause-documents g c = c.loop-number.invariant.0.ready.documents

pub returns-in-Ok-clause-held : goal.returns-in-Ok-clause-held
returns-in-Ok-clause-held g c = c.loop-number.invariant.0.ready.held

pub returns-in-Ok-clause-counts : goal.returns-in-Ok-clause-counts
returns-in-Ok-clause-counts g c = subst AreStageWithin c.in-Ok.ensures.counts c.loop-number.invariant.0.ready.within

pub returns-in-Ok-clause-whole : goal.returns-in-Ok-clause-whole
returns-in-Ok-clause-whole g c =
    let none = rw c.in_default.is at c.in_ok-number.ensures.line in
    nothing_left c.next.new.self.held _ (rw none.1 none.0)

pub returns-in-Err-clause-fault : goal.returns-in-Err-clause-fault
returns-in-Err-clause-fault g c =
    let none = rw c.in_default.is at c.in_ok-number.ensures.line in
    let same = rw c.in_default.is at c.in_ok-number.ensures.number in
    let equal : taken c.next.new.self ≡ c.loop-number.length = search rules in
    rw c.in-Err.ensures.fault (early_stops c.args.loader.now.world.limit _ (g.S.Source.left c.next.new.source) c.next.new.self _ _ c.loop-number.given _
    (none_left c.args.loader.now.world.limit _ _ (g.S.Source.left c.next.new.source) _ c.next.new.self _ _ _ _ c.next.new.line.items c.loop-number.invariant.0 none.1 c.in_ok-number.ensures.length same
    c.in_ok-number.ensures.goes_on c.in_ok-number.ensures.ended)
    (rw none.1 none.0) equal (c.in-Err.ensures.short c.loop-number.loader.world) 0 0)
