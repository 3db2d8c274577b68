-- The start, a fault of the reader, a line that isn't taken, and the end.
use Rattle.std.proofs.Common.{refl, sym, ◌∙◌}
use Rattle.std.proofs.lemmas.Result.{err_from_is_err_and}
use Rattle.following.specs.Input.{input}
use Rattle.following.proofs.Reading.{nothing_left}
use Rattle.following.proofs.Taken.{cut_off, end_reached, fault_stops, line_stops, line_taken, nothing_taken, taken_on}
use Rattle.following.proofs.taking.take_lines.Goals as goal

pub loop-number-init : goal.loop-number-init
loop-number-init g c = (
  rw (c.with_limit-lines.ensures, c.requires.start) (nothing_taken c.args.max_bytes (input g.S.Source c.args.events.now) _ c.requires.new),
  refl,
  refl,
)

pub returns-in_err-number-clause-err : goal.returns-in_err-number-clause-err
returns-in_err-number-clause-err g c =
    let p = err_from_is_err_and c.from_residual.result c.from_residual.ensures.1 in
    rw (p.1, p.2) (fault_stops _ _ _ _ _ _ _ c.loop-number.invariant.0 _ _ (input g.S.Source c.next.new.source) c.loop-number.invariant.1 c.in_err-number.ensures.cause c.in_err-number.ensures.leaves)

pub returns-in_err-take_line-clause-err : goal.returns-in_err-take_line-clause-err
returns-in_err-take_line-clause-err g c =
    let p = err_from_is_err_and c.from_residual-in_err-take_line.result c.from_residual-in_err-take_line.ensures.1 in
    let line = rw c.in-Some.is at c.in_ok-number.ensures.line in
    let number = rw c.in-Some.is at c.in_ok-number.ensures.number in
    let bytes = rw c.in-Some.is at c.in_ok-number.ensures.bytes in
    let why = rw c.as_slice.ensures.value at c.in_err-take_line.ensures.err in
    rw (p.1, p.2)
    (line_stops _ _ _ _ _ _ _ c.loop-number.invariant.0 c.next.new.line.items c.next.new.self (input g.S.Source c.next.new.source)
    (record { first = line; total = c.in_ok-number.ensures.length; takes = bytes; goes = c.in_ok-number.ensures.goes_on }) _ _ _ c.loop-number.invariant.1 number.0 why)

pub loop-number-preserved : goal.loop-number-preserved
loop-number-preserved g c =
    let line = rw c.in-Some.is at c.in_ok-number.ensures.line in
    let number = rw c.in-Some.is at c.in_ok-number.ensures.number in
    let bytes = rw c.in-Some.is at c.in_ok-number.ensures.bytes in
    let takes = rw c.as_slice.ensures.value at c.in_ok-take_line.ensures.ok in (
      line_taken _ _ _ _ _ _ _ c.loop-number.invariant.0 c.next.new.line.items c.next.new.self (input g.S.Source c.next.new.source)
          (record { first = line; total = c.in_ok-number.ensures.length; takes = bytes; goes = c.in_ok-number.ensures.goes_on }) _ _ _ _ _ number.1 (sym number.1 ∙ number.0) c.next.ensures.later
          c.in_ok-number.ensures.ended c.next.ensures.reads takes,
      c.take_line.ensures.limit ∙ c.loop-number.invariant.1,
      c.next.ensures.most ∙ c.loop-number.invariant.2,
    )

pub returns-clause-ok : goal.returns-clause-ok
returns-clause-ok g c =
    let line = rw c.in_default.is at c.in_ok-number.ensures.line in
    end_reached _ _ _ _ _ _ _ c.loop-number.invariant.0 (input g.S.Source c.next.new.source) (rw c.if-inside.false at c.inside.ensures.answer) (nothing_left c.next.new.self.held _ (rw line.1 line.0)) line.0

pub returns-then-inside-clause-err : goal.returns-then-inside-clause-err
returns-then-inside-clause-err g c =
    let line = rw c.in_default.is at c.in_ok-number.ensures.line in
    let some = rw c.if-inside.true at c.inside.ensures.answer in
    cut_off _ _ _ _ _ _ _ c.loop-number.invariant.0 (input g.S.Source c.next.new.source) c.args.replica.now.limit _ c.loop-number.invariant.1 (some.0 refl) line.0 refl

pub returns-clause-taken : goal.returns-clause-taken
returns-clause-taken g c = taken_on _ _ _ _ _ _ _ c.loop-number.invariant.0 c.next.new.self _ _ _ c.next.ensures.reads

pub returns-in_err-number-clause-taken : goal.returns-in_err-number-clause-taken
returns-in_err-number-clause-taken g c = taken_on _ _ _ _ _ _ _ c.loop-number.invariant.0 c.next.new.self _ _ _ c.next.ensures.reads

pub returns-in_err-take_line-clause-taken : goal.returns-in_err-take_line-clause-taken
returns-in_err-take_line-clause-taken g c = taken_on _ _ _ _ _ _ _ c.loop-number.invariant.0 c.next.new.self _ _ _ c.next.ensures.reads

pub returns-then-inside-clause-taken : goal.returns-then-inside-clause-taken
returns-then-inside-clause-taken g c = taken_on _ _ _ _ _ _ _ c.loop-number.invariant.0 c.next.new.self _ _ _ c.next.ensures.reads
