-- What is given at the end, at a line feed and where the line gets too long.
use Rattle.std.proofs.Common.{◌≡◌, ◌∙◌, sym, ap, ℕ, List, [], Option}
use Rattle.std.proofs.lemmas.Result.{err_from_is_err_and}
use Rattle.wq_io.specs.Streams.{before_known, IsAtEnd}
use Rattle.wq_io.specs.Lines.{Reading}
use Rattle.wq_io.specs.Taking.{HasByte, IsEnded, TakesHeld}
use Rattle.wq_io.proofs.NextLine.{at_end, cause_of, going_gives, going_on, going_stops, last_counted, line_bytes, line_counted, line_ended, part_so_far, stops_here}
use Rattle.std.proofs.Common.{true, false, refl}
use Rattle.wq_io.proofs.lines.Lines.next.Goals as goal

pub returns-in_err-take_held-clause-cause : goal.returns-in_err-take_held-clause-cause
returns-in_err-take_held-clause-cause g c =
    let p = err_from_is_err_and c.from_residual-in_err-take_held.result c.from_residual-in_err-take_held.ensures.1 in
    let left : Option (List ℕ) = g.S.Source.left c.has_byte.new.source in
    let going = c.loop-self.invariant in
    let line : List ℕ = c.loop-self.line.items in
    let has : HasByte c.loop-self.self c.has_byte.new.self (g.S.Source.left c.loop-self.source) left = rw c.if-not-branch.false at c.in_ok-has_byte.ensures.reads in
    let front = going.front ∙ ap (λ (u : Option (List ℕ)). before_known line u) (sym has.same) in
    let consumed = ap (λ (r : Reading). r.consumed) has.others ∙ ap (λ (r : Reading). r.consumed) going.others in
    let limit = ap (λ (r : Reading). r.max_bytes) has.others ∙ ap (λ (r : Reading). r.max_bytes) going.others in
    let longest = ap (λ (r : Reading). r.max_line) has.others ∙ ap (λ (r : Reading). r.max_line) going.others in
    let given = ap (λ (r : Reading). r.given) has.others ∙ ap (λ (r : Reading). r.given) going.others in
    rw (p.1, p.2) (cause_of _ c.args.self.now c.has_byte.new.self (g.S.Source.left c.args.source.now) left line _ _ front going.in_line going.short consumed limit longest given c.in_err-take_held.ensures.cause)

pub returns-then-not-branch-clause-line : goal.returns-then-not-branch-clause-line
returns-then-not-branch-clause-line g c =
    let left_loop : Option (List ℕ) = g.S.Source.left c.loop-self.source in
    let left : Option (List ℕ) = g.S.Source.left c.has_byte.new.source in
    let going = c.loop-self.invariant in
    let line : List ℕ = c.loop-self.line.items in
    let ended : IsEnded c.loop-self.self c.has_byte.new.self left_loop left = rw c.if-not-branch.true at c.in_ok-has_byte.ensures.reads in
    let held : c.last_line.new.self.held ≡ [] = c.last_line.ensures.held ∙ ap (λ (r : Reading). r.held) c.set_failed-then-not-branch.ensures.noted ∙ ap (λ (r : Reading). r.held) ended.others ∙ ended.empty in
    let front = going.front ∙ ap (λ (h : List ℕ). before_known line (before_known h left_loop)) ended.empty ∙ ap (λ (l : Option (List ℕ)). before_known line (before_known [] l)) (sym ended.told) in
    let end : IsAtEnd left = rw ended.told ended.at_end in
    rw held (at_end _ left line c.last_line.result front end going.in_line c.last_line.ensures.none)

pub returns-then-branch-clause-line : goal.returns-then-branch-clause-line
returns-then-branch-clause-line g c =
    let left : Option (List ℕ) = g.S.Source.left c.has_byte.new.source in
    let going = c.loop-self.invariant in
    let line : List ℕ = c.loop-self.line.items in
    let has : HasByte c.loop-self.self c.has_byte.new.self (g.S.Source.left c.loop-self.source) left = rw c.if-not-branch.false at c.in_ok-has_byte.ensures.reads in
    let takes : TakesHeld c.has_byte.new.self c.take_held.new.self line c.take_held.new.line.items true = rw c.if-branch.true at c.in_ok-take_held.ensures.takes in
    let front = going.front ∙ ap (λ (u : Option (List ℕ)). before_known line u) (sym has.same) in
    rw (takes.line, c.count_line.ensures.counted, c.set_failed-then-branch.ensures.noted) (line_ended _ left line takes.moved c.has_byte.new.self.held c.take_held.new.self.held front takes.held going.in_line takes.in_line)

pub returns-then-branch-clause-bytes : goal.returns-then-branch-clause-bytes
returns-then-branch-clause-bytes g c =
    let left : Option (List ℕ) = g.S.Source.left c.has_byte.new.source in
    let going = c.loop-self.invariant in
    let line : List ℕ = c.loop-self.line.items in
    let has : HasByte c.loop-self.self c.has_byte.new.self (g.S.Source.left c.loop-self.source) left = rw c.if-not-branch.false at c.in_ok-has_byte.ensures.reads in
    let takes : TakesHeld c.has_byte.new.self c.take_held.new.self line c.take_held.new.line.items true = rw c.if-branch.true at c.in_ok-take_held.ensures.takes in
    let front = going.front ∙ ap (λ (u : Option (List ℕ)). before_known line u) (sym has.same) in
    rw (takes.line, c.count_line.ensures.counted, c.set_failed-then-branch.ensures.noted) (line_bytes _ _ left line takes.moved c.has_byte.new.self.held c.take_held.new.self.held front takes.held going.in_line takes.in_line)

pub returns-in_err-has_byte-clause-part : goal.returns-in_err-has_byte-clause-part
returns-in_err-has_byte-clause-part g c =
    let p = err_from_is_err_and c.from_residual.result c.from_residual.ensures.1 in
    rw p.1 (part_so_far _ _ _ _ _ _ _ _ _ _ _ c.loop-self.invariant)

pub returns-then-is_at_limit-clause-part : goal.returns-then-is_at_limit-clause-part
returns-then-is_at_limit-clause-part g c = part_so_far _ _ _ _ _ _ _ _ _ _ _ c.loop-self.invariant

pub returns-in_err-take_held-clause-part : goal.returns-in_err-take_held-clause-part
returns-in_err-take_held-clause-part g c =
    let p = err_from_is_err_and c.from_residual-in_err-take_held.result c.from_residual-in_err-take_held.ensures.1 in
    rw (p.1, c.in_err-take_held.ensures.kept (refl {a = true})) (part_so_far _ _ _ _ _ _ _ _ _ _ _ c.loop-self.invariant)

pub returns-in_err-has_byte-clause-leaves : goal.returns-in_err-has_byte-clause-leaves
returns-in_err-has_byte-clause-leaves g c =
    let p = err_from_is_err_and c.from_residual.result c.from_residual.ensures.1 in
    rw (p.1, p.2, c.in_err-has_byte.ensures.cause.0) (stops_here _ _ _ _ _ _ _ _ _ _ _ c.loop-self.invariant _ (c.in_err-has_byte.ensures.leaves (refl {a = true})))

pub returns-in_err-has_byte-clause-reads : goal.returns-in_err-has_byte-clause-reads
returns-in_err-has_byte-clause-reads g c =
    going_stops _ _ _ _ _ _ _ _ _ _ _ _ _ _ c.loop-self.invariant c.has_byte.ensures.by_need c.has_byte.ensures.others c.has_byte.ensures.sound

pub returns-then-is_at_limit-clause-reads : goal.returns-then-is_at_limit-clause-reads
returns-then-is_at_limit-clause-reads g c =
    going_stops _ _ _ _ _ _ _ _ _ _ _ _ _ _ c.loop-self.invariant c.has_byte.ensures.by_need c.has_byte.ensures.others c.has_byte.ensures.sound

pub returns-then-not-branch-clause-reads : goal.returns-then-not-branch-clause-reads
returns-then-not-branch-clause-reads g c =
    last_counted _ _ _ _ _ _ _ _ (going_stops _ _ _ _ _ _ _ _ _ _ _ _ _ _ c.loop-self.invariant c.has_byte.ensures.by_need c.has_byte.ensures.others c.has_byte.ensures.sound)
    (rw c.set_failed-then-not-branch.ensures.noted at c.last_line.ensures.number) c.last_line.ensures.sound

pub returns-in_err-take_held-clause-reads : goal.returns-in_err-take_held-clause-reads
returns-in_err-take_held-clause-reads g c =
    rw (c.in_err-take_held.ensures.unchanged refl)
    (going_stops _ _ _ _ _ _ _ _ _ _ _ _ _ _ c.loop-self.invariant c.has_byte.ensures.by_need c.has_byte.ensures.others c.has_byte.ensures.sound)

pub returns-then-branch-clause-reads : goal.returns-then-branch-clause-reads
returns-then-branch-clause-reads g c =
    let line : List ℕ = c.loop-self.line.items in
    let takes : TakesHeld c.has_byte.new.self c.take_held.new.self line c.take_held.new.line.items true = rw c.if-branch.true at c.in_ok-take_held.ensures.takes in
    let reads = going_gives _ _ _ _ _ _ _ _ _ _ _ _ _ _ _ _ c.loop-self.invariant c.has_byte.ensures.by_need c.has_byte.ensures.others takes in
    rw (c.count_line.ensures.counted, c.set_failed-then-branch.ensures.noted) (line_counted _ _ _ _ _ _ _ reads (rw (c.count_line.ensures.counted, c.set_failed-then-branch.ensures.noted) at c.count_line.ensures.sound))

pub loop-self-preserved : goal.loop-self-preserved
loop-self-preserved g c =
    let left : Option (List ℕ) = g.S.Source.left c.has_byte.new.source in
    let line : List ℕ = c.loop-self.line.items in
    let has : HasByte c.loop-self.self c.has_byte.new.self (g.S.Source.left c.loop-self.source) left = rw c.if-not-branch.false at c.in_ok-has_byte.ensures.reads in
    let takes : TakesHeld c.has_byte.new.self c.take_held.new.self line c.take_held.new.line.items false = rw c.if-branch.false at c.in_ok-take_held.ensures.takes in
    going_on _ _ _ _ _ _ _ _ _ _ _ _ _ _ _ _ _ _ c.loop-self.invariant has c.has_byte.ensures.by_need takes c.has_byte.ensures.later c.has_byte.ensures.most
