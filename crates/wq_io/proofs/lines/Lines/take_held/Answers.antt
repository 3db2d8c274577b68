-- What is taken, and what a refusal shows.
use Rattle.std.proofs.Common.{refl, ◌≡◌, ◌≤◌, sym, ℕ, List, arith, ap, take, length, take-append-drop, length-take, length-take-le, add-one}
use Rattle.std.proofs.lemmas.Result.{err_from_is_err_and}
use Rattle.wq_io.specs.Lines.{Reading, room}
use Rattle.wq_io.specs.Taking.{EndsAt}
use Rattle.wq_io.proofs.Taken.{refused, held_round, held_front, front_within}
use Rattle.wq_io.proofs.lines.Lines.take_held.Goals as goal

pub returns-in_err-append-in-Some-clause-cause : goal.returns-in_err-append-in-Some-clause-cause
returns-in_err-append-in-Some-clause-cause c =
    let p = err_from_is_err_and c.from_residual.result c.from_residual.ensures.1 in
    let old : Reading = c.args.self.now in
    let given : c.self.inside.given ≡ old.given = ap (λ (r : Reading). r.given) c.self.view_is in
    let longest : c.self.inside.max_line ≡ old.max_line = ap (λ (r : Reading). r.max_line) c.self.view_is in
    let cause = rw (given, longest, c.usable-usable.ensures) at c.in_err-append-in-Some.ensures.cause in
    let ends : EndsAt c.in-Some.index (take (room old) old.held) = rw c.usable-usable.ensures at c.in-Some.ensures in
    rw (p.1, p.2) (refused _ old _ _ _ (held_front old.held (room old) c.in-Some.index) ends.in_line (front_within old.held (room old) c.in-Some.index) cause)

pub returns-in_err-append-in-None-clause-cause : goal.returns-in_err-append-in-None-clause-cause
returns-in_err-append-in-None-clause-cause c =
    let p = err_from_is_err_and c.from_residual-in_err-append-in-None.result c.from_residual-in_err-append-in-None.ensures.1 in
    let old : Reading = c.args.self.now in
    let given : c.self.inside.given ≡ old.given = ap (λ (r : Reading). r.given) c.self.view_is in
    let longest : c.self.inside.max_line ≡ old.max_line = ap (λ (r : Reading). r.max_line) c.self.view_is in
    let cause = rw (given, longest, c.usable-usable.ensures) at c.in_err-append-in-None.ensures.cause in
    let one_line = rw c.usable-usable.ensures at c.in-None.ensures in
    let within : length (take (room old) old.held) ≤ room old = omega (arith, length-take (room old) old.held) in
    rw (p.1, p.2) (refused _ old _ _ _ (sym (take-append-drop (room old) old.held)) one_line within cause)

pub returns-in_ok-append-in-Some-clause-takes : goal.returns-in_ok-append-in-Some-clause-takes
returns-in_ok-append-in-Some-clause-takes c =
    let old : Reading = c.args.self.now in
    let ends : EndsAt c.in-Some.index (take (room old) old.held) = rw c.usable-usable.ensures at c.in-Some.ensures in
    let moved : List ℕ = take c.in-Some.index (take (room old) old.held) in
    let long : length moved ≡ c.in-Some.index = length-take-le c.in-Some.index (take (room old) old.held) (omega (arith, ends.within)) in
    let line = rw c.usable-usable.ensures at c.in_ok-append-in-Some.ensures.ok.0 in
    record {
      moved = moved;
      some = tt;
      in_line = ends.in_line;
      line = line;
      short = rw (ap (λ (r : Reading). r.max_line) c.self.view_is) at c.in_ok-append-in-Some.ensures.ok.1;
      held = rw (c.advance.ensures.moved, add-one) (held_round old.held (room old) c.in-Some.index ends);
      consumed = rw c.advance.ensures.moved (omega (arith, long));
      others = rw c.advance.ensures.moved refl;
      sound = c.advance.ensures.sound;
    }
