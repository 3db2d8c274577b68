-- The failures by the laws on counts.
use Rattle.std.proofs.Common.{◌≤◌, arith, ◌+◌, ◌≡◌}
use Rattle.wq_io.proofs.FailingLaws.{counts_later, rises_where, still_where}
use Rattle.wq_io.proofs.failing.FailingCalls.next_fails.Goals as goal

pub returns-clause-later : goal.returns-clause-later
returns-clause-later c =
    let below : c.self.inside.calls ≤ c.in-Some.call = omega (arith, c.in-Some.ensures) in
    let counted = counts_later c.self.inside.calls c.in-Some.call c.self.inside.numbers below in rw (← c.self.view_is) counted

pub returns-clause-rises : goal.returns-clause-rises
returns-clause-rises c =
    let next : c.in-Some.call ≡ c.self.inside.calls + 1 = omega (arith, c.in-Some.ensures) in
    let found = c.contains.ensures.value in
    rw (← c.self.view_is) (rises_where _ _ _ c.self.inside.numbers next (rw c.as_slice.ensures at found))

pub returns-clause-still : goal.returns-clause-still
returns-clause-still c =
    let next : c.in-Some.call ≡ c.self.inside.calls + 1 = omega (arith, c.in-Some.ensures) in
    let found = c.contains.ensures.value in
    rw (← c.self.view_is) (still_where _ _ _ c.self.inside.numbers next (rw c.as_slice.ensures at found))
