-- The window on the buffer begins later.
use Rattle.std.proofs.Common.{◌≡◌, ◌≤◌, ◌+◌, ◌-◌, ℕ, List, arith, ap, take, drop, length, length-take}
use Rattle.wq_io.proofs.Pieces.{window_moved}
use Rattle.wq_io.specs.Lines.{Reading}
use Rattle.wq_io.proofs.lines.Lines.advance.Goals as goal

pub returns-clause-moved : goal.returns-clause-moved
returns-clause-moved c =
    let r = c.self.inside in
    let window : List ℕ = take (r.end - r.start) (drop r.start r.buffer) in
    let held : length window ≡ length c.args.self.now.held = ap (λ (v : Reading). length v.held) c.self.view_is in
    let within : r.start + c.args.count ≤ r.end = omega (arith, length-take (r.end - r.start) (drop r.start r.buffer), held, c.requires.held, c.self.invariant) in
    let put : List ℕ → Reading = λ held. record {
      held = held;
      consumed = r.consumed + c.args.count;
      given = r.given;
      max_bytes = r.max_bytes;
      max_line = r.max_line;
      ended = r.ended;
      failed = r.failed;
    } in
    rw (← c.self.view_is) (ap put (window_moved r.buffer r.start r.end c.args.count within))
