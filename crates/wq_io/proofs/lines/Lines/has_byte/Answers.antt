-- What one read gives is held.
use Rattle.std.proofs.Common.{◌≡◌, ℕ, ◌≤◌, ◌+◌, ◌-◌, List, length, take, min, ap, refl, arith}
use Rattle.std.proofs.lemmas.List.{length-take}
use Rattle.wq_io.specs.Lines.{IsSound, Reading, longest_read}
use Rattle.wq_io.proofs.lines.Lines.has_byte.Goals as goal

-- a reader that holds what one read gave
sound_read : (r : Reading) (bytes : List ℕ) (count : ℕ) → r.consumed ≤ r.max_bytes → r.given ≤ r.consumed → count ≤ min (r.max_bytes + 1 - r.consumed) longest_read
    → r.held ≡ take count bytes → IsSound r
sound_read r bytes count within counted fits held =
    let most : length (take count bytes) ≤ count = omega (arith, length-take count bytes) in
    record {
      within = within;
      counted = counted;
      bounded = omega (arith, most, ap length held, fits, within);
      buffered = omega (arith, most, ap length held, fits);
    }

filled : (count read most : ℕ) (buffer bytes : List ℕ) → read ≤ length bytes → length bytes ≡ length (take count buffer) → count ≡ most → read - 0 ≤ most
filled count read most buffer bytes within same is = omega (arith, length-take count buffer)

pub returns-clause-others : goal.returns-clause-others
returns-clause-others g c = rw (← c.self.view_is) refl

pub returns-clause-sound : goal.returns-clause-sound
returns-clause-sound g c =
    let invariant = c.self.invariant in
    sound_read _ _ (c.in-Ok.read - 0) invariant.3 invariant.4 (filled c.min-count.result _ _ c.self.inside.buffer _ c.in-Ok.ensures.bound c.read.auto.buf c.min-count.ensures) refl
