use Rattle.std.proofs.Common.{◌≡◌, ◌≤◌, length}
use Rattle.std.specs.Char.{is_ascii_digit}
use Rattle.json_spell.specs.Reading.{skip}
use Rattle.json_reader.proofs.bytes.skip_digits.Given as goal

abbrev pub invariant-loop-left : goal.invariant-loop-left
invariant-loop-left l = (skip is_ascii_digit l.left ≡ skip is_ascii_digit l.bytes) × (length l.left ≤ length l.bytes)

abbrev pub decreases-loop-left : goal.decreases-loop-left
decreases-loop-left l = length l.left
