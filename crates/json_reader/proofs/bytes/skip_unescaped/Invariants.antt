use Rattle.std.proofs.Common.{◌≡◌, ◌≤◌, length}
use Rattle.json_spell.specs.Text.{is_unescaped}
use Rattle.json_spell.specs.Reading.{skip}
use Rattle.json_reader.proofs.bytes.skip_unescaped.Given as goal

abbrev pub invariant-loop-left : goal.invariant-loop-left
invariant-loop-left l = (skip is_unescaped l.left ≡ skip is_unescaped l.bytes) × (length l.left ≤ length l.bytes)

abbrev pub decreases-loop-left : goal.decreases-loop-left
decreases-loop-left l = length l.left
