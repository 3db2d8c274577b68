use Rattle.std.proofs.Common.{◌≡◌, ◌≤◌, length}
use Rattle.json_differing.specs.Brackets.{is_inner}
use Rattle.json_spell.specs.Reading.{skip}
use Rattle.json_differing.proofs.brackets.to_mark.Given as goal

abbrev pub invariant-loop-left : goal.invariant-loop-left
invariant-loop-left l = (skip is_inner l.left ≡ skip is_inner l.bytes) × (length l.left ≤ length l.bytes)

abbrev pub decreases-loop-left : goal.decreases-loop-left
decreases-loop-left l = length l.left
