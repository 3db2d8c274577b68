use Rattle.std.proofs.Common.{◌≡◌, ◌≤◌, length}
use Rattle.json_spell.specs.Runs.{is_plain}
use Rattle.json_spell.specs.Reading.{skip}
use Rattle.json_reader.proofs.runs.skip_plain.Given as goal

abbrev pub invariant-loop-left : goal.invariant-loop-left
invariant-loop-left l = (skip is_plain l.left ≡ skip is_plain l.bytes) × (length l.left ≤ length l.bytes)

abbrev pub decreases-loop-left : goal.decreases-loop-left
decreases-loop-left l = length l.left
