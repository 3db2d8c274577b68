-- What is left goes on as all of it.
use Rattle.std.proofs.Common.{◌≡◌, ◌≤◌, ℕ, length}
use Rattle.json_spell.specs.declared.deep.Position.TheVariants.{Inside}
use Rattle.json_differing.specs.Brackets.{past_from}
use Rattle.json_differing.proofs.brackets.past_string.Given as goal

abbrev pub invariant-loop-mark : goal.invariant-loop-mark
invariant-loop-mark l = ((opened : ℕ) → past_from Inside opened l.left ≡ past_from Inside opened l.bytes) × (length l.left ≤ length l.bytes)

abbrev pub decreases-loop-mark : goal.decreases-loop-mark
decreases-loop-mark l = length l.left
