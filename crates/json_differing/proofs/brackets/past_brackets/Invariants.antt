-- What is left goes on as all of it, with so many brackets open.
use Rattle.std.proofs.Common.{◌≡◌, ◌≤◌, length}
use Rattle.json_spell.specs.declared.deep.Position.TheVariants.{Outside}
use Rattle.json_differing.specs.Brackets.{past_from}
use Rattle.json_differing.proofs.brackets.past_brackets.Given as goal

abbrev pub invariant-loop-left : goal.invariant-loop-left
invariant-loop-left l = record {
  same : past_from Outside l.opened l.left ≡ past_from Outside 1 l.bytes;
  some : 1 ≤ l.opened;
  few : l.opened ≤ 64;
  no_longer : length l.left ≤ length l.bytes;
}

abbrev pub decreases-loop-left : goal.decreases-loop-left
decreases-loop-left l = length l.left
