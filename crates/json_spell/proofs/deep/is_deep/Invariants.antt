use Rattle.std.proofs.Common.{◌≡◌, ◌≤◌, drop}
use Rattle.json_spell.specs.declared.deep.Position.TheVariants.{Outside}
use Rattle.json_spell.specs.Deep.{deep_from}
use Rattle.json_spell.proofs.deep.is_deep.Given as goal

abbrev pub invariant-loop-byte : goal.invariant-loop-byte
invariant-loop-byte l = record {
  same : deep_from l.position l.opened l.closed (drop l.byte-index l.bytes) ≡ deep_from Outside 0 0 l.bytes;
  few_opened : l.opened ≤ l.byte-index;
  few_closed : l.closed ≤ l.byte-index;
}
