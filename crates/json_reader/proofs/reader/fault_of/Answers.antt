-- The scan decides what is deep.
use Rattle.std.proofs.Common.{sym, subst, ◌∙◌}
use Rattle.json_spell.specs.declared.fault.JsonFault.{JsonFault}
use Rattle.json_spell.specs.Tells.{Excuses}
use Rattle.json_spell.proofs.Depth.{deep, shallow}
use Rattle.json_reader.proofs.reader.fault_of.Goals as goal

pub returns-then-is_deep : goal.returns-then-is_deep
returns-then-is_deep c = deep c.args.bytes.now (sym c.is_deep.ensures ∙ c.if-is_deep.true)

pub returns-in-NotJson : goal.returns-in-NotJson
returns-in-NotJson c =
    (shallow c.args.bytes.now (sym c.is_deep.ensures ∙ c.if-is_deep.false), subst (λ (f : JsonFault). Excuses c.args.bytes.now f) c.in-NotJson.is c.requires)

pub returns-in-Deep : goal.returns-in-Deep
returns-in-Deep c = shallow c.args.bytes.now (sym c.is_deep.ensures ∙ c.if-is_deep.false)
