-- One member more, whose name none behind it has.
use Rattle.std.proofs.Common.{sym, ◌∙◌}
use Rattle.json_differing.proofs.Apart.{apart_front}
use Rattle.json_differing.proofs.own.few_are_apart.Goals as goal

pub loop-left-preserved : goal.loop-left-preserved
loop-left-preserved c apart =
    c.loop-left.invariant
    (apart_front c.loop-left.left.now _ c.name_of.result.now c.in-len1-up.len_at_least c.name_of.ensures (sym c.has_name.ensures ∙ c.if-has_name.false) apart)
