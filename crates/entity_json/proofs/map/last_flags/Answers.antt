-- One member more is flagged.
use Rattle.std.proofs.Common.{◌-◌, length, take, sym, subst}
use Rattle.entity_json.proofs.LastMembers.{Passed, passed_last}
use Rattle.entity_json.proofs.map.last_flags.Goals as goal

pub loop-rest-preserved : goal.loop-rest-preserved
loop-rest-preserved c =
    let rest = c.loop-rest.rest.now in
    subst (λ fs. Passed c.args.members.now (take (length rest - 1) rest) fs c.insert.new.self) (sym c.in_ok-push.ensures.items)
    (passed_last c.args.members.now rest _ c.loop-rest.flags.items c.in_ok-insert.field-0 c.loop-rest.seen c.insert.new.self c.key_of.result
    c.loop-rest.invariant c.in-len1-up.len_at_least c.key_of.ensures c.in_ok-insert.ensures.added c.in_ok-insert.ensures.updates.0)
