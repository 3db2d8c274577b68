-- One member more, whose name wasn't seen.
use Rattle.json_differing.proofs.Apart.{passed_last}
use Rattle.json_differing.proofs.own.many_are_apart.Goals as goal

pub loop-rest-preserved : goal.loop-rest-preserved
loop-rest-preserved c =
    passed_last c.args.members.now c.loop-rest.rest.now _ c.in_ok-is_new.is_new c.loop-rest.seen c.insert.new.self c.name_of.result c.loop-rest.invariant c.in-len1-up.len_at_least
    c.name_of.ensures c.in_ok-is_new.ensures.added c.if-not-is_new.false c.in_ok-is_new.ensures.updates.0
