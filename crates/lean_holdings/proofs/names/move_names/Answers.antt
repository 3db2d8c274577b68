-- Each list has an entity once.
use Rattle.std.proofs.Common.{◌∙◌}
use Rattle.std.specs.FinMap as map
use Rattle.lean_holdings.proofs.Moved.{counted_same, few_more, names_move}
use Rattle.lean_holdings.proofs.names.move_names.Goals as goal

pub raise-requires-clause-counted : goal.raise-requires-clause-counted
raise-requires-clause-counted c x there = map.contains_key-keys c.args.names.now x ∙ c.requires.counted x there

pub raise-requires-clause-few : goal.raise-requires-clause-few
raise-requires-clause-few c x = few_more c.args.names.now c.args.come.now x c.requires.come_rise (c.requires.few x)

pub returns-clause-named : goal.returns-clause-named
returns-clause-named c x = names_move _ _ _ c.args.gone.now c.args.come.now x c.requires.gone_rise c.requires.come_rise (c.raise.ensures.pages x) (c.lower.ensures.pages x) (c.requires.named x)

pub returns-clause-counted : goal.returns-clause-counted
returns-clause-counted c = counted_same c.args.names.now c.lower.new.self (λ x. c.lower.ensures.same x ∙ c.raise.ensures.same x)
