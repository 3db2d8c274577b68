-- What was held goes, or all is as it was.
use Rattle.std.proofs.Common.{◌≡◌, ◌<◌, [], None, true≢false, refl, sym, ap, ◌∙◌, arith}
use Rattle.std.specs.FinMap as map
use Rattle.entity_model.specs.declared.mapping.MappingVersion.TheVariants.{Two}
use Rattle.replay_model.specs.{Versions.meaning_by}
use Rattle.fetched_pages.specs.Meaning.{meaning}
use Rattle.holders.specs.Holders.{ByVersion, without_holder}
use Rattle.lean_holdings.specs.{InStep.AreInStep, Kept.seen}
use Rattle.holders.proofs.ByVersion.{moved_out}
use Rattle.lean_holdings.specs.Moving.{lists_of}
use Rattle.lean_holdings.proofs.{CountedIn.are_stored, CountedIn.countable}
use Rattle.lean_holdings.proofs.Stepping.{gone_step, gone_step_seen, gone_tells, may_move, undone_step}
use Rattle.lean_holdings.proofs.holdings.LeanHoldings.put_nothing.Goals.{After-remove-in-Ok-move_parts}
use Rattle.lean_holdings.proofs.holdings.LeanHoldings.put_nothing.Goals as goal

is_out : (c : After-remove-in-Ok-move_parts) → c.remove-in-Ok-move_parts.new.self ≡ moved_out c.self.inside.holders c.args.id
is_out c = c.remove-in-Ok-move_parts.ensures ∙ ap (λ (i : ByVersion). without_holder i c.args.id Two) c.remove.ensures

after : (c : After-remove-in-Ok-move_parts) → AreInStep c.move_parts.new.store c.replace.new.pages c.move_parts.new.names c.remove-in-Ok-move_parts.new.self c.replace.new.table.records
after c = rw (c.replace.ensures.records, c.make_room.ensures.records)
    (gone_step c.self.inside.store c.self.inside.pages c.self.inside.names c.self.inside.holders c.self.inside.table.records c.args.id c.self.invariant
    c.remove-in-Ok-move_parts.new.self (is_out c) c.move_parts.new.store c.move_parts.new.names c.keys_of-keys.result.rising.now (lists_of c.args.gone.now) (lists_of c.args.come.now) c.in-Ok-move_parts.field-0
    (rw (← c.self.view_is) at c.requires.gone) (c.requires.come _) (rw c.make_room.ensures.records at c.keys_of-keys.ensures) c.in-Ok-move_parts.ensures.moved
    c.replace.new.pages c.args.after.state c.args.after.reconciled (rw c.make_room.ensures.records at c.replace.ensures.freed))

pub move_parts-requires-clause-stored : goal.move_parts-requires-clause-stored
move_parts-requires-clause-stored c = rw (c.keys_of-keys.ensures, c.make_room.ensures.records)
    (are_stored (meaning_by meaning c.self.inside.holders.by_two) c.self.inside.store c.self.inside.pages c.self.inside.names c.self.inside.table.records c.args.id c.self.invariant.kept)

pub move_parts-requires-clause-countable : goal.move_parts-requires-clause-countable
move_parts-requires-clause-countable c =
    let few : map.len c.self.inside.table.records < 18446744073709551615 = omega (arith, ap map.len c.make_room.ensures.records) in
    λ t. countable (meaning_by meaning c.self.inside.holders.by_two) c.self.inside.store c.self.inside.pages c.self.inside.names c.self.inside.table.records c.self.invariant.kept _ few t

pub move_parts-requires-clause-fit : goal.move_parts-requires-clause-fit
move_parts-requires-clause-fit c = (c.requires.come [] (meaning_by meaning c.self.inside.holders.by_two)).fit

pub move_parts-requires-clause-may_move : goal.move_parts-requires-clause-may_move
move_parts-requires-clause-may_move c =
    let few : map.len c.self.inside.table.records < 18446744073709551615 = omega (arith, ap map.len c.make_room.ensures.records) in
    may_move c.self.inside.store c.self.inside.pages c.self.inside.names c.self.inside.holders c.self.inside.table.records c.args.id c.self.invariant
    (meaning_by meaning c.self.inside.holders.by_two) None (lists_of c.args.gone.now) (lists_of c.args.come.now) few
    (rw (← c.self.view_is) at c.requires.gone) (c.requires.come _ _) (λ y there. absurd (true≢false (sym there ∙ (c.requires.come [] (meaning_by meaning c.self.inside.holders.by_two)).names y)))

pub invariant_of-self : goal.invariant_of-self
invariant_of-self c = rw c.make_room.ensures.records c.self.invariant

pub invariant_of-self-in-Ok-move_parts : goal.invariant_of-self-in-Ok-move_parts
invariant_of-self-in-Ok-move_parts c = after c

pub invariant_of-self-in-Err : goal.invariant_of-self-in-Err
invariant_of-self-in-Err c = rw (c.make_room.ensures.records, c.in-Err.ensures.err_names)
    (undone_step c.self.inside.store c.self.inside.pages c.self.inside.names c.self.inside.holders c.self.inside.table.records c.args.id c.self.invariant
    c.move_parts.new.store c.self.inside.pages c.move_parts.ensures.rest.sound c.in-Err.ensures.err c.move_parts.ensures.rest.keeps (λ p. refl))

pub returns-in-Ok-move_parts-clause-records : goal.returns-in-Ok-move_parts-clause-records
returns-in-Ok-move_parts-clause-records c = rw (← c.self.view_is, c.replace.ensures.records, c.make_room.ensures.records)
    (gone_step_seen c.self.inside.store c.self.inside.pages c.self.inside.names c.self.inside.holders c.self.inside.table.records c.args.id c.self.invariant
    c.remove-in-Ok-move_parts.new.self (is_out c) c.move_parts.new.store c.move_parts.new.names c.keys_of-keys.result.rising.now (lists_of c.args.gone.now) (lists_of c.args.come.now) c.in-Ok-move_parts.field-0
    (rw (← c.self.view_is) at c.requires.gone) (c.requires.come _) (rw c.make_room.ensures.records at c.keys_of-keys.ensures) c.in-Ok-move_parts.ensures.moved
    c.replace.new.pages c.args.after.state c.args.after.reconciled (rw c.make_room.ensures.records at c.replace.ensures.freed))

pub returns-in-Ok-move_parts-clause-by_two : goal.returns-in-Ok-move_parts-clause-by_two
returns-in-Ok-move_parts-clause-by_two c = rw (← c.self.view_is) (ap (λ (i : ByVersion). i.by_two) (is_out c))

pub returns-in-Ok-move_parts-clause-limit : goal.returns-in-Ok-move_parts-clause-limit
returns-in-Ok-move_parts-clause-limit c = rw (← c.self.view_is) c.move_parts.ensures.rest.limit

pub returns-in-Ok-move_parts-clause-change : goal.returns-in-Ok-move_parts-clause-change
returns-in-Ok-move_parts-clause-change c = rw (← c.self.view_is, c.replace.ensures.records, c.make_room.ensures.records)
    (gone_tells c.self.inside.store c.self.inside.pages c.self.inside.names c.self.inside.holders c.self.inside.table.records c.args.id c.self.invariant
    c.remove-in-Ok-move_parts.new.self (is_out c) c.move_parts.new.store c.move_parts.new.names c.keys_of-keys.result.rising.now (lists_of c.args.gone.now) (lists_of c.args.come.now) c.in-Ok-move_parts.field-0
    (rw (← c.self.view_is) at c.requires.gone) (c.requires.come _) (rw c.make_room.ensures.records at c.keys_of-keys.ensures) c.in-Ok-move_parts.ensures.moved
    c.replace.new.pages c.args.after.state c.args.after.reconciled (rw c.make_room.ensures.records at c.replace.ensures.freed))

pub returns-in-Err-clause-limit : goal.returns-in-Err-clause-limit
returns-in-Err-clause-limit c = rw (← c.self.view_is) c.move_parts.ensures.rest.limit

pub returns-in-Err-clause-err : goal.returns-in-Err-clause-err
returns-in-Err-clause-err c = rw (← c.self.view_is) (λ i. record {
  records = ap (seen c.self.inside.pages) c.make_room.ensures.records i;
  limit = c.move_parts.ensures.rest.limit i;
  by_two = c.self.inside.holders.by_two;
  names = c.in-Err.ensures.err_names i;
})
