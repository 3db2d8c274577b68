-- The page that is held stays.
use Rattle.std.proofs.Common.{refl, ap, ◌∙◌}
use Rattle.replay_model.specs.Versions.{meaning_by}
use Rattle.fetched_pages.specs.Meaning.{meaning}
use Rattle.lean_holdings.specs.{InStep.AreInStep, Kept.seen}
use Rattle.lean_holdings.proofs.InStep.{still_in_step, there_seen}
use Rattle.lean_holdings.proofs.Staying.{stayed_seen}
use Rattle.lean_holdings.proofs.holdings.LeanHoldings.keep.Goals.{After-keep_record}
use Rattle.lean_holdings.proofs.holdings.LeanHoldings.keep.Goals as goal

after : (c : After-keep_record) → AreInStep c.self.inside.store c.self.inside.pages c.self.inside.names c.self.inside.holders c.keep_record.new.table.records
after c = rw c.keep_record.ensures
    (still_in_step c.self.inside.store c.self.inside.pages c.self.inside.names c.self.inside.holders c.make_room.new.table.records c.args.id _ refl (rw c.make_room.ensures.records c.self.invariant))

pub invariant_of-self : goal.invariant_of-self
invariant_of-self c = rw c.make_room.ensures.records c.self.invariant

pub invariant_of-self-2 : goal.invariant_of-self-2
invariant_of-self-2 c = after c

pub returns-clause-records : goal.returns-clause-records
returns-clause-records c = rw (← c.self.view_is, ← c.make_room.ensures.records) (ap (seen c.self.inside.pages) c.keep_record.ensures
    ∙ stayed_seen (meaning_by meaning c.self.inside.holders.by_two) c.self.inside.store c.self.inside.pages c.self.inside.names c.make_room.new.table.records c.args.id _ refl)

pub returns-in_default-clause-refused : goal.returns-in_default-clause-refused
returns-in_default-clause-refused c = rw (← c.self.view_is) (there_seen c.self.inside.pages c.self.inside.table.records c.args.id ∙ c.in_default.ensures.refused)
