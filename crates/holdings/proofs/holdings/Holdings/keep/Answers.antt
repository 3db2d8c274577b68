-- The page that is held stays.
use Rattle.std.proofs.Common.{ap, ◌∙◌}
use Rattle.replay_model.specs.Versions.{meaning_by}
use Rattle.holdings.specs.{InStep.AreInStep, Keeping.seen}
use Rattle.fetched_pages.specs.Meaning.{meaning}
use Rattle.holdings.proofs.{Stepping.stored_still, Moving.seen_there, Replacing.stayed_seen, Stepping.stay_step}
use Rattle.holdings.proofs.holdings.Holdings.keep.Goals.{After-keep_record}
use Rattle.holdings.proofs.holdings.Holdings.keep.Goals as goal

after : (c : After-keep_record) → AreInStep c.self.inside.store c.self.inside.holders c.keep_record.new.table.records
after c = rw c.keep_record.ensures
    (stay_step c.self.inside.store c.self.inside.holders c.make_room.new.table.records c.args.id (rw c.make_room.ensures.records c.self.invariant) c.args.after.state c.args.after.reconciled)

pub invariant_of-self : goal.invariant_of-self
invariant_of-self c = rw c.make_room.ensures.records c.self.invariant

pub invariant_of-self-2 : goal.invariant_of-self-2
invariant_of-self-2 c = after c

pub returns-clause-records : goal.returns-clause-records
returns-clause-records c = rw (← c.self.view_is, ← c.make_room.ensures.records) (ap (seen c.self.inside.store) c.keep_record.ensures
    ∙ stayed_seen (meaning_by meaning c.self.inside.holders.by_two) c.self.inside.store c.make_room.new.table.records c.args.id c.args.after.state c.args.after.reconciled (rw c.make_room.ensures.records c.self.invariant.kept))

pub returns-clause-stored : goal.returns-clause-stored
returns-clause-stored c = rw (← c.self.view_is)
    (stored_still c.self.inside.store c.self.inside.holders c.self.inside.holders c.self.inside.table.records c.keep_record.new.table.records c.self.invariant (after c))

pub returns-in_default-clause-refused : goal.returns-in_default-clause-refused
returns-in_default-clause-refused c = rw (← c.self.view_is) (seen_there c.self.inside.store c.self.inside.table.records c.args.id ∙ c.in_default.ensures.refused)
