-- The page that was held goes.
use Rattle.std.proofs.Common.{◌≡◌, true≢false, inl, inr, refl, sym, ap, ◌∙◌}
use Rattle.entity_model.specs.declared.mapping.MappingVersion.TheVariants.{Two}
use Rattle.triple_store.specs.declared.telling.Telling.{Telling}
use Rattle.triple_store.specs.declared.telling.Telling.TheVariants.{Nothing, Whether, Change as TheChange}
use Rattle.triple_store.specs.StoreState.{counts_in}
use Rattle.holders.specs.Holders.{ByVersion, without_holder}
use Rattle.holdings.specs.{InStep.AreInStep, Keeping.seen}
use Rattle.holdings.proofs.{Stepping.step_tells, Moving.seen_there, Stepping.gone_seen, Stepping.gone_step}
use Rattle.holdings.proofs.holdings.Holdings.release.Goals.{After-remove-2}
use Rattle.holdings.proofs.holdings.Holdings.release.Goals as goal

must_tell : (telling : Telling) → ((telling ≡ TheChange → ⊥) → ⊥) → telling ≡ TheChange
must_tell Nothing never = absurd (never (λ same. absurd cc))
must_tell Whether never = absurd (never (λ same. absurd cc))
must_tell TheChange never = refl

after : (c : After-remove-2) → AreInStep c.replace.new.store c.remove-2.new.self c.replace.new.table.records
after c = rw c.replace.ensures.records
    (gone_step c.self.inside.store c.self.inside.holders c.make_room.new.table.records c.args.id (rw c.make_room.ensures.records c.self.invariant) c.release.new.self c.replace.new.store
    c.args.after.state c.args.after.reconciled c.release.ensures.rest.beside c.replace.ensures.freed c.remove-2.new.self c.keys_of-gone.result.rising.now
    (c.remove-2.ensures ∙ ap (λ (i : ByVersion). without_holder i c.args.id Two) c.remove.ensures)
    c.replace.ensures.sound c.keys_of-gone.ensures c.in-Ok-release.ensures.released.ok c.release.ensures.rest.keeps c.replace.ensures.counts c.replace.ensures.kept)

pub invariant_of-self : goal.invariant_of-self
invariant_of-self c = rw c.make_room.ensures.records c.self.invariant

pub invariant_of-self-2 : goal.invariant_of-self-2
invariant_of-self-2 c = after c

pub returns-clause-records : goal.returns-clause-records
returns-clause-records c = rw (← c.self.view_is, ← c.make_room.ensures.records) (ap (seen c.replace.new.store) c.replace.ensures.records
    ∙ gone_seen c.self.inside.store c.self.inside.holders c.make_room.new.table.records c.args.id (rw c.make_room.ensures.records c.self.invariant) c.release.new.self c.replace.new.store
    c.args.after.state c.args.after.reconciled c.release.ensures.rest.beside c.replace.ensures.freed)

pub returns-clause-limit : goal.returns-clause-limit
returns-clause-limit c = rw (← c.self.view_is) (c.replace.ensures.limit ∙ c.release.ensures.rest.limit)

pub returns-clause-change : goal.returns-clause-change
returns-clause-change c = rw (← c.self.view_is)
    (step_tells c.self.inside.store c.replace.new.store c.self.inside.holders c.remove-2.new.self c.self.inside.table.records c.replace.new.table.records c.self.invariant (after c)
    (counts_in c.self.inside.store) (counts_in c.release.new.self) refl (sym c.replace.ensures.counts) c.args.telling c.in-Ok-release.change c.in-Ok-release.ensures.released.told)

pub returns-in_default-clause-refused : goal.returns-in_default-clause-refused
returns-in_default-clause-refused c = rw (← c.self.view_is) (inl (seen_there c.self.inside.store c.self.inside.table.records c.args.id ∙ c.in_default.ensures.refused))

pub returns-in_default-release-clause-refused : goal.returns-in_default-release-clause-refused
returns-in_default-release-clause-refused c = inr (must_tell c.args.telling (λ is. true≢false (sym (c.in_default-release.ensures.released.free is))))
