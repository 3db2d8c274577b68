-- A remapping leaves what is held as it was.
use Rattle.std.proofs.Common.{◌≡◌, ◌+◌, ◌≤◌, Option, Some, length, sym, subst, ◌∙◌}
use Rattle.entity_model.specs.declared.id.EntityId.{EntityId}
use Rattle.entity_json.specs.Document.{unfit_of}
use Rattle.replay_model.specs.{Entries.HoldsUnlessOpen, Records.Records, Records.record_of, Replies.HoldsDocument}
use Rattle.holders.specs.Holding.{stale_by}
use Rattle.world.specs.{Held.HeldState, Held.held_in, Roomed.needs_at, WorldState.played_of}
use Rattle.holders.proofs.ByVersion.{fewer}
use Rattle.world.proofs.world.World.remap_next_with.Goals as goal

pub invariant_of-self-2 : goal.invariant_of-self-2
invariant_of-self-2 c = (
  subst (λ (records : Records). HoldsUnlessOpen (record { records = records; side = c.self.inside.side.entries })) (sym c.remap.ensures.records) c.self.invariant.0,
  c.facts.ensures.room,
  c.facts.ensures.holders,
  subst (λ (records : Records). (x : EntityId) → HoldsDocument unfit_of x (record_of records x).held) (sym c.remap.ensures.records) c.self.invariant.3,
)

pub returns-clause-fewer : goal.returns-clause-fewer
returns-clause-fewer c = rw (← c.self.view_is)
    (subst (λ (records : Records). length (stale_by c.self.inside.mapping (held_in c.remap.new.self).by_two records) + 1 ≡ length (stale_by c.self.inside.mapping (held_in c.self.inside.holdings).by_two (held_in c.self.inside.holdings).records))
    (sym c.remap.ensures.records)
    (fewer c.self.inside.mapping (held_in c.self.inside.holdings).by_two (held_in c.remap.new.self).by_two (held_in c.self.inside.holdings).records (Some c.in-Some.entity) c.self.invariant.2.rising
    (sym c.in-Some.is ∙ c.next_stale.ensures.entity) c.in-Ok.ensures.by_two))

pub returns-clause-change : goal.returns-clause-change
returns-clause-change c = rw (← c.self.view_is) c.in-Ok.ensures.change

pub returns-clause-triples : goal.returns-clause-triples
returns-clause-triples c = rw (← c.self.view_is) c.in-Ok.ensures.triples

pub returns-clause-within : goal.returns-clause-within
returns-clause-within c =
    let was : HeldState = held_in c.self.inside.holdings in
    rw (← c.self.view_is)
    (subst (λ (stale : Option EntityId). needs_at (record { replay = record { buffer = c.self.inside.buffer; played = played_of was c.self.inside.side.entries }; limit = was.limit; mapping = c.self.inside.mapping; by_two = was.by_two }) stale ≤ was.limit.terms)
    (sym c.in-Some.is ∙ c.next_stale.ensures.entity) c.in-Ok.ensures.within)
