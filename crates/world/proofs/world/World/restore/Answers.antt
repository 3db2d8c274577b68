-- The world with the record keeps what a world keeps.
use Rattle.std.proofs.Common.{rules, ◌≡◌, true, sym, ap, subst, ◌∙◌}
use Rattle.entity_json.specs.Document.{unfit_of}
use Rattle.entity_model.specs.declared.id.EntityId.{EntityId}
use Rattle.replay_model.specs.{Entries.HoldsUnlessOpen, Records.Records, Records.record_of, Replies.HoldsDocument, Versions.all_by}
use Rattle.world.specs.{Held.HeldState, Held.held_in, Restoring.by_two_with, Restoring.is_accounted_for, WorldState.played_of}
use Rattle.world.proofs.PuttingIn.{documents_put, holds_put, put_by_one, accounted_stands}
use Rattle.world.proofs.world.World.restore.Goals.{in-Ok, in-Err}
use Rattle.world.proofs.world.World.restore.Goals as goal

pub invariant_of-self : goal.invariant_of-self
invariant_of-self c =
    let told : is_accounted_for c.self.inside.side.entries c.args.id c.args.entity ≡ true = search rules in
    elim c.match-restored.branch [
      | in-Ok w ↦ (
        subst (λ (m : Records). HoldsUnlessOpen (record { records = m; side = c.self.inside.side.entries })) (sym w.in-Ok.ensures.ok)
            (holds_put (played_of (held_in c.self.inside.holdings) c.self.inside.side.entries) c.args.id c.args.entity c.self.invariant.0 (accounted_stands _ _ _ told w.in-Ok.ensures.document)),
        c.facts.ensures.room,
        c.facts.ensures.holders,
        subst (λ (m : Records). (x : EntityId) → HoldsDocument unfit_of x (record_of m x).held) (sym w.in-Ok.ensures.ok)
            (documents_put (held_in c.self.inside.holdings).records c.args.id c.args.entity c.self.invariant.3 w.in-Ok.ensures.document),
      )
      | in-Err w ↦ (
        subst (λ (h : HeldState). HoldsUnlessOpen (played_of h c.self.inside.side.entries)) (sym w.in-Err.ensures.err) c.self.invariant.0,
        c.facts.ensures.room,
        c.facts.ensures.holders,
        subst (λ (h : HeldState). (x : EntityId) → HoldsDocument unfit_of x (record_of h.records x).held) (sym w.in-Err.ensures.err) c.self.invariant.3,
      )
    ]

pub returns-clause-sound : goal.returns-clause-sound
returns-clause-sound c =
    let told : is_accounted_for c.self.inside.side.entries c.args.id c.args.entity ≡ true = search rules in
    elim c.match-restored.branch [
      | in-Ok w ↦ rw (w.result-is, ← c.self.view_is) (accounted_stands c.self.inside.side.entries c.args.id c.args.entity told w.in-Ok.ensures.document)
      | in-Err w ↦ rw w.result-is tt
    ]

pub returns-clause-within : goal.returns-clause-within
returns-clause-within c = elim c.match-restored.branch [
  | in-Ok w ↦ rw (w.result-is, ← c.self.view_is) w.in-Ok.ensures.within
  | in-Err w ↦ rw w.result-is tt
]

pub returns-clause-by_one : goal.returns-clause-by_one
returns-clause-by_one c = rw (← c.self.view_is) (λ one. elim c.match-restored.branch [
  | in-Ok w ↦ w.in-Ok.ensures.by_two ∙ ap (by_two_with c.self.inside.mapping c.args.id c.args.entity.held) one
      ∙ put_by_one c.self.inside.mapping (held_in c.self.inside.holdings).records c.args.id c.args.entity ∙ ap (all_by c.self.inside.mapping) (sym w.in-Ok.ensures.ok)
  | in-Err w ↦ ap (λ (h : HeldState). h.by_two) w.in-Err.ensures.err ∙ one ∙ ap (λ (h : HeldState). all_by c.self.inside.mapping h.records) (sym w.in-Err.ensures.err)
])

pub returns-clause-sound_if_full : goal.returns-clause-sound_if_full
returns-clause-sound_if_full c =
    let told : is_accounted_for c.self.inside.side.entries c.args.id c.args.entity ≡ true = search rules in
    elim c.match-restored.branch [
      | in-Ok w ↦ rw w.result-is (λ never. cc)
      | in-Err w ↦ rw (w.result-is, ← c.self.view_is) (λ full. accounted_stands c.self.inside.side.entries c.args.id c.args.entity told (w.in-Err.ensures.document_if_full full))
    ]

pub returns-clause-refused : goal.returns-clause-refused
returns-clause-refused c =
    let told : is_accounted_for c.self.inside.side.entries c.args.id c.args.entity ≡ true = search rules in
    elim c.match-restored.branch [
      | in-Ok w ↦ rw w.result-is (λ never. cc)
      | in-Err w ↦ rw (w.result-is, ← c.self.view_is) (λ refused. record { accounted = told; takes = w.in-Err.ensures.refused refused })
    ]
