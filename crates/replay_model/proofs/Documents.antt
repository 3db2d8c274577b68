-- What is held stays a document, where each fetch gives a document or none.
use Rattle.std.proofs.Common.{◌≡◌, ℕ, Bool, true, false, cond, Option, None, Result, Ok, Err, refl, sym, subst}
use Rattle.entity_model.specs.declared.id.EntityId.{EntityId}
use Rattle.entity_model.specs.declared.event.Event.{Event}
use Rattle.entity_state.specs.declared.record.Held.{Held}
use Rattle.entity_state.specs.declared.record.Record.{Record}
use Rattle.entity_state.specs.State.{is_deleted, state_after}
use Rattle.entity_state.specs.Record.{held_revision, wants}
use Rattle.entity_state.specs.declared.entry.Cause.{Cause}
use Rattle.replay_model.specs.Fate.{is_of}
use Rattle.replay_model.specs.Play.{Played, apply, held_after_fetch, record_after}
use Rattle.replay_model.specs.Records.{Bytes, record_of}
use Rattle.replay_model.specs.Replies.{GivesDocument, HoldsDocument, Judgement}
use Rattle.replay_model.proofs.RecordOf.{entity_of, record-after}

module _ (unfit : Judgement) (e : Event) (reply : Result Bytes Cause) (gives : GivesDocument unfit e.entity reply) where
  fetched : (answer : Result Bytes Cause) (r : ℕ) (held : Option (Held Bytes)) → GivesDocument unfit e.entity answer → HoldsDocument unfit e.entity held → HoldsDocument unfit e.entity (held_after_fetch r answer held)
  fetched (Ok bytes) r held document before = document
  fetched (Err cause) r held document before = before

  applied : (r : Record Bytes) (fetching deleting : Bool) → HoldsDocument unfit e.entity r.held →
      HoldsDocument unfit e.entity (cond fetching (held_after_fetch (state_after r.state e).rev reply r.held) (cond deleting None r.held))
  applied r true deleting before = fetched reply (state_after r.state e).rev r.held gives before
  applied r false true before = tt
  applied r false false before = before

  -- after the event every entity still holds a document, or nothing
  pub documents-apply : (p : Played) → ((x : EntityId) → HoldsDocument unfit x (record_of p.records x).held) →
      (x : EntityId) → HoldsDocument unfit x (record_of (apply (λ q n. reply) p e).records x).held
  documents-apply p before x =
      subst (λ (r : Record Bytes). HoldsDocument unfit x r.held) (sym (record-after (λ q n. reply) p.records e x)) (
      elim (is_of x e) as (λ b. is_of x e ≡ b → HoldsDocument unfit x (cond b (record_after (λ q n. reply) e (record_of p.records x)) (record_of p.records x)).held) [
        | true ↦ λ of.
            subst (λ y. HoldsDocument unfit y (record_after (λ q n. reply) e (record_of p.records x)).held) (sym (entity_of x e of))
            (applied (record_of p.records x) (wants (state_after (record_of p.records x).state e) (held_revision (record_of p.records x).held)) (is_deleted (state_after (record_of p.records x).state e).mode)
            (subst (λ y. HoldsDocument unfit y (record_of p.records x).held) (entity_of x e of) (before x)))
        | false ↦ λ _. before x
      ] refl)
