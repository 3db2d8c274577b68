-- What an open entry and a settled record say of what is there.
use Rattle.std.proofs.Common.{◌≡◌, ℕ, Bool, true, false, cond, ◌&&◌, ◌||◌, ◌==◌, is_none, is_ok, List, [], ◌∷◌, Option, None, Some, refl, sym, ◌∙◌, ap, true≢false, eqb-true, unwrap_or}
use Rattle.std.specs.{Option.option_map, List.list_any}
use Rattle.entity_model.specs.{declared.id.EntityId.EntityId, declared.event.Event.Event, declared.unfit.Unfit.Unfit}
use Rattle.entity_state.specs.{declared.record.Held.Held, declared.record.Record.Record, declared.state.Mode.Mode}
use Rattle.entity_state.specs.declared.state.Mode.TheVariants.{Unknown, Kept, Deleted}
use Rattle.entity_state.specs.{State.is_kept, Record.held_revision, Record.is_held, Record.lacks}
use Rattle.entity_state.specs.declared.entry.Cause.{Cause}
use Rattle.entity_state.specs.declared.entry.Cause.TheVariants.{Missing, Failed, Unfit as NoDocument}
use Rattle.entity_state.specs.{declared.entry.Entry.Entry, declared.entry.Entry.TheVariants.Late, declared.entry.Entry.TheVariants.Revision}
use Rattle.sorted_sets.specs.Rising.{Each}
use Rattle.sorted_sets.proofs.Bools.{and_left, and_right}
use Rattle.replay_model.specs.{Entries.is_open_by, Entries.is_revision_of, Fate.is_of}
use Rattle.replay_model.specs.Records.{Bytes, is_settled, settles_at}
use Rattle.replay_model.specs.Replies.{HasUnfit, HoldsWhatIsThere, Judgement, TellsWhatIsThere, judged, reply_there}
use Rattle.replay_model.specs.Union.{Meaning, triples_held}
use Rattle.replay_model.proofs.RecordOf.{entity_of}
use Rattle.session_laws.specs.Complete.{has_document, triples_in}

module _ (unfit : Judgement) (contents : ℕ → Option Bytes) where
  unfit_there : (x : EntityId) (why : Unfit) (there : Option Bytes) → HasUnfit unfit x why there → is_ok (reply_there unfit x there) ≡ false
  unfit_there x why None has = absurd has
  unfit_there x why (Some bytes) has = ap (λ found. is_ok (judged found bytes)) has

  -- a revision that an entry names has no document
  named_without : (e : Event) (r : ℕ) (cause : Cause) → TellsWhatIsThere unfit contents [] (Revision e r cause) → has_document unfit contents e.entity r ≡ false
  named_without e r Missing none = ap (λ there. is_ok (reply_there unfit e.entity there)) none
  named_without e r Failed failed = absurd (true≢false (sym failed))
  named_without e r (NoDocument why) has = unfit_there e.entity why (contents r) has

  -- an open entry of an entity says that its page is kept at a revision without a document
  opened : (x : EntityId) (r : Record Bytes) (entry : Entry) → TellsWhatIsThere unfit contents [] entry → (is_revision_of x entry && is_open_by r entry) ≡ true →
      (is_kept r.state.mode ≡ true) × (has_document unfit contents x r.state.rev ≡ false)
  opened x r (Late e) tells is_open = absurd (true≢false (sym is_open))
  opened x r (Revision e q cause) tells is_open =
      let of : is_of x e ≡ true = and_left (is_of x e) _ is_open in
      let lacked : lacks q r.state (held_revision r.held) ≡ true = and_right (is_of x e) _ is_open in
      let at : (is_kept r.state.mode && r.state.rev == q) ≡ true = and_left (is_kept r.state.mode && r.state.rev == q) _ lacked in
      let same : r.state.rev ≡ q = eqb-true r.state.rev q (and_right (is_kept r.state.mode) _ at) in
      (and_left (is_kept r.state.mode) _ at, ap (has_document unfit contents x) same ∙ ap (λ y. has_document unfit contents y q) (entity_of x e of) ∙ named_without e q cause tells)

  pub any_opened : (x : EntityId) (r : Record Bytes) (side : List Entry) → Each (TellsWhatIsThere unfit contents []) side → list_any (λ entry. is_revision_of x entry && is_open_by r entry) side ≡ true →
      (is_kept r.state.mode ≡ true) × (has_document unfit contents x r.state.rev ≡ false)
  any_opened x r [] tells any = absurd (true≢false (sym any))
  any_opened x r (entry ∷ entries) tells any = by (is_revision_of x entry && is_open_by r entry) refl any (any_opened x r entries tells.1)
    where
      by : (b : Bool) → (is_revision_of x entry && is_open_by r entry) ≡ b → (b || list_any (λ other. is_revision_of x other && is_open_by r other) entries) ≡ true →
          (list_any (λ other. is_revision_of x other && is_open_by r other) entries ≡ true → (is_kept r.state.mode ≡ true) × (has_document unfit contents x r.state.rev ≡ false)) →
          (is_kept r.state.mode ≡ true) × (has_document unfit contents x r.state.rev ≡ false)
      by true is_open rest later = opened x r entry tells.0 is_open
      by false closed rest later = later rest

  -- ---- settled records

  module _ {Triple : Type 0} (meaning : Meaning Triple) where
    none_held : (x : EntityId) (held : Option (Held Bytes)) → is_none (held_revision held) ≡ true → triples_held meaning x held ≡ []
    none_held x None none = refl
    none_held x (Some h) none = absurd (true≢false (sym none))

    wanted_held : (x : EntityId) (rev : ℕ) (held : Option (Held Bytes)) → HoldsWhatIsThere unfit contents x held → is_held rev (held_revision held) ≡ true → triples_held meaning x held ≡ unwrap_or (option_map (meaning x rev) (contents rev)) []
    wanted_held x rev None there is = absurd (true≢false (sym is))
    wanted_held x rev (Some h) there is =
        let same : h.revision ≡ rev = eqb-true h.revision rev is in
        let found : contents rev ≡ Some h.content = ap contents (sym same) ∙ there.0 in
        ap (λ n. meaning x n h.content) same ∙ sym (ap (λ o. unwrap_or (option_map (meaning x rev) o) []) found)

    pub settled_triples : (x : EntityId) (r : Record Bytes) → HoldsWhatIsThere unfit contents x r.held → is_settled r ≡ true → triples_held meaning x r.held ≡ triples_in meaning contents x r.state
    settled_triples x r there settled = by r.state.mode refl
      where
        by : (m : Mode) → r.state.mode ≡ m → triples_held meaning x r.held ≡ cond (is_kept r.state.mode) (unwrap_or (option_map (meaning x r.state.rev) (contents r.state.rev)) []) []
        by Unknown is = none_held x r.held (ap (λ m. settles_at m r.state.rev (held_revision r.held)) (sym is) ∙ settled) ∙ ap (λ m. cond (is_kept m) (unwrap_or (option_map (meaning x r.state.rev) (contents r.state.rev)) []) []) (sym is)
        by Kept is = wanted_held x r.state.rev r.held there (ap (λ m. settles_at m r.state.rev (held_revision r.held)) (sym is) ∙ settled) ∙ ap (λ m. cond (is_kept m) (unwrap_or (option_map (meaning x r.state.rev) (contents r.state.rev)) []) []) (sym is)
        by Deleted is = none_held x r.held (ap (λ m. settles_at m r.state.rev (held_revision r.held)) (sym is) ∙ settled) ∙ ap (λ m. cond (is_kept m) (unwrap_or (option_map (meaning x r.state.rev) (contents r.state.rev)) []) []) (sym is)
