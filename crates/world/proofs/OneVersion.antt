-- The versions of a world follow the play, and where all that is held is mapped by one version, so it is after an application.
use Rattle.std.proofs.Common.{◌≡◌, ◌∙◌, refl, sym, ap, subst, ℕ, Bool, true, false, cond, ◌&&◌, List, [], ◌∷◌, Option, None, Some, Result, Ok, Err, is_ok, is_some, true≢false}
use Rattle.std.specs.{Ordering.eq_by_cmp, Set.remove_key}
use Rattle.sorted_sets.specs.Rising.{has}
use Rattle.sorted_sets.proofs.{Bools.or_false_left, Bools.or_false_right, Rising.has_itself}
use Rattle.entity_model.specs.{declared.id.EntityId.EntityId, declared.event.Event.Event, declared.mapping.MappingVersion.MappingVersion}
use Rattle.entity_model.specs.declared.mapping.MappingVersion.TheVariants.{One, Two}
use Rattle.entity_model.specs.EntityId.{entity_cmp, entity_cmp_total}
use Rattle.entity_state.specs.{declared.record.Held.Held, declared.record.Record.Record, State.is_deleted, State.state_after}
use Rattle.entity_state.specs.Record.{held_revision, wants}
use Rattle.entity_state.specs.declared.entry.Cause.{Cause}
use Rattle.revisions.specs.Revisions.{Contents}
use Rattle.replay_model.specs.Play.{held_after_fetch, nothing_played}
use Rattle.replay_model.specs.PlayedVersions.{by_two_after_event, by_two_remapped}
use Rattle.replay_model.specs.{Records.Bytes, Records.Records, Records.record_of, ReplayState.ReplayState}
use Rattle.replay_model.specs.Versions.{all_by, is_holder, with_version}
use Rattle.replay_model.proofs.{PlayedVersions.by_two-event, PlayedVersions.by_two-remapped, RecordOf.record_of-empty}
use Rattle.replay_model.proofs.Versions.{has-holders, holders-rise}
use Rattle.world.specs.{declared.applied.AppliedEvent.AppliedEvent, declared.applied.Outcome.Outcome}
use Rattle.world.specs.declared.applied.Outcome.TheVariants.{Same, Dropped}
use Rattle.holders.specs.Holding.{AreHolders}
use Rattle.world.specs.{Applying.Applies, Applying.outcome_of_reply, WorldState.WorldState, WorldState.by_two_after}

-- one that isn't there is taken out
without_absent : (x : EntityId) (xs : List EntityId) → has entity_cmp x xs ≡ false → remove_key (eq_by_cmp entity_cmp x) xs ≡ xs
without_absent x [] absent = refl
without_absent x (y ∷ ys) absent =
    ap (λ b. cond b ys (y ∷ remove_key (eq_by_cmp entity_cmp x) ys)) (or_false_left (eq_by_cmp entity_cmp x y) (has entity_cmp x ys) absent)
    ∙ ap (λ zs. y ∷ zs) (without_absent x ys (or_false_right (eq_by_cmp entity_cmp x y) (has entity_cmp x ys) absent))

-- an outcome says what the play says, where an entity that holds nothing isn't named
by_outcome : (version : MappingVersion) (x : EntityId) (by_two : List EntityId) (before : Option (Held Bytes)) → (has entity_cmp x by_two ≡ true → is_some before ≡ true)
    → (fetching deleting : Bool) (rev : ℕ) (reply : Result Bytes Cause)
    → by_two_after (cond fetching (outcome_of_reply reply) (cond deleting Dropped Same)) version x by_two
    ≡ cond (fetching && is_ok reply) (with_version version x by_two)
    (cond (is_some (cond fetching (held_after_fetch rev reply before) (cond deleting None before))) by_two (with_version One x by_two))
by_outcome version x by_two before named = by
  where
    left : (h : Option (Held Bytes)) → (has entity_cmp x by_two ≡ true → is_some h ≡ true) → by_two ≡ cond (is_some h) by_two (with_version One x by_two)
    left (Some held) named = refl
    left None named = sym (without_absent x by_two (absent (has entity_cmp x by_two) named))
      where
        absent : (b : Bool) → (b ≡ true → false ≡ true) → b ≡ false
        absent true h = sym (h refl)
        absent false h = refl

    by : (fetching deleting : Bool) (rev : ℕ) (reply : Result Bytes Cause)
        → by_two_after (cond fetching (outcome_of_reply reply) (cond deleting Dropped Same)) version x by_two
        ≡ cond (fetching && is_ok reply) (with_version version x by_two)
        (cond (is_some (cond fetching (held_after_fetch rev reply before) (cond deleting None before))) by_two (with_version One x by_two))
    by true deleting rev (Ok bytes) = refl
    by true deleting rev (Err cause) = left before named
    by false true rev reply = refl
    by false false rev reply = left before named

-- an application makes of the versions what the play says
pub applied_by_play : (known : Option Contents) (folder : List ℕ) (old new : WorldState) (applied : AppliedEvent) → (a : Applies known folder old.replay new.replay applied) → AreHolders old.by_two old.replay.played.records
    → by_two_after applied.outcome old.mapping applied.event.entity old.by_two
    ≡ by_two_after_event old.mapping (λ _ _. a.reply) applied.event (record_of old.replay.played.records applied.event.entity) old.by_two
applied_by_play known folder old new applied a are =
    let e : Event = applied.event in
    let r : Record Bytes = record_of old.replay.played.records e.entity in
    ap (λ (o : Outcome). by_two_after o old.mapping e.entity old.by_two) a.outcome
    ∙ by_outcome old.mapping e.entity old.by_two r.held (are.holding e.entity) (wants (state_after r.state e) (held_revision r.held)) (is_deleted (state_after r.state e).mode)
    (state_after r.state e).rev a.reply

-- and so does a change of the mapping
pub remapped_by_play : (version : MappingVersion) (by_two : List EntityId) (records : Records) → AreHolders by_two records → by_two_remapped version records by_two ≡ all_by version records
remapped_by_play version by_two records are = by_two-remapped version records by_two are.rising are.holding

-- where all hold by one version, those that are named hold
all_are_holders : (version : MappingVersion) (records : Records) → AreHolders (all_by version records) records
all_are_holders One records = record { rising = tt; holding = λ x there. absurd (true≢false (sym there)) }
all_are_holders Two records = record { rising = holders-rise records; holding = λ x there. sym (has-holders records x) ∙ there }

-- after an application all that is held is mapped by the version by which all was
pub applied_by_one : (known : Option Contents) (folder : List ℕ) (old new : WorldState) (applied : AppliedEvent) → Applies known folder old.replay new.replay applied → new.mapping ≡ old.mapping
    → new.by_two ≡ by_two_after applied.outcome old.mapping applied.event.entity old.by_two → old.by_two ≡ all_by old.mapping old.replay.played.records → new.by_two ≡ all_by new.mapping new.replay.played.records
applied_by_one known folder old new applied a same by_two one =
    let are : AreHolders old.by_two old.replay.played.records = subst (λ xs. AreHolders xs old.replay.played.records) (sym one) (all_are_holders old.mapping old.replay.played.records) in
    by_two ∙ applied_by_play known folder old new applied a are
    ∙ ap (by_two_after_event old.mapping (λ _ _. a.reply) applied.event (record_of old.replay.played.records applied.event.entity)) one
    ∙ by_two-event old.mapping (λ _ _. a.reply) old.replay.played applied.event
    ∙ ap (λ (w : ReplayState). all_by old.mapping w.played.records) (sym a.new_is) ∙ ap (λ v. all_by v new.replay.played.records) (sym same)

-- where nothing was played, nobody is named
pub none_named : (by_two : List EntityId) → AreHolders by_two nothing_played.records → by_two ≡ []
none_named [] are = refl
none_named (x ∷ xs) are =
    let held : is_holder nothing_played.records x ≡ true = are.holding x (has_itself entity_cmp_total x xs) in
    absurd (true≢false (sym held ∙ ap (λ (r : Record Bytes). is_some r.held) (record_of-empty x)))
