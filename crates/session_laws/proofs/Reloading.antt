-- What a run saved is no snapshot that a later run refuses.
use Rattle.std.proofs.Common.{◌≡◌, refl, ◌⊎◌, inr, ⊎_elim, sym, subst, ◌∙◌, ap, ℕ, ◌<◌, ◌≤◌, false, List, [], ◌++◌, length, Option, None, Some, IfSome, IsSome, MatchOption, arith}
use Rattle.delivery.specs.declared.Delivery.{Delivery}
use Rattle.replay_model.specs.{Play.Replies, ReplayState.ReplayState, ReplayState.following, Versions.all_by, Versions.meaning_by}
use Rattle.snapshot.specs.{File.IsFitSaved, File.file_text, File.saved_in_bytes, Waiting.IsAtRest, Whole.Saved}
use Rattle.fetched_pages.specs.Meaning.{meaning}
use Rattle.holders.specs.Roomed.{room_with}
use Rattle.world.specs.{Limit.Limit, Limit.stored_by, Limit.whole, WorldState.WorldState}
use Rattle.checkpoint.specs.declared.fault.LoadFault.{LoadFault}
use Rattle.checkpoint.specs.declared.fault.LoadFault.TheVariants.{ReadFault as NotRead, TooLong as OverLength, BadLine, Full, OutOfMemory as LoadOutOfMemory}
use Rattle.checkpoint.specs.{Causes.IsFileOverfull, Causes.IsNoSnapshot, Causes.IsNoSnapshotWithin, Causes.longest_file, Loading.IsLoadable}
use Rattle.checkpoint.specs.Saved.{AreWithin, saved_of}
use Rattle.arguments.specs.Options.{closes, max_terms_of}
use Rattle.run_model.specs.declared.status.Status.{Status}
use Rattle.run_model.specs.declared.status.Status.TheVariants.{Ok as Ended, BadWords, BadLine as LineRefused, ReadFault as ReadFailed, WriteFault as WriteFailed, TooLong as LimitPassed, StoreFull as RoomPassed, OutOfMemory as StatusOutOfMemory, BadSnapshot as SnapshotRefused}
use Rattle.run_model.specs.declared.stop.Stop.{Stop}
use Rattle.run_model.specs.declared.stop.Stop.TheVariants.{BadSnapshot, OutOfMemory, StoreFull}
use Rattle.run_model.specs.Headline.{Ending, Stopped, numbers_saved}
use Rattle.run_model.specs.Moment.{Moment, Run, Stage, behind, limit_of, start_of, HasSaved, kept_last, saved_at}
use Rattle.run_model.specs.OneRun.{StandsAfter, deliveries_of, replies_with}
use Rattle.run_model.specs.Resuming.{AllowsHorizon, IsNotResumed, IsRefusedFor, IsResumed, ResumeEnding, with_loaded}
use Rattle.run_model.specs.Stop.{stop_of, stop_of_load}
use Rattle.session_laws.specs.Complete.{IsStill}
use Rattle.run_model.proofs.Saves.{last_kept}
use Rattle.session_laws.proofs.{Complete.not_risen, OneRun.holds_are, OneRun.next_stands}

-- the world that a stage is, with this limit
abbrev pub world_in : Limit → Stage → WorldState
world_in limit now = record { replay = now.world; limit = limit; mapping = now.mapped.version; by_two = all_by now.mapped.version now.world.played.records }

-- an ending with a stop is one that stopped
if_stopped : (Done : Type 0) (P : Stop → Type 0) (stop : Option Stop) → MatchOption stop Done P → IfSome stop P
if_stopped Done P None ended = tt
if_stopped Done P (Some s) ended = ended

pub stopped_of : (status : Status) (run : Run) (before now : Moment) → MatchOption (stop_of status) (Ending run before now) (λ stop. Stopped stop run before now) → IfSome (stop_of status) (λ stop. Stopped stop run before now)
stopped_of status run before now ended = if_stopped (Ending run before now) (λ stop. Stopped stop run before now) (stop_of status) ended

-- the status of a run that stopped with OutOfMemory
of_memory : (status : Status) → stop_of status ≡ Some OutOfMemory → status ≡ StatusOutOfMemory
of_memory Ended is = cc
of_memory BadWords is = cc
of_memory (LineRefused number cause) is = cc
of_memory ReadFailed is = cc
of_memory WriteFailed is = cc
of_memory LimitPassed is = cc
of_memory RoomPassed is = cc
of_memory StatusOutOfMemory is = refl
of_memory (SnapshotRefused number) is = cc

module _ (h : Option ℕ) (earlier : Replies) (ds : List Delivery) (run : Run) (before now : Moment) (stands : StandsAfter h earlier ds (start_of run before)) (ending : Ending run before now) (open_still : closes run.choices ≡ false)
    (at_rest : (replies : Replies) (all : List Delivery) → IsAtRest (following h replies all).buffer) where
  abbrev saved : Saved
  saved = saved_at now.stage (numbers_saved ending)

  -- where it stands
  world_is_next : now.stage.world ≡ following h (replies_with earlier ds ending) (ds ++ deliveries_of ending)
  world_is_next = (next_stands h earlier ds run before now stands ending open_still).world

  pub saved_rests : IsAtRest now.stage.world.buffer
  saved_rests = subst (λ (w : ReplayState). IsAtRest w.buffer) (sym world_is_next) (at_rest (replies_with earlier ds ending) (ds ++ deliveries_of ending))

  horizon_is : now.stage.world.buffer.horizon ≡ h
  horizon_is = ap (λ (w : ReplayState). w.buffer.horizon) world_is_next

  -- what was kept last
  pub saved_bytes : IsSome before.snapshot.kept → kept_last now.snapshot ≡ Some (file_text saved)
  saved_bytes told =
      last_kept run (start_of run before) _ before.snapshot.kept ending.on_the_way now.snapshot (file_text saved) told ending.kept
      (subst (λ closed. HasSaved closed (file_text saved) ending.on_the_way now.snapshot.kept) open_still ending.saved)

  pub loadable : (limit : Limit) → IsFitSaved saved → AreWithin (numbers_saved ending) → IsLoadable (world_in limit now.stage) (numbers_saved ending)
  loadable limit fit within = record {
    rests = saved_rests;
    fits = fit;
    by_one = refl;
    applied = ending.replayed.replay.played.applied;
    holds = (holds_are h earlier ds run before now stands ending).holds;
    documents = ending.replayed.replay.played.documents;
    within = within;
  }

  module _ (told : IsSome before.snapshot.kept) (fit : IsFitSaved saved) (within : AreWithin (numbers_saved ending)) (later : Run) (then_before then_now : Moment) (same : then_before.resumed.left ≡ (kept_last now.snapshot)) where
    left_is : then_before.resumed.left ≡ Some (file_text saved)
    left_is = same ∙ saved_bytes told

    -- what holds of the bytes that are read holds of those that were written
    at_bytes : (P : List ℕ → Type 0) → IfSome then_before.resumed.left P → P (file_text saved)
    at_bytes P here = subst (λ (o : Option (List ℕ)). IfSome o P) left_is here

    -- no line is refused
    pub none_refused : ((n : ℕ) → IsLoadable (world_in (whole 0) now.stage) (numbers_saved ending) → IsNoSnapshot (file_text saved) n → ⊥) → saved_in_bytes (file_text saved) ≡ Some saved → AllowsHorizon later.choices h → (status : Status) →
        ResumeEnding (stop_of status) later then_before then_now → (n : ℕ) → stop_of status ≡ Some (BadSnapshot n) → ⊥
    none_refused lines back allowed status ended n is = ⊎_elim refused resumed ended
      where
        of_fault : (fault : LoadFault) → Some (stop_of_load fault) ≡ Some (BadSnapshot n) → IsRefusedFor fault later.choices then_before.resumed.left then_before.resumed.faults then_now.resumed.faults → ⊥
        of_fault NotRead stop why = cc
        of_fault OverLength stop why = cc
        of_fault Full stop why = cc
        of_fault LoadOutOfMemory stop why = cc
        of_fault (BadLine m) stop why = ⊎_elim
            (λ bad. lines m (loadable (whole 0) fit within) (at_bytes (λ bytes. IsNoSnapshotWithin (limit_of later.choices) bytes m) bad).0)
            (λ other.
            let there : saved_in_bytes (file_text saved) ≡ Some (saved_of other.1.world other.1.numbers) = at_bytes (λ bytes. saved_in_bytes bytes ≡ Some (saved_of other.1.world other.1.numbers)) other.1.loaded.saved in
            let both : Some (saved_of other.1.world other.1.numbers) ≡ Some saved = sym there ∙ back in
            let it : saved_of other.1.world other.1.numbers ≡ saved = cc in
            other.1.differs (subst (AllowsHorizon later.choices) (sym (ap (λ (s : Saved). s.state.buffer.horizon) it ∙ horizon_is)) allowed))
            why

        refused : IsNotResumed (stop_of status) later then_before then_now → ⊥
        refused x = of_fault x.fault (sym x.is ∙ is) x.cause

        resumed : IsResumed (stop_of status) later then_before then_now → ⊥
        resumed x =
            let it : Run = behind x.numbers later in
            let from : Moment = with_loaded then_before x.rest x.world in
            subst (λ (stop : Option Stop). MatchOption stop (Ending it from then_now) (λ s. Stopped s it from then_now)) is x.ending.outcome

    -- and there is no room only where there is none for what is held
    pub full_for_itself : (IsLoadable (world_in (whole 0) now.stage) (numbers_saved ending) → IsFileOverfull (limit_of later.choices) (file_text saved) →
        max_terms_of later.choices < room_with (stored_by later.choices.lean (meaning_by meaning (all_by now.stage.mapped.version now.stage.world.played.records)) now.stage.world.played.records) now.stage.world.played.records []) →
        (status : Status) → IsNotResumed (stop_of status) later then_before then_now → stop_of status ≡ Some StoreFull →
        max_terms_of later.choices < room_with (stored_by later.choices.lean (meaning_by meaning (all_by now.stage.mapped.version now.stage.world.played.records)) now.stage.world.played.records) now.stage.world.played.records []
    full_for_itself room status x is = of_fault x.fault (sym x.is ∙ is) x.cause
      where
        of_fault : (fault : LoadFault) → Some (stop_of_load fault) ≡ Some StoreFull → IsRefusedFor fault later.choices then_before.resumed.left then_before.resumed.faults then_now.resumed.faults →
            max_terms_of later.choices < room_with (stored_by later.choices.lean (meaning_by meaning (all_by now.stage.mapped.version now.stage.world.played.records)) now.stage.world.played.records) now.stage.world.played.records []
        of_fault NotRead stop why = cc
        of_fault OverLength stop why = cc
        of_fault (BadLine m) stop why = cc
        of_fault LoadOutOfMemory stop why = cc
        of_fault Full stop why = ⊎_elim
            (λ over. room (loadable (whole 0) fit within) (at_bytes (IsFileOverfull (limit_of later.choices)) over))
            (λ other. let never : Full ≡ BadLine 1 = other.0 in cc)
            why

    -- where none is refused, and there is room, the snapshot is loaded unless memory is refused
    pub goes_on : IfSome (kept_last now.snapshot) (λ text. length text ≤ longest_file) → IsStill then_before.resumed.faults then_now.resumed.faults → (status : Status) →
        ((n : ℕ) → stop_of status ≡ Some (BadSnapshot n) → ⊥) → (IsNotResumed (stop_of status) later then_before then_now → stop_of status ≡ Some StoreFull → ⊥) →
        (IsResumed (stop_of status) later then_before then_now → (status ≡ Ended) ⊎ (status ≡ StatusOutOfMemory)) → ResumeEnding (stop_of status) later then_before then_now → (status ≡ Ended) ⊎ (status ≡ StatusOutOfMemory)
    goes_on short still status lines room resumed ended = ⊎_elim (λ x. of_fault x x.fault x.is x.cause) resumed ended
      where
        within_length : length (file_text saved) ≤ longest_file
        within_length = subst (λ (o : Option (List ℕ)). IfSome o (λ text. length text ≤ longest_file)) (saved_bytes told) short

        of_fault : IsNotResumed (stop_of status) later then_before then_now → (fault : LoadFault) → stop_of status ≡ Some (stop_of_load fault) →
            IsRefusedFor fault later.choices then_before.resumed.left then_before.resumed.faults then_now.resumed.faults → (status ≡ Ended) ⊎ (status ≡ StatusOutOfMemory)
        of_fault x NotRead stop why = ⊎_elim (λ rose. not_risen then_before.resumed.faults then_now.resumed.faults still rose) (λ other. let never : NotRead ≡ BadLine 1 = other.0 in cc) why
        of_fault x OverLength stop why = ⊎_elim
            (λ long. let past : longest_file < length (file_text saved) = at_bytes (λ text. longest_file < length text) long in absurd (omega (arith, past, within_length)))
            (λ other. let never : OverLength ≡ BadLine 1 = other.0 in cc)
            why
        of_fault x (BadLine n) stop why = absurd (lines n stop)
        of_fault x Full stop why = absurd (room x stop)
        of_fault x LoadOutOfMemory stop why = inr (of_memory status stop)
