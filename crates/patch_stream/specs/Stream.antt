-- The steps of a replay, and the records of what they change of the stored triples.
use Rattle.std.specs.Prelude.{◌≡◌, ℕ, ◌+◌, ◌≤◌, Bool, true, false, cond, List, [], ◌∷◌, ◌++◌, Option, Result, IfOk, MatchResult, filter, flat_map, length}
use Rattle.std.specs.List.{list_any}
use Rattle.wq_io.specs.Streams.{after_known}
use Rattle.sorted_sets.specs.Rising.{difference, sorted}
use Rattle.rdf_term.specs.{declared.triple.Triple.Triple, Order.triple_cmp, Text.triple_text}
use Rattle.entity_model.specs.{declared.id.EntityId.EntityId, declared.event.Event.Event, declared.mapping.MappingVersion.MappingVersion}
use Rattle.delivery.specs.{declared.Delivery.Delivery, declared.Delivery.TheVariants.Watermark, declared.Delivery.TheVariants.Mapping}
use Rattle.replay_model.specs.Acceptance.{Arrival, arrivals, version_in_force}
use Rattle.replay_model.specs.{Play.Played, Play.Replies, Play.apply, Play.newly_due, Play.play, Records.Records}
use Rattle.replay_model.specs.{ReplayState.ReplayState, ReplayState.due_now, Union.union}
use Rattle.replay_model.specs.Versions.{all_by, meaning_by, with_version}
use Rattle.triple_store.specs.{declared.telling.Change.Change, Telling.is_changed}
use Rattle.fetched_pages.specs.Meaning.{meaning}
use Rattle.holders.specs.Holding.{stale_by}
use Rattle.text_output.specs.{declared.write.Unwritten.Unwritten, Printing.IsCutShort, Printing.Output}
use Rattle.replica.specs.{declared.record.PatchRecord.PatchRecord, Head.head_line, Record.record_text}

-- ---- steps

-- one step of a replay: what is stored before it and after it
pub record Step : Type 0 where
  pub before : List Triple
  pub after : List Triple

abbrev pub step : List Triple → List Triple → Step
step before after = record { before = before; after = after }

-- an application of each of these events, one after the other, while all that is held is mapped by this version
abbrev pub steps_applied : MappingVersion → Replies → Played → List Event → List Step
steps_applied version replies p [] = []
steps_applied version replies p (e ∷ es) =
    step (union triple_cmp (meaning version) p.records) (union triple_cmp (meaning version) (apply replies p e).records) ∷ steps_applied version replies (apply replies p e) es

-- the applications of all due events
abbrev pub steps_due : MappingVersion → Replies → ReplayState → List Step
steps_due version replies w = steps_applied version replies w.played (due_now w.buffer)

-- the pages of these entities are remapped by this version, one after the other; the other list names those that are by version Two
abbrev pub steps_remapped : MappingVersion → Records → List EntityId → List EntityId → List Step
steps_remapped version records by_two [] = []
steps_remapped version records by_two (x ∷ xs) =
    step (union triple_cmp (meaning_by meaning by_two) records) (union triple_cmp (meaning_by meaning (with_version version x by_two)) records)
    ∷ steps_remapped version records (with_version version x by_two) xs

-- all pages that aren't mapped by this version, the least entity first
abbrev pub steps_anew : MappingVersion → Records → List EntityId → List Step
steps_anew version records by_two = steps_remapped version records by_two (stale_by version by_two records)

-- the steps that a delivery makes: a watermark applies what is due now, by the version in force before it, and a line that brings a
-- version maps by it all that is held, which is mapped by the version in force before
abbrev pub steps_at : Option ℕ → Replies → Arrival → List Step
steps_at h replies a = by a.delivery
  where
    by : Delivery → List Step
    by (Watermark w) = steps_applied (version_in_force a.before) replies (play h replies a.before) (newly_due h a.before false (a.before ++ a.delivery ∷ []))
    by (Mapping v) = steps_anew v (play h replies a.before).records (all_by (version_in_force a.before) (play h replies a.before).records)
    by _ = []

-- the steps of the replay, in their order
abbrev pub steps_of_play : Option ℕ → Replies → List Delivery → List Step
steps_of_play h replies ds = flat_map (steps_at h replies) (arrivals ds)

-- the steps of the replay and of the end of the input, which applies all that waits
abbrev pub steps_to_end : Option ℕ → Replies → List Delivery → List Step
steps_to_end h replies ds = steps_of_play h replies ds ++ steps_applied (version_in_force ds) replies (play h replies ds) (newly_due h ds true ds)

-- ---- their records

-- the record of a step: what is stored after it and wasn't before, and what was stored before it and isn't after
abbrev pub record_of_step : ℕ → Step → PatchRecord
record_of_step number s = record { number = number; adds = difference triple_cmp s.after s.before; removes = difference triple_cmp s.before s.after }

-- whether what is stored differs
abbrev pub is_change : Step → Bool
is_change s = is_changed s.before s.after

-- whether it differs at one of these steps
abbrev pub has_change : List Step → Bool
has_change steps = list_any is_change steps

-- the records of steps, numbered from this number on
abbrev pub numbered_from : ℕ → List Step → List PatchRecord
numbered_from number [] = []
numbered_from number (s ∷ steps) = record_of_step number s ∷ numbered_from (number + 1) steps

-- how many of the steps change what is stored
abbrev pub changes : List Step → ℕ
changes steps = length (filter is_change steps)

-- the stream of steps: the k-th of them that changes what is stored gives the record with number k
abbrev pub stream : List Step → List PatchRecord
stream steps = numbered_from 1 (filter is_change steps)

-- the texts of its records, one after the other
abbrev pub stream_text : List Step → List ℕ
stream_text steps = flat_map record_text (stream steps)

-- the text that a step adds, where so many records were told before
abbrev pub step_text : ℕ → Step → List ℕ
step_text told s = cond (is_change s) (record_text (record_of_step (told + 1) s)) []

-- how many records were told then
abbrev pub told_after : ℕ → Step → ℕ
told_after told s = cond (is_change s) (told + 1) told

-- the record of a step is told, if it changes what is stored, and how many records were told then is answered, while nothing waits to be
-- handed on, if nothing waited before; or a prefix of the record was written, and nothing else
pub record TellsStep (told : ℕ) (s : Step) (old new : Output) (result : Result ℕ Unwritten) : Type 0 where
  pub later : old.faults ≤ new.faults
  pub most : new.most_faults ≡ old.most_faults
  pub outcome : MatchResult result (λ now. (now ≡ told_after told s) × (new.bytes ≡ after_known old.bytes (step_text told s)))
      (λ why. (is_change s ≡ true) × IsCutShort why (record_text (record_of_step (told + 1) s)) old new)
  pub handed : old.waits ≡ false → IfOk result (λ _. new.waits ≡ false)

-- the text of the record with this number that tells a change
abbrev pub change_text : ℕ → Change → List ℕ
change_text number change = (head_line (record { number = number; adds = change.came.count; removes = change.gone.count }) ++ 10 ∷ []) ++ (change.came.text.items ++ change.gone.text.items)

-- the lines of the triples of both lists, in order, each once
abbrev pub merged_text : List Triple → List Triple → List ℕ
merged_text some others = flat_map triple_text (sorted triple_cmp (some ++ others))
