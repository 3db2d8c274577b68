-- How many steps a play has.
use Rattle.std.proofs.Common.{◌≡◌, refl, sym, ◌∙◌, ap, ℕ, suc, ◌+◌, ◌*◌, ◌<◌, ◌≤◌, ◌^◌, Bool, true, false, cond, List, [], ◌∷◌, ◌++◌, length, filter, filter_map, fold, Option, None, Some, length-append, arith}
use Rattle.std.specs.FinMap as finite
use Rattle.std.specs.List.{cons_option}
use Rattle.std.proofs.{Math.Nat.mul-suc, Math.Nat.suc-mul, lemmas.List.length-map, lemmas.Nat.column_fits}
use Rattle.sorted_sets.specs.Rising.{In}
use Rattle.sorted_sets.proofs.Pushes.{by_pushes}
use Rattle.triple_store.proofs.Stocked.{length-sorted}
use Rattle.delivery.specs.declared.Delivery.{Delivery}
use Rattle.delivery.specs.declared.Delivery.TheVariants.{Event as Told, Watermark, Ask, Mapping, Match}
use Rattle.entity_model.specs.{declared.id.EntityId.EntityId, declared.event.Event.Event, declared.mapping.MappingVersion.MappingVersion}
use Rattle.entity_model.specs.{EntityId.entity_cmp_total, Event.event_cmp}
use Rattle.replay_model.specs.Acceptance.{accepted, arrivals, arrivals_after, due, event_passing, is_accepted, version_in_force}
use Rattle.replay_model.specs.Fate.{in_order}
use Rattle.replay_model.specs.Play.{Played, Replies, apply, newly_due, nothing_played, play, records_after}
use Rattle.replay_model.specs.Records.{Records}
use Rattle.replay_model.specs.Versions.{all_by, holders, is_holder, version_at, with_version}
use Rattle.replay_model.proofs.{Deliveries.due-kept, Deliveries.due-told, DueParts.due-end, DueParts.due-watermark}
use Rattle.replay_model.proofs.PlayedRecords.{records-played, records_of}
use Rattle.holders.specs.Holding.{differ, stale_by}
use Rattle.replica.specs.declared.record.PatchRecord.{PatchRecord}
use Rattle.patch_stream.specs.Stream.{Step, is_change, steps_anew, steps_applied, steps_of_play, steps_remapped, steps_to_end, stream}
use Rattle.patch_stream.proofs.Streams.{steps-push}
use Rattle.written_laws.proofs.Streamed.{are_few}

-- ---- lists

pub filter_few : {A : Type 0} (p : A → Bool) (xs : List A) → length (filter p xs) ≤ length xs
filter_few p [] = omega arith
filter_few p (x ∷ xs) = by (p x) (filter_few p xs)
  where
    by : (b : Bool) → length (filter p xs) ≤ length xs → length (cond b (x ∷ filter p xs) (filter p xs)) ≤ length (x ∷ xs)
    by true few = omega (arith, few)
    by false few = omega (arith, few)

mapped_few : {A B : Type 0} (f : A → Option B) (xs : List A) → length (filter_map f xs) ≤ length xs
mapped_few f [] = omega arith
mapped_few {B = B} f (x ∷ xs) = by (f x) (mapped_few f xs)
  where
    by : (o : Option B) → length (filter_map f xs) ≤ length xs → length (cons_option o (filter_map f xs)) ≤ length (x ∷ xs)
    by (Some y) few = omega (arith, few)
    by None few = omega (arith, few)

arrivals_many : (before ds : List Delivery) → length (arrivals_after before ds) ≡ length ds
arrivals_many before [] = refl
arrivals_many before (d ∷ ds) = ap suc (arrivals_many (before ++ d ∷ []) ds)

-- ---- events that are due

pub due_few : (hz : Option ℕ) (closed : Bool) (ds : List Delivery) → length (in_order (due hz closed ds)) ≤ length ds
due_few hz closed ds =
    let few : length (due hz closed ds) ≤ length (accepted hz ds) = filter_few _ (accepted hz ds) in
    omega (
      arith,
      length-sorted event_cmp (due hz closed ds),
      few,
      mapped_few (event_passing (is_accepted hz)) (arrivals ds),
      arrivals_many [] ds,
    )

-- ---- records

-- an application adds one record at most
pub one_more : (replies : Replies) (records : Records) (e : Event) → finite.len (records_after replies records e) ≤ finite.len records + 1
one_more replies records e = by (finite.contains_key records e.entity) (finite.len-insert entity_cmp_total records e.entity _)
  where
    by : (b : Bool) → finite.len (records_after replies records e) ≡ cond b (finite.len records) (finite.len records + 1) → finite.len (records_after replies records e) ≤ finite.len records + 1
    by true is = omega (arith, is)
    by false is = omega (arith, is)

fold_few : (replies : Replies) (records : Records) (es : List Event) → finite.len (fold (records_after replies) records es) ≤ finite.len records + length es
fold_few replies records [] = omega arith
fold_few replies records (e ∷ es) = omega (arith, one_more replies records e, fold_few replies (records_after replies records e) es)

pub records_few : (hz : Option ℕ) (replies : Replies) (ds : List Delivery) → finite.len (play hz replies ds).records ≤ length (in_order (due hz false ds))
records_few hz replies ds =
    let few = fold_few replies nothing_played.records (in_order (due hz false ds)) in
    let none : finite.len nothing_played.records ≡ 0 = finite.len-empty _ _ in
    let same : finite.len (play hz replies ds).records ≡ finite.len (records_of replies (in_order (due hz false ds))) = ap (λ (r : Records). finite.len r) (records-played hz false replies ds) in
    omega (arith, few, same, none)

-- ---- steps

applied_many : (version : MappingVersion) (replies : Replies) (p : Played) (es : List Event) → length (steps_applied version replies p es) ≡ length es
applied_many version replies p [] = refl
applied_many version replies p (e ∷ es) = ap suc (applied_many version replies (apply replies p e) es)

remapped_many : (version : MappingVersion) (records : Records) (by_two xs : List EntityId) → length (steps_remapped version records by_two xs) ≡ length xs
remapped_many version records by_two [] = refl
remapped_many version records by_two (x ∷ xs) = ap suc (remapped_many version records (with_version version x by_two) xs)

keys_many : (records : Records) → length (finite.keys records) ≡ finite.len records
keys_many records = length-map (finite.entries records) (λ entry. entry.0) ∙ sym (finite.len-entries records)

anew_few : (version : MappingVersion) (records : Records) (by_two : List EntityId) → length (steps_anew version records by_two) ≤ finite.len records
anew_few version records by_two =
    omega (
      arith,
      remapped_many version records by_two (stale_by version by_two records),
      filter_few (λ x. differ version (version_at by_two x)) (holders records),
      filter_few (is_holder records) (finite.keys records),
      keys_many records,
    )

-- the numbers of the records of few steps fit
pub numbers_of : (steps : List Step) (item : PatchRecord) → length steps < 2 ^ 64 → In item (stream steps) → item.number < 2 ^ 64
numbers_of steps item few there =
    let within = are_few 0 (filter is_change steps) item there in
    let all = filter_few is_change steps in
    omega (arith, within, all, few)

module _ (hz : Option ℕ) (replies : Replies) where
  -- so many deliveries make so many steps at most
  abbrev AreFewSteps : List Delivery → Type 0
  AreFewSteps ds = length (steps_of_play hz replies ds) ≤ length (in_order (due hz false ds)) + length ds * length ds

  squared : (n : ℕ) → (n + 1) * (n + 1) ≡ n * n + n + n + 1
  squared n = omega (arith, mul-suc (n + 1) n, suc-mul n n)

  few_more : (ds : List Delivery) (d : Delivery) → AreFewSteps ds → AreFewSteps (ds ++ d ∷ [])
  few_more ds (Told e) few =
      let same : in_order (due hz false (ds ++ Told e ∷ [])) ≡ in_order (due hz false ds) = ap in_order (due-told hz ds e) in
      omega (arith, few, ap length (steps-push hz replies ds (Told e)), length-append (steps_of_play hz replies ds) [], ap length same, length-append ds (Told e ∷ []), squared (length ds), ap (λ n. n * n) (length-append ds (Told e ∷ [])))
  few_more ds (Watermark w) few =
      let es : List Event = newly_due hz ds false (ds ++ Watermark w ∷ []) in
      omega (
        arith,
        few,
        ap length (steps-push hz replies ds (Watermark w)),
        length-append (steps_of_play hz replies ds) (steps_applied (version_in_force ds) replies (play hz replies ds) es),
        applied_many (version_in_force ds) replies (play hz replies ds) es,
        ap length (due-watermark hz ds w),
        length-append (in_order (due hz false ds)) es,
        length-append ds (Watermark w ∷ []),
        squared (length ds),
        ap (λ n. n * n) (length-append ds (Watermark w ∷ [])),
      )
  few_more ds (Ask q) few =
      let same : in_order (due hz false (ds ++ Ask q ∷ [])) ≡ in_order (due hz false ds) = ap in_order (due-kept hz false ds (Ask q) refl refl) in
      omega (arith, few, ap length (steps-push hz replies ds (Ask q)), length-append (steps_of_play hz replies ds) [], ap length same, length-append ds (Ask q ∷ []), squared (length ds), ap (λ n. n * n) (length-append ds (Ask q ∷ [])))
  few_more ds (Match q) few =
      let same : in_order (due hz false (ds ++ Match q ∷ [])) ≡ in_order (due hz false ds) = ap in_order (due-kept hz false ds (Match q) refl refl) in
      omega (arith, few, ap length (steps-push hz replies ds (Match q)), length-append (steps_of_play hz replies ds) [], ap length same, length-append ds (Match q ∷ []), squared (length ds), ap (λ n. n * n) (length-append ds (Match q ∷ [])))
  few_more ds (Mapping v) few =
      let records : Records = (play hz replies ds).records in
      let by_two : List EntityId = all_by (version_in_force ds) records in
      let same : in_order (due hz false (ds ++ Mapping v ∷ [])) ≡ in_order (due hz false ds) = ap in_order (due-kept hz false ds (Mapping v) refl refl) in
      omega (
        arith,
        few,
        ap length (steps-push hz replies ds (Mapping v)),
        length-append (steps_of_play hz replies ds) (steps_anew v records by_two),
        anew_few v records by_two,
        records_few hz replies ds,
        due_few hz false ds,
        ap length same,
        length-append ds (Mapping v ∷ []),
        squared (length ds),
        ap (λ n. n * n) (length-append ds (Mapping v ∷ [])),
      )

  few_steps : (ds : List Delivery) → AreFewSteps ds
  few_steps = by_pushes AreFewSteps (omega arith) few_more

  pub steps_few : (ds : List Delivery) → length (steps_to_end hz replies ds) ≤ length ds * length ds + length ds
  steps_few ds =
      let es : List Event = newly_due hz ds true ds in
      omega (
        arith,
        few_steps ds,
        length-append (steps_of_play hz replies ds) (steps_applied (version_in_force ds) replies (play hz replies ds) es),
        applied_many (version_in_force ds) replies (play hz replies ds) es,
        ap length (due-end hz ds),
        length-append (in_order (due hz false ds)) es,
        due_few hz true ds,
      )

  -- where there are fewer deliveries than numbers of 32 bits, there are fewer steps than numbers of 64 bits
  pub few_enough : (ds : List Delivery) → length ds < 2 ^ 32 → length (steps_to_end hz replies ds) < 2 ^ 64
  few_enough ds small =
      let within = column_fits (length ds) (length ds) 4294967295 4294967296 small (omega (arith, small)) in
      omega (arith, steps_few ds, within)

  -- nor are there more before the end
  pub few_so_far : (ds : List Delivery) → length ds < 2 ^ 32 → length (steps_of_play hz replies ds) < 2 ^ 64
  few_so_far ds small =
      let es : List Event = newly_due hz ds true ds in
      omega (arith, few_enough ds small, length-append (steps_of_play hz replies ds) (steps_applied (version_in_force ds) replies (play hz replies ds) es))

  -- and the number of each record fits
  pub numbers_fit : (ds : List Delivery) (item : PatchRecord) → length ds < 2 ^ 32 → In item (stream (steps_to_end hz replies ds)) → item.number < 2 ^ 64
  numbers_fit ds item small there = numbers_of (steps_to_end hz replies ds) item (few_enough ds small) there
