-- Each step of a play begins where the one before it ended.
use Rattle.std.proofs.Common.{◌≡◌, refl, sym, subst, ◌∙◌, ap, ℕ, Bool, true, false, cond, List, [], ◌∷◌, ◌++◌, filter, length, flat_map, fold, Option, None, Some, arith, true≢false}
use Rattle.std.specs.FinMap as map
use Rattle.std.specs.List.{AllByRecursion}
use Rattle.sorted_sets.specs.Rising.{IsRising, has, sorted}
use Rattle.sorted_sets.proofs.{Pushes.by_pushes, Rising.IsRising-sorted}
use Rattle.rdf_term.specs.{declared.triple.Triple.Triple, Fit.HasFitAndShortTerms, Order.triple_cmp, Order.triple_cmp-total}
use Rattle.delivery.specs.declared.Delivery.{Delivery}
use Rattle.delivery.specs.declared.Delivery.TheVariants.{Event as Told, Watermark, Ask, Mapping, Match}
use Rattle.entity_model.specs.{declared.id.EntityId.EntityId, declared.event.Event.Event, declared.mapping.MappingVersion.MappingVersion}
use Rattle.entity_model.specs.declared.mapping.MappingVersion.TheVariants.{One, Two}
use Rattle.entity_model.specs.EntityId.{entity_cmp}
use Rattle.entity_state.specs.declared.record.Held.{Held}
use Rattle.rdf_vocabulary.proofs.Shared.{flat_map_all}
use Rattle.munger.proofs.Fit.{sorted_each}
use Rattle.meaning_texts.specs.Terms.{HasUtf8Terms}
use Rattle.meaning_texts.proofs.Meanings.{meaning_utf8}
use Rattle.replay_model.specs.Acceptance.{version_in_force}
use Rattle.replay_model.specs.Play.{Played, Replies, apply, apply_all, newly_due, nothing_played, play, play_to_end}
use Rattle.replay_model.specs.{Records.Bytes, Records.Records, Union.Meaning, Union.triples_at, Union.triples_held, Union.union}
use Rattle.replay_model.specs.Versions.{all_by, is_holder, meaning_by, version_at, with_version}
use Rattle.replay_model.proofs.{Arrivals.play-push, InForce.version-kept, InForce.version-mapping}
use Rattle.replay_model.proofs.PlayedVersions.{by_two-remapped}
use Rattle.replay_model.proofs.Versions.{has-holders, holders-rise, union-all, version-all}
use Rattle.fetched_pages.specs.Meaning.{meaning}
use Rattle.holders.specs.Holding.{differ, stale_by}
use Rattle.world.proofs.Fit.{union_fit}
use Rattle.written_laws.specs.Laws.{BeginsAt, IsChain}
use Rattle.patch_stream.specs.Stream.{Step, step, steps_anew, steps_applied, steps_at, steps_of_play, steps_remapped, steps_to_end}
use Rattle.patch_stream.proofs.Streams.{steps-push}

-- ---- chains

chain-append : (a b c : List Triple) (xs ys : List Step) → IsChain a xs b → IsChain b ys c → IsChain a (xs ++ ys) c
chain-append a b c [] ys first second = subst (λ t. IsChain t ys c) (sym first) second
chain-append a b c (x ∷ xs) ys first second = (first.0, chain-append x.after b c xs ys first.1 second)

-- what each entity's document means by the version that is chosen for it
abbrev pub meant : (EntityId → MappingVersion) → Meaning Triple
meant version x rev bytes = meaning (version x) x rev bytes

-- the triples of all that is held are a set
union_rises : (m : Meaning Triple) (records : Records) → IsRising triple_cmp (union triple_cmp m records)
union_rises m records = IsRising-sorted triple_cmp-total (flat_map (triples_at m) (map.entries records))

-- their terms are UTF-8
utf8_by : (m : Meaning Triple) → ((x : EntityId) (rev : ℕ) (bytes : Bytes) → AllByRecursion HasUtf8Terms (m x rev bytes)) → (records : Records) → AllByRecursion HasUtf8Terms (union triple_cmp m records)
utf8_by m each records = sorted_each HasUtf8Terms triple_cmp (flat_map (triples_at m) (map.entries records)) (flat_map_all HasUtf8Terms (triples_at m) (map.entries records) (λ entry. of_held entry.0 entry.1.held))
  where
    of_held : (x : EntityId) (held : Option (Held Bytes)) → AllByRecursion HasUtf8Terms (triples_held m x held)
    of_held x None = tt
    of_held x (Some h) = each x h.revision h.content

-- and fit and short
fit_by : (version : MappingVersion) (records : Records) → AllByRecursion HasFitAndShortTerms (union triple_cmp (meaning version) records)
fit_by version records = subst (AllByRecursion HasFitAndShortTerms) (union-all meaning version records triple_cmp) (union_fit (all_by version records) records)

-- a step from what some entities' documents mean by two choices of versions
between : (old new : EntityId → MappingVersion) (records others : Records) → AllByRecursion HasFitAndShortTerms (union triple_cmp (meant old) records) → AllByRecursion HasFitAndShortTerms (union triple_cmp (meant new) others) →
    BeginsAt (union triple_cmp (meant old) records) (step (union triple_cmp (meant old) records) (union triple_cmp (meant new) others))
between old new records others fit fit_after = record {
  begins = refl;
  rises = union_rises (meant old) records;
  rises_after = union_rises (meant new) others;
  fit = fit;
  fit_after = fit_after;
  utf8 = utf8_by (meant old) (λ x. meaning_utf8 (old x) x) records;
  utf8_after = utf8_by (meant new) (λ x. meaning_utf8 (new x) x) others;
}

-- ---- applications

chain_applied : (version : MappingVersion) (replies : Replies) (p : Played) (es : List Event) →
    IsChain (union triple_cmp (meaning version) p.records) (steps_applied version replies p es) (union triple_cmp (meaning version) (apply_all replies p es).records)
chain_applied version replies p [] = refl
chain_applied version replies p (e ∷ es) = (between (λ x. version) (λ x. version) p.records (apply replies p e).records (fit_by version p.records) (fit_by version (apply replies p e).records), chain_applied version replies (apply replies p e) es)

-- ---- remappings

-- the entities that hold by version Two once these were remapped
abbrev by_two_then : MappingVersion → List EntityId → List EntityId → List EntityId
by_two_then version by_two xs = fold (λ others x. with_version version x others) by_two xs

chain_remapped : (version : MappingVersion) (records : Records) (by_two xs : List EntityId) →
    IsChain (union triple_cmp (meaning_by meaning by_two) records) (steps_remapped version records by_two xs) (union triple_cmp (meaning_by meaning (by_two_then version by_two xs)) records)
chain_remapped version records by_two [] = refl
chain_remapped version records by_two (x ∷ xs) =
    (between (version_at by_two) (version_at (with_version version x by_two)) records records (union_fit by_two records) (union_fit (with_version version x by_two) records), chain_remapped version records (with_version version x by_two) xs)

-- of those that pass one test all pass another, or none does
all_pass : {A : Type 0} (p q : A → Bool) (xs : List A) → ((x : A) → q x ≡ true → p x ≡ true) → filter p (filter q xs) ≡ filter q xs
all_pass p q [] pass = refl
all_pass {A} p q (x ∷ xs) pass = by (q x) refl (all_pass p q xs pass)
  where
    by : (b : Bool) → q x ≡ b → filter p (filter q xs) ≡ filter q xs → filter p (cond b (x ∷ filter q xs) (filter q xs)) ≡ cond b (x ∷ filter q xs) (filter q xs)
    by true is later = ap (λ c. cond c (x ∷ filter p (filter q xs)) (filter p (filter q xs))) (pass x is) ∙ ap (λ l. x ∷ l) later
    by false is later = later

none_passes : {A : Type 0} (p q : A → Bool) (xs : List A) → ((x : A) → q x ≡ true → p x ≡ false) → filter p (filter q xs) ≡ []
none_passes p q [] fails = refl
none_passes {A} p q (x ∷ xs) fails = by (q x) refl (none_passes p q xs fails)
  where
    by : (b : Bool) → q x ≡ b → filter p (filter q xs) ≡ [] → filter p (cond b (x ∷ filter q xs) (filter q xs)) ≡ []
    by true is later = ap (λ c. cond c (x ∷ filter p (filter q xs)) (filter p (filter q xs))) (fails x is) ∙ later
    by false is later = later

same_version : (new old : MappingVersion) → differ new old ≡ false → new ≡ old
same_version One One is = refl
same_version One Two is = absurd (true≢false is)
same_version Two One is = absurd (true≢false is)
same_version Two Two is = refl

all_rise : (version : MappingVersion) (records : Records) → IsRising entity_cmp (all_by version records)
all_rise One records = tt
all_rise Two records = holders-rise records

all_hold : (version : MappingVersion) (records : Records) (x : EntityId) → has entity_cmp x (all_by version records) ≡ true → is_holder records x ≡ true
all_hold One records x there = absurd (true≢false (sym there))
all_hold Two records x there = sym (has-holders records x) ∙ there

-- where all that is held is mapped by one version, all of it is mapped by another once what isn't was
all_remapped : (new old : MappingVersion) (records : Records) → by_two_then new (all_by old records) (stale_by new (all_by old records) records) ≡ all_by new records
all_remapped new old records = by (differ new old) refl
  where
    stale_as : (b : Bool) → differ new old ≡ b → (x : EntityId) → is_holder records x ≡ true → differ new (version_at (all_by old records) x) ≡ b
    stale_as b is x holds = ap (differ new) (version-all old records x holds) ∙ is

    by : (b : Bool) → differ new old ≡ b → by_two_then new (all_by old records) (stale_by new (all_by old records) records) ≡ all_by new records
    by true is =
        ap (by_two_then new (all_by old records)) (all_pass (λ x. differ new (version_at (all_by old records) x)) (is_holder records) (map.keys records) (stale_as true is))
        ∙ by_two-remapped new records (all_by old records) (all_rise old records) (all_hold old records)
    by false is =
        ap (by_two_then new (all_by old records)) (none_passes (λ x. differ new (version_at (all_by old records) x)) (is_holder records) (map.keys records) (stale_as false is))
        ∙ ap (λ v. all_by v records) (sym (same_version new old is))

chain_anew : (new old : MappingVersion) (records : Records) →
    IsChain (union triple_cmp (meaning old) records) (steps_anew new records (all_by old records)) (union triple_cmp (meaning new) records)
chain_anew new old records =
    let xs : List EntityId = stale_by new (all_by old records) records in
    let ends : union triple_cmp (meaning_by meaning (by_two_then new (all_by old records) xs)) records ≡ union triple_cmp (meaning new) records =
    ap (λ l. union triple_cmp (meaning_by meaning l) records) (all_remapped new old records) ∙ union-all meaning new records triple_cmp in
    subst (λ t. IsChain t (steps_anew new records (all_by old records)) (union triple_cmp (meaning new) records)) (union-all meaning old records triple_cmp)
    (subst (IsChain (union triple_cmp (meaning_by meaning (all_by old records)) records) (steps_anew new records (all_by old records))) ends (chain_remapped new records (all_by old records) xs))

-- ---- a play

no_entries : {A : Type 0} (xs : List A) → length xs ≡ 0 → xs ≡ []
no_entries [] none = refl
no_entries (x ∷ xs) none = absurd (omega (arith, none))

-- what is stored where these records are held by the version in force
abbrev stored_after : List Delivery → Played → List Triple
stored_after ds p = union triple_cmp (meaning (version_in_force ds)) p.records

module _ (hz : Option ℕ) (replies : Replies) where
  abbrev stored : List Delivery → List Triple
  stored ds = stored_after ds (play hz replies ds)

  -- a delivery that leaves the version leaves what is stored, but for what it applies
  kept : (ds : List Delivery) (d : Delivery) (p : Played) → version_in_force (ds ++ d ∷ []) ≡ version_in_force ds → play hz replies (ds ++ d ∷ []) ≡ p → stored_after ds p ≡ stored (ds ++ d ∷ [])
  kept ds d p version played = λ i. union triple_cmp (meaning (sym version i)) (sym played i).records

  chain_at : (ds : List Delivery) (d : Delivery) → IsChain (stored ds) (steps_at hz replies (record { before = ds; delivery = d })) (stored (ds ++ d ∷ []))
  chain_at ds (Told e) = kept ds (Told e) _ (version-kept ds (Told e) refl) (play-push hz replies ds (Told e))
  chain_at ds (Watermark w) =
      subst (IsChain (stored ds) (steps_applied (version_in_force ds) replies (play hz replies ds) (newly_due hz ds false (ds ++ Watermark w ∷ []))))
      (kept ds (Watermark w) _ (version-kept ds (Watermark w) refl) (play-push hz replies ds (Watermark w)))
      (chain_applied (version_in_force ds) replies (play hz replies ds) (newly_due hz ds false (ds ++ Watermark w ∷ [])))
  chain_at ds (Ask q) = kept ds (Ask q) _ (version-kept ds (Ask q) refl) (play-push hz replies ds (Ask q))
  chain_at ds (Match q) = kept ds (Match q) _ (version-kept ds (Match q) refl) (play-push hz replies ds (Match q))
  chain_at ds (Mapping v) =
      subst (IsChain (stored ds) (steps_anew v (play hz replies ds).records (all_by (version_in_force ds) (play hz replies ds).records)))
      (λ i. union triple_cmp (meaning (sym (version-mapping ds v) i)) (sym (play-push hz replies ds (Mapping v)) i).records)
      (chain_anew v (version_in_force ds) (play hz replies ds).records)

  -- before the first delivery nothing is stored
  nothing_stored : [] ≡ stored []
  nothing_stored = ap (λ es. sorted triple_cmp (flat_map (triples_at (meaning (version_in_force []))) es)) (sym (no_entries (map.entries nothing_played.records) (sym (map.len-entries nothing_played.records) ∙ map.len-empty _ _)))

  pub chain_of_play : (ds : List Delivery) → IsChain [] (steps_of_play hz replies ds) (stored ds)
  chain_of_play = by_pushes (λ ds. IsChain [] (steps_of_play hz replies ds) (stored ds)) nothing_stored
      (λ ds d before. subst (λ steps. IsChain [] steps (stored (ds ++ d ∷ []))) (sym (steps-push hz replies ds d))
      (chain-append [] (stored ds) (stored (ds ++ d ∷ [])) (steps_of_play hz replies ds) (steps_at hz replies (record { before = ds; delivery = d })) before (chain_at ds d)))

  -- with the end of the input
  pub chain_to_end : (ds : List Delivery) → IsChain [] (steps_to_end hz replies ds) (union triple_cmp (meaning (version_in_force ds)) (play_to_end hz replies ds).records)
  chain_to_end ds =
      chain-append [] (stored ds) (stored_after ds (play_to_end hz replies ds)) (steps_of_play hz replies ds) (steps_applied (version_in_force ds) replies (play hz replies ds) (newly_due hz ds true ds))
      (chain_of_play ds) (chain_applied (version_in_force ds) replies (play hz replies ds) (newly_due hz ds true ds))
