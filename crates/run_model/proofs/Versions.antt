-- By which versions all that is held is mapped, after each step.
use Rattle.std.proofs.Common.{◌≡◌, ◌∙◌, refl, sym, ap, subst, ℕ, suc, ◌<◌, ◌≤◌, Bool, true, false, cond, List, [], ◌∷◌, length, filter, Option, None, Some, IfSome, is_some, arith}
use Rattle.std.specs.FinMap as map
use Rattle.rdf_term.specs.Order.{triple_cmp}
use Rattle.entity_model.specs.{declared.id.EntityId.EntityId, declared.mapping.MappingVersion.MappingVersion}
use Rattle.entity_state.specs.declared.record.Held.{Held}
use Rattle.revisions.specs.Revisions.{Contents}
use Rattle.replay_model.specs.{Records.Bytes, Records.Records, Records.record_of, ReplayState.ReplayState, Union.union}
use Rattle.replay_model.specs.Versions.{all_by, is_holder, meaning_by}
use Rattle.replay_model.proofs.Versions.{union-all}
use Rattle.world.specs.Applying.{Applies}
use Rattle.holders.specs.Holding.{AreHolders, first_of}
use Rattle.world.specs.{Limit.Limit, Roomed.needs_anew, Roomed.needs_at, Roomed.needs_now}
use Rattle.world.specs.WorldState.{WorldState, next_stale, remapped, by_two_after, stale}
use Rattle.world.specs.declared.applied.AppliedEvent.{AppliedEvent}
use Rattle.fetched_pages.specs.Meaning.{meaning}
use Rattle.world.proofs.OneVersion.{applied_by_one}
use Rattle.run_model.specs.Remapping.{HaveRoom, HaveRoomBefore, needed_anew, needed_by_pages, IsFullOfStale, KeepsVersion, Mapped, held_triples, mapped_by, mapped_in, remapped_in, remapped_some}
use Rattle.run_model.proofs.Needed.{all_met, anew_has_room, first_met}

-- where every page is mapped by one version, the triples of all that is held are the union by this version
pub all_held_by : (version : MappingVersion) (mapped : Mapped) (records : Records) → mapped ≡ mapped_by version records → held_triples mapped records ≡ union triple_cmp (meaning version) records
all_held_by version mapped records is = ap (λ (m : Mapped). held_triples m records) is ∙ union-all meaning version records triple_cmp

-- after an application every page is mapped by the version by which all were
pub applies-versions : (contents : Option Contents) (folder : List ℕ) (old new : WorldState) (applied : AppliedEvent) → Applies contents folder old.replay new.replay applied → new.mapping ≡ old.mapping →
    new.by_two ≡ by_two_after applied.outcome old.mapping applied.event.entity old.by_two → KeepsVersion (mapped_in old) (mapped_in new) old.replay.played.records new.replay.played.records
applies-versions contents folder old new applied a same by_two version is =
    let records : Records = old.replay.played.records in
    let mapping : old.mapping ≡ version = ap (λ (m : Mapped). m.version) is in
    let one : old.by_two ≡ all_by old.mapping records = ap (λ (m : Mapped). m.by_two) is ∙ ap (λ v. all_by v records) (sym mapping) in
    ap (λ xs. record { version = new.mapping; by_two = xs }) (applied_by_one contents folder old new applied a same by_two one)
    ∙ ap (λ v. mapped_by v new.replay.played.records) (same ∙ mapping)

-- versions are kept by one step and then by others
pub keeps-further : (old between new : WorldState) → KeepsVersion (mapped_in old) (mapped_in between) old.replay.played.records between.replay.played.records →
    KeepsVersion (mapped_in between) (mapped_in new) between.replay.played.records new.replay.played.records → KeepsVersion (mapped_in old) (mapped_in new) old.replay.played.records new.replay.played.records
keeps-further old between new first by_two version is = by_two version (first version is)

-- where there are some, there is a first
pub first_there : {A : Type 0} (P : Type 0) (xs : List A) (o : Option A) → 0 < length xs → o ≡ first_of xs → IfSome o (λ _. P) → P
first_there P [] o some is given = absurd (omega (arith, some))
first_there P (x ∷ xs) o some is given = let there : IfSome (Some x) (λ _. P) = subst (λ p. IfSome p (λ _. P)) is given in there

-- the first that passes both tests passes the one
passes_both : {A : Type 0} (p q : A → Bool) (xs : List A) (x : A) (rest : List A) → filter p (filter q xs) ≡ x ∷ rest → q x ≡ true
passes_both p q [] x rest is = cc
passes_both {A} p q (y ∷ ys) x rest is = by (passes_both p q ys x rest) (q y) refl is
  where
    Later : Type 0
    Later = filter p (filter q ys) ≡ x ∷ rest → q x ≡ true

    here : Later → (b : Bool) → q y ≡ true → cond b (y ∷ filter p (filter q ys)) (filter p (filter q ys)) ≡ x ∷ rest → q x ≡ true
    here later true passes same = let at : y ≡ x = cc in ap q (sym at) ∙ passes
    here later false passes same = later same

    by : Later → (b : Bool) → q y ≡ b → filter p (cond b (y ∷ filter q ys) (filter q ys)) ≡ x ∷ rest → q x ≡ true
    by later true passes same = here later (p y) passes same
    by later false fails same = later same

-- where the page of the least stale entity has no room, the store is full
pub full_of_stale : (w : WorldState) → 0 < length (stale w) → w.limit.terms < needs_anew w →
    IsFullOfStale w.limit w.replay.played.records (mapped_in w)
full_of_stale w some over = by (stale w) refl some
  where
    records : Records
    records = w.replay.played.records

    held : (x : EntityId) (h : Option (Held Bytes)) → (record_of records x).held ≡ h → is_some h ≡ true → next_stale w ≡ Some x → IsFullOfStale w.limit records (mapped_in w)
    held x None is holds next = cc
    held x (Some page) is holds next = record {
      entity = x;
      next = next;
      page = page;
      holds = is;
      over = subst (λ n. w.limit.terms < n) (ap (needs_at w) next ∙ ap (needs_now w x) is) over;
    }

    by : (xs : List EntityId) → stale w ≡ xs → 0 < length xs → IsFullOfStale w.limit records (mapped_in w)
    by [] is none = absurd (omega (arith, none))
    by (x ∷ rest) is there = held x (record_of records x).held refl (passes_both _ (is_holder records) (map.keys records) x rest is) (ap first_of is)

-- a version was put in force in a world, and some pages, the least first, were mapped by it
pub record Remaps (version : MappingVersion) (old now : WorldState) : Type 0 where
  pub replay : now.replay ≡ old.replay
  pub limit : now.limit ≡ old.limit
  pub steps : ℕ
  pub mapped : mapped_in now ≡ remapped_some steps old.replay.played.records (record { version = version; by_two = old.by_two })
  pub version_is : now.mapping ≡ version
  pub holders : AreHolders now.by_two now.replay.played.records
  pub roomed : HaveRoomBefore old.limit (needed_anew now.replay.played.records (mapped_in now)) (needed_anew old.replay.played.records (record { version = version; by_two = old.by_two }))

-- none yet
pub remaps_none : (version : MappingVersion) (old now : WorldState) → now ≡ record old { mapping = version } → AreHolders now.by_two now.replay.played.records → Remaps version old now
remaps_none version old now is are = record {
  replay = ap (λ (w : WorldState). w.replay) is;
  limit = ap (λ (w : WorldState). w.limit) is;
  steps = 0;
  mapped = ap mapped_in is;
  version_is = ap (λ (w : WorldState). w.mapping) is;
  holders = are;
  roomed = first_met old.limit _ _ [] (ap (λ (w : WorldState). needed_anew w.replay.played.records (mapped_in w)) (sym is)) tt;
}

-- and one more
pub remaps_next : (version : MappingVersion) (old now new : WorldState) → Remaps version old now → new ≡ remapped now → AreHolders new.by_two new.replay.played.records →
    needs_anew now ≤ now.limit.terms → Remaps version old new
remaps_next version old now new so_far is are within = record {
  replay = ap (λ (w : WorldState). w.replay) is ∙ so_far.replay;
  limit = ap (λ (w : WorldState). w.limit) is ∙ so_far.limit;
  steps = suc so_far.steps;
  mapped = ap mapped_in is ∙ ap (λ (w : ReplayState). remapped_in w.played.records (mapped_in now)) so_far.replay ∙ ap (remapped_in old.replay.played.records) so_far.mapped;
  version_is = ap (λ (w : WorldState). w.mapping) is ∙ so_far.version_is;
  holders = are;
  roomed = subst (λ (w : WorldState). HaveRoomBefore old.limit (needed_anew w.replay.played.records (mapped_in w)) (needed_anew old.replay.played.records (record { version = version; by_two = old.by_two }))) (sym is)
      (anew_has_room old.limit _ now so_far.holders.rising so_far.limit within so_far.roomed);
}

-- all of them
pub remaps_all : (version : MappingVersion) (old now : WorldState) → Remaps version old now → now.by_two ≡ all_by now.mapping now.replay.played.records → mapped_in now ≡ mapped_by version old.replay.played.records
remaps_all version old now so_far all =
    ap (λ xs. record { version = now.mapping; by_two = xs }) all
    ∙ ap (λ v. mapped_by v now.replay.played.records) so_far.version_is
    ∙ ap (λ (w : ReplayState). mapped_by version w.played.records) so_far.replay

-- there was room for the remapped pages
pub remaps_roomed : (version : MappingVersion) (old now new : WorldState) → Remaps version old now → new ≡ now →
    HaveRoomBefore old.limit (needed_anew old.replay.played.records (mapped_in new)) (needed_anew old.replay.played.records (record { version = version; by_two = old.by_two }))
remaps_roomed version old now new so_far same =
    rw same (subst (λ (w : ReplayState). HaveRoomBefore old.limit (needed_anew w.played.records (mapped_in now)) (needed_anew old.replay.played.records (record { version = version; by_two = old.by_two }))) so_far.replay so_far.roomed)

-- and where none is left, for all
pub remaps_all_roomed : (version : MappingVersion) (old now : WorldState) → Remaps version old now → length (stale now) ≡ 0 →
    HaveRoom old.limit (needed_anew old.replay.played.records (record { version = version; by_two = old.by_two }))
remaps_all_roomed version old now so_far none =
    all_met old.limit _ _ (by (stale now) refl none) so_far.roomed
  where
    by : (xs : List EntityId) → stale now ≡ xs → length xs ≡ 0 → needed_anew now.replay.played.records (mapped_in now) ≡ []
    by [] is none = ap (needed_by_pages now.mapping now.replay.played.records now.by_two) is
    by (x ∷ rest) is none = absurd (omega (arith, none))

-- the next one has no room
pub remaps_full : (version : MappingVersion) (old now new : WorldState) → Remaps version old now → new ≡ now → 0 < length (stale now) →
    now.limit.terms < needs_anew now → IsFullOfStale old.limit old.replay.played.records (mapped_in new)
remaps_full version old now new so_far same some over =
    let Full : Limit → ReplayState → Type 0 = λ l w. IsFullOfStale l w.played.records (mapped_in new) in
    subst (λ l. Full l old.replay) so_far.limit (subst (Full now.limit) so_far.replay (rw same (full_of_stale now some over)))
