-- All stays in step, by the versions of the mapping, where an entity holds what it held.
use Rattle.std.proofs.Common.{◌≡◌, ◌≢◌, false, not, ◌&&◌, List, is_some, sym, ◌∙◌, ap, ⊎_elim}
use Rattle.std.specs.FinMap as map
use Rattle.std.specs.{List.list_any, Ordering.eq_by_cmp, Set.remove_key}
use Rattle.sorted_sets.specs.Rising.{IsRising, has}
use Rattle.sorted_sets.proofs.{FirstPassing.IsRising-remove_key, Rising.same_rising}
use Rattle.entity_model.specs.{declared.id.EntityId.EntityId, EntityId.entity_cmp, EntityId.entity_cmp_same, EntityId.entity_cmp_total}
use Rattle.entity_state.specs.declared.record.Record.{Record}
use Rattle.text_region.specs.Region.{Texts, bytes_of}
use Rattle.triple_store.specs.StoreState.{StoreState}
use Rattle.replay_model.specs.{Records.Records, Versions.is_holder, Versions.meaning_by}
use Rattle.replay_model.proofs.Versions.{has-without}
use Rattle.fetched_pages.specs.Meaning.{meaning}
use Rattle.entity_counts.specs.Naming.{Naming}
use Rattle.lean_holdings.specs.declared.kept.LeanPage.{LeanPage}
use Rattle.holders.specs.Holders.{AreBy, ByVersion}
use Rattle.lean_holdings.specs.InStep.{AreInStep}
use Rattle.lean_holdings.specs.Kept.{KeptRecords, holds_in, kept_of, record_with, seen}
use Rattle.holders.proofs.{ByVersion.by_keep, Records.id_tells, Records.record_elsewhere, Records.record_here, Values.values_keys}
use Rattle.lean_holdings.proofs.{Seen.held_is, Staying.some_seen, Staying.stays}

-- whether an entity holds, after a record is put in
pub own_holds : (kept : KeptRecords) (x : EntityId) (r : Record LeanPage) → holds_in (map.insert kept x r) x ≡ is_some r.held
own_holds kept x r = ap (λ (was : Record LeanPage). is_some was.held) (record_here kept x r)

-- and whether another does
pub others_hold : (kept : KeptRecords) (x : EntityId) (r : Record LeanPage) (y : EntityId) → y ≢ x → holds_in (map.insert kept x r) y ≡ holds_in kept y
others_hold kept x r y other = ap (λ (was : Record LeanPage). is_some was.held) (record_elsewhere kept x r y other)

-- one that isn't there is taken out
pub drop_none : (x : EntityId) (xs : List EntityId) → IsRising entity_cmp xs → has entity_cmp x xs ≡ false → remove_key (eq_by_cmp entity_cmp x) xs ≡ xs
drop_none x xs rising absent =
    same_rising entity_cmp_total entity_cmp_same (remove_key (eq_by_cmp entity_cmp x) xs) xs (IsRising-remove_key (eq_by_cmp entity_cmp x) entity_cmp xs rising) rising
    (λ y. has-without y x xs rising ∙ ⊎_elim
    (λ own. ap (λ b. not b && has entity_cmp y xs) own.0 ∙ sym absent ∙ ap (λ z. has entity_cmp z xs) (sym own.1))
    (λ other. ap (λ b. not b && has entity_cmp y xs) other.0)
    (id_tells y x))

pub still_in_step : (s : StoreState) (pages : Texts) (names : Naming) (ids : ByVersion) (kept : KeptRecords) (x : EntityId) (r : Record LeanPage) → r.held ≡ (kept_of kept x).held
    → AreInStep s pages names ids kept → AreInStep s pages names ids (map.insert kept x r)
still_in_step s pages names ids kept x r same h = record {
  kept = stays (meaning_by meaning ids.by_two) s pages names kept x r same h.kept;
  by = by_keep ids (holds_in kept) (holds_in (map.insert kept x r)) x h.by (others_hold kept x r) (own_holds kept x r ∙ ap is_some same);
}

-- which records there are doesn't need the texts
pub there_seen : (pages : Texts) (kept : KeptRecords) (x : EntityId) → map.contains_key (seen pages kept) x ≡ map.contains_key kept x
there_seen pages kept x =
    map.contains_key-keys (seen pages kept) x ∙ ap (list_any (eq_by_cmp entity_cmp x)) (values_keys (record_with (bytes_of pages)) kept) ∙ sym (map.contains_key-keys kept x)

-- and so does which entities hold
pub links : (pages : Texts) (kept : KeptRecords) (x : EntityId) → is_holder (seen pages kept) x ≡ is_some (kept_of kept x).held
links pages kept x = ap is_some (held_is (bytes_of pages) kept x) ∙ some_seen (bytes_of pages) (kept_of kept x).held

-- where the same is seen the same entities hold
pub by_alike : (pages : Texts) (ids : ByVersion) (kept kept2 : KeptRecords) → seen pages kept2 ≡ seen pages kept → AreBy ids (holds_in kept) → AreBy ids (holds_in kept2)
by_alike pages ids kept kept2 alike h = record {
  by_one_rises = h.by_one_rises;
  by_two_rises = h.by_two_rises;
  each = λ y. h.each y ∙ sym (links pages kept y) ∙ ap (λ (records : Records). is_holder records y) (sym alike) ∙ links pages kept2 y;
  once = h.once;
}
