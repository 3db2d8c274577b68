-- Without records, triples and texts all is in step.
use Rattle.std.proofs.Common.{◌≡◌, List, [], Some, None, is_some, unwrap_or, ℕ, refl, sym, ◌∙◌, ap, subst, true≢false}
use Rattle.std.specs.FinMap as map
use Rattle.entity_model.specs.{declared.id.EntityId.EntityId, EntityId.entity_cmp}
use Rattle.entity_state.specs.{declared.record.Record.Record, Record.blank}
use Rattle.rdf_term.specs.declared.triple.Triple.{Triple}
use Rattle.text_region.specs.declared.piece.Piece.{Piece}
use Rattle.triple_store.specs.Counts.{Counts}
use Rattle.triple_store.specs.StoreState.{AreKeysOf, IsSound, StoreState, beside, counts_in, limit_of}
use Rattle.holders.specs.{Holders.AreBy, Holders.ByVersion, Holding.HoldingsState, Counted.CountsOwners}
use Rattle.holdings.specs.{declared.kept.KeptPage.KeptPage, InStep.IsKept, Timed.AreTimed, Timed.IsTimedHeld}
use Rattle.holdings.specs.Keeping.{KeptRecords, held_with, holds_in, kept_of, keys_held, piece_at, piece_held, record_with, seen}
use Rattle.replay_model.specs.{Records.Records, Versions.version_at}
use Rattle.replay_model.specs.Union.{Meaning, triples_held}
use Rattle.holders.proofs.{Owning.none_counted, Values.values_empty}

-- nothing is seen of no records
pub seen_nothing : (s : StoreState) (kept : KeptRecords) → kept ≡ map.empty → seen s kept ≡ map.empty
seen_nothing s kept none = ap (seen s) none ∙ values_empty (record_with (beside s))

none_kept : (x : EntityId) → kept_of map.empty x ≡ blank
none_kept x = ap (λ o. unwrap_or o blank) (map.get-empty entity_cmp x)

nothing_kept : (m : Meaning Triple) (s : StoreState) → IsSound s → counts_in s ≡ map.empty → ((p : Piece) → beside s p ≡ None) → IsKept m s map.empty
nothing_kept m s sound counts texts = record {
  sound = sound;
  counted = subst (λ (c : Counts). CountsOwners m c (seen s map.empty)) (sym counts)
      (subst (λ (records : Records). CountsOwners m map.empty records) (sym (seen_nothing s map.empty refl)) (none_counted m));
  held = record {
    live = λ x p is. absurd (none x p is);
    once = λ x y p is _. absurd (none x p is);
    only = λ p live. absurd (true≢false (sym live ∙ ap is_some (texts p)));
  };
  keyed = λ x. subst (λ (was : Record KeptPage). AreKeysOf s (keys_held was.held) (triples_held m x (held_with (beside s) was.held))) (sym (none_kept x))
      (record { rising = tt; each = λ _ there. absurd (true≢false (sym there)); all = λ _ there. absurd (true≢false (sym there)) });
}
  where
    none : (x : EntityId) (p : Piece) → piece_at map.empty x ≡ Some p → ⊥
    none x p is = true≢false (sym (ap is_some (sym (ap (λ (was : Record KeptPage). piece_held was.held) (none_kept x)) ∙ is)))

pub starts : (m : Meaning Triple) (s : StoreState) (kept : KeptRecords) → IsSound s → counts_in s ≡ map.empty → ((p : Piece) → beside s p ≡ None) → kept ≡ map.empty → IsKept m s kept
starts m s kept sound counts texts none = subst (IsKept m s) (sym none) (nothing_kept m s sound counts texts)

pub started : (s : StoreState) (kept : KeptRecords) (by_two : List EntityId) (limit : ℕ) → kept ≡ map.empty → by_two ≡ [] → limit_of s ≡ limit
    → ◌≡◌ {A = HoldingsState} (record { records = seen s kept; limit = limit_of s; by_two = by_two }) (record { records = map.empty; limit = limit; by_two = [] })
started s kept by_two limit none none_by_two is i = record { records = seen_nothing s kept none i; limit = is i; by_two = none_by_two i }

-- and no entity holds a page
pub none_by : (ids : ByVersion) (kept : KeptRecords) → ids ≡ record { by_one = []; by_two = [] } → kept ≡ map.empty → AreBy ids (holds_in kept)
none_by ids kept no_ids none =
    subst (λ (i : ByVersion). AreBy i (holds_in kept)) (sym no_ids) (subst (λ (k : KeptRecords). AreBy (record { by_one = []; by_two = [] }) (holds_in k)) (sym none) (record {
      by_one_rises = tt;
      by_two_rises = tt;
      each = λ x. sym (ap (λ (was : Record KeptPage). is_some was.held) (none_kept x));
      once = λ x _. refl;
    }))

-- and nothing is known
pub none_timed : (s : StoreState) (by_two : List EntityId) (kept : KeptRecords) → kept ≡ map.empty → AreTimed s by_two kept
none_timed s by_two kept none =
    subst (AreTimed s by_two) (sym none) (λ x. subst (λ (was : Record KeptPage). IsTimedHeld (version_at by_two x) s (beside s) x was.held) (sym (none_kept x)) tt)
