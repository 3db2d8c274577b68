-- Without records, triples, pages and names all is in step.
use Rattle.std.proofs.Common.{◌≡◌, ℕ, [], Some, None, is_some, unwrap_or, sym, ◌∙◌, ap, subst, true≢false}
use Rattle.std.specs.FinMap as map
use Rattle.rdf_term.specs.{declared.triple.Triple.Triple, Order.triple_cmp}
use Rattle.entity_model.specs.{declared.id.EntityId.EntityId, EntityId.entity_cmp}
use Rattle.entity_state.specs.{declared.record.Record.Record, Record.blank}
use Rattle.text_region.specs.{declared.piece.Piece.Piece, Region.Texts, Region.bytes_of}
use Rattle.triple_catalog.specs.Counts.{Counts}
use Rattle.triple_store.specs.StoreState.{AreKeysOf, IsSound, StoreState, counts_in, limit_of}
use Rattle.replay_model.specs.{Records.Bytes, Records.Records, Records.record_of, Union.Meaning, Union.owners, Union.triples_held, Versions.meaning_by}
use Rattle.fetched_pages.specs.Meaning.{meaning}
use Rattle.shared_triples.specs.Lean.{IsLean, count_in, stored_of}
use Rattle.entity_counts.specs.Naming.{Naming}
use Rattle.shared_triples.proofs.Keeping.{at_start}
use Rattle.lean_holdings.specs.declared.kept.LeanPage.{LeanPage}
use Rattle.holders.specs.Holders.{ByVersion}
use Rattle.lean_holdings.specs.{Holding.IsKept, Holding.counted_by, Holding.strangers_on, InStep.AreInStep, InStep.LeanState}
use Rattle.lean_holdings.specs.Kept.{KeptRecords, kept_of, keys_held, piece_at, piece_held, record_with, seen}
use Rattle.holders.proofs.Values.{values_empty}
use Rattle.lean_holdings.proofs.Naming.{nobody_names}

seen_nothing : (pages : Texts) → seen pages map.empty ≡ map.empty
seen_nothing pages = values_empty (record_with (bytes_of pages))

none_kept : (x : EntityId) → kept_of map.empty x ≡ blank
none_kept x = ap (λ o. unwrap_or o blank) (map.get-empty entity_cmp x)

none_held : (x : EntityId) → record_of map.empty x ≡ blank
none_held x = ap (λ o. unwrap_or o blank) (map.get-empty entity_cmp x)

no_count : (counts : Counts) → counts ≡ map.empty → (t : Triple) → count_in counts t ≡ 0
no_count counts none t = ap (λ (c : Counts). count_in c t) none ∙ ap (λ o. unwrap_or o 0) (map.get-empty triple_cmp t)

module _ (m : Meaning Triple) (s : StoreState) (pages : Texts) (sound : IsSound s) (counts : counts_in s ≡ map.empty) (texts : (p : Piece) → bytes_of pages p ≡ None) where
  lean : IsLean m (counted_by map.empty) (count_in (counts_in s)) (seen pages map.empty)
  lean =
      let start : IsLean m (counted_by map.empty) (λ t. 0) map.empty = at_start m (counted_by map.empty) in
      subst (λ (records : Records). IsLean m (counted_by map.empty) (count_in (counts_in s)) records) (sym (seen_nothing pages)) (record {
        counts = λ t. no_count (counts_in s) counts t ∙ start.counts t;
        strangers = start.strangers;
      })

  nothing_kept : IsKept m s pages map.empty map.empty
  nothing_kept = record {
    sound = sound;
    lean = lean;
    named = λ x. ap (λ o. unwrap_or o 0) (map.get-empty entity_cmp x)
        ∙ sym (ap (λ (records : Records). owners entity_cmp (strangers_on m) records x) (seen_nothing pages) ∙ nobody_names (strangers_on m) x);
    pieces = record {
      live = λ x p is. absurd (none x p is);
      once = λ x y p is _. absurd (none x p is);
      only = λ p live. absurd (true≢false (sym live ∙ ap is_some (texts p)));
    };
    keyed = λ x. subst (λ (was : Record LeanPage). AreKeysOf s (keys_held was.held) (triples_held (stored_of (counted_by map.empty) m) x (record_of (seen pages map.empty) x).held)) (sym (none_kept x))
        (subst (λ (was : Record Bytes). AreKeysOf s [] (triples_held (stored_of (counted_by map.empty) m) x was.held)) (sym (ap (λ (records : Records). record_of records x) (seen_nothing pages) ∙ none_held x))
        (record { rising = tt; each = λ _ there. absurd (true≢false (sym there)); all = λ _ there. absurd (true≢false (sym there)) }));
  }
    where
      none : (x : EntityId) (p : Piece) → piece_at map.empty x ≡ Some p → ⊥
      none x p is = true≢false (sym (ap is_some (sym (ap (λ (was : Record LeanPage). piece_held was.held) (none_kept x)) ∙ is)))

pub starts : (s : StoreState) (pages : Texts) (names : Naming) (ids : ByVersion) (kept : KeptRecords) → IsSound s → counts_in s ≡ map.empty → ((p : Piece) → bytes_of pages p ≡ None)
    → names ≡ map.empty → ids ≡ record { by_one = []; by_two = [] } → kept ≡ map.empty → AreInStep s pages names ids kept
starts s pages names ids kept sound counts texts unnamed none_by none =
    subst (λ (k : KeptRecords). AreInStep s pages names ids k) (sym none)
    (subst (λ (n : Naming). AreInStep s pages n ids map.empty) (sym unnamed)
    (subst (λ (i : ByVersion). AreInStep s pages map.empty i map.empty) (sym none_by) (record {
      kept = nothing_kept (meaning_by meaning []) s pages sound counts texts;
      by = record {
        by_one_rises = tt;
        by_two_rises = tt;
        each = λ x. sym (ap (λ (was : Record LeanPage). is_some was.held) (none_kept x));
        once = λ x there. absurd (true≢false (sym there));
      };
    })))

pub started : (s : StoreState) (pages : Texts) (names : Naming) (ids : ByVersion) (kept : KeptRecords) (limit : ℕ) → names ≡ map.empty → ids ≡ record { by_one = []; by_two = [] } → kept ≡ map.empty → limit_of s ≡ limit
    → ◌≡◌ {A = LeanState} (record { records = seen pages kept; limit = limit_of s; by_two = ids.by_two; names = names }) (record { records = map.empty; limit = limit; by_two = []; names = map.empty })
started s pages names ids kept limit unnamed none_by none is i =
    record { records = (ap (seen pages) none ∙ seen_nothing pages) i; limit = is i; by_two = (none_by i).by_two; names = unnamed i }
