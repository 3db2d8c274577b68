-- A record goes in, and what holds of a world goes on holding.
use Rattle.std.proofs.Common.{◌≡◌, Bool, true, false, cond, not, ◌&&◌, ◌||◌, List, Option, None, Some, is_none, is_some, unwrap_or, refl, sym, ap, subst, ⊎_elim}
use Rattle.std.specs.FinMap as map
use Rattle.std.specs.List.{list_any}
use Rattle.entity_model.specs.{declared.id.EntityId.EntityId, declared.mapping.MappingVersion.MappingVersion, EntityId.entity_cmp}
use Rattle.entity_state.specs.{declared.record.Held.Held, declared.record.Record.Record, State.is_kept}
use Rattle.entity_state.specs.Record.{blank, held_revision, is_held}
use Rattle.entity_json.specs.Document.{unfit_of}
use Rattle.entity_state.specs.declared.entry.Entry.{Entry}
use Rattle.replay_model.specs.{Entries.HoldsUnlessOpen, Entries.is_of_revision, Entries.is_open_by, Entries.is_revision_of, Play.Played}
use Rattle.replay_model.specs.{Records.Bytes, Records.Records, Records.record_of, Records.is_settled, Replies.HoldsDocument}
use Rattle.replay_model.specs.Versions.{all_by}
use Rattle.replay_model.proofs.{Settled.settled_by, Versions.all-drop, Versions.all-put}
use Rattle.sorted_sets.proofs.Bools.{clash}
use Rattle.world.specs.Restoring.{MayStand, by_two_with, is_accounted_for}
use Rattle.holders.proofs.Records.{record_elsewhere, record_here, id_tells}

-- what holds of each record and of one more holds of each once this one is put in
each_put : (P : EntityId → Record Bytes → Type 0) (records : Records) (x : EntityId) (r : Record Bytes) → ((y : EntityId) → P y (record_of records y)) → P x r
    → (y : EntityId) → P y (record_of (map.insert records x r) y)
each_put P records x r all one y = ⊎_elim
    (λ own. subst (λ z. P z (record_of (map.insert records x r) z)) (sym own.1) (subst (P x) (sym (record_here records x r)) one))
    (λ other. subst (P y) (sym (record_elsewhere records x r y other.1)) (all y))
    (id_tells y x)

-- ---- which records may stand

-- nothing is held of a page that isn't kept
nothing_held : (kept a : Bool) (h : Option (Held Bytes)) → cond kept a (is_none h) ≡ true → kept ≡ false → h ≡ None
nothing_held true a h told is = clash refl is
nothing_held false a None told is = refl
nothing_held false a (Some held) told is = clash refl (sym told)

-- what is wanted and isn't held is told
wanted_told : (kept held told rest : Bool) → cond kept (held || told) rest ≡ true → (kept && not held) ≡ true → told ≡ true
wanted_told true true told rest is w = clash w refl
wanted_told true false told rest is w = is
wanted_told false held told rest is w = clash w refl

-- a record that may stand
pub accounted_stands : (side : List Entry) (x : EntityId) (r : Record Bytes) → is_accounted_for side x r ≡ true → HoldsDocument unfit_of x r.held → MayStand side x r
accounted_stands side x r told document =
    let empty : is_kept r.state.mode ≡ false → r.held ≡ None =
    nothing_held (is_kept r.state.mode) (is_held r.state.rev (held_revision r.held) || list_any (is_of_revision x r.state.rev) side) r.held told in
    record {
      settled = settled_by side x r (record {
        empty_unless_kept = empty;
        named = wanted_told (is_kept r.state.mode) (is_held r.state.rev (held_revision r.held)) (list_any (is_of_revision x r.state.rev) side) (is_none r.held) told;
      });
      empty = empty;
      document = document;
    }

-- ---- the world with the record

pub holds_put : (p : Played) (x : EntityId) (r : Record Bytes) → HoldsUnlessOpen p → MayStand p.side x r → HoldsUnlessOpen (record { records = map.insert p.records x r; side = p.side })
holds_put p x r holds stands = record {
  settled = each_put (λ y q. is_settled q ≡ not (list_any (λ entry. is_revision_of y entry && is_open_by q entry) p.side)) p.records x r holds.settled stands.settled;
  empty = each_put (λ y q. is_kept q.state.mode ≡ false → q.held ≡ None) p.records x r holds.empty stands.empty;
}

pub documents_put : (records : Records) (x : EntityId) (r : Record Bytes) → ((y : EntityId) → HoldsDocument unfit_of y (record_of records y).held) → HoldsDocument unfit_of x r.held
    → (y : EntityId) → HoldsDocument unfit_of y (record_of (map.insert records x r) y).held
documents_put records x r all one = each_put (λ y q. HoldsDocument unfit_of y q.held) records x r all one

-- where all are mapped by one version, so are all with the record
pub put_by_one : (v : MappingVersion) (records : Records) (x : EntityId) (r : Record Bytes) → by_two_with v x r.held (all_by v records) ≡ all_by v (map.insert records x r)
put_by_one v records x r = by r.held refl
  where
    by : (h : Option (Held Bytes)) → r.held ≡ h → by_two_with v x h (all_by v records) ≡ all_by v (map.insert records x r)
    by None is = sym (all-drop v records x r (ap is_some is))
    by (Some held) is = sym (all-put v records x r (ap is_some is))

-- where there is no record there is no document
pub no_documents : (x : EntityId) → HoldsDocument unfit_of x (record_of map.empty x).held
no_documents x = subst (λ (r : Record Bytes). HoldsDocument unfit_of x r.held) (sym (ap (λ o. unwrap_or o blank) (map.get-empty entity_cmp x))) tt
