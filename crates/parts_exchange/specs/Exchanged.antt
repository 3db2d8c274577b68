-- The parts of a page come in the place of others, and what is told of that.
use Rattle.std.specs.Prelude.{◌≡◌, ◌<◌, ◌≤◌, ⊤, Bool, true, false, not, filter, List, ◌++◌, Result, Err, IfOk, OnErr}
use Rattle.sorted_sets.specs.Rising.{has, sorted}
use Rattle.rdf_term.specs.{declared.triple.Triple.Triple, Order.triple_cmp}
use Rattle.entity_model.specs.declared.id.EntityId.{EntityId}
use Rattle.slot_keys.specs.declared.key.Key.{Key}
use Rattle.term_pool.specs.{declared.fault.PoolFault.PoolFault, declared.fault.PoolFault.TheVariants.Full}
use Rattle.triple_catalog.specs.{declared.lines.TripleLines.TripleLines, Counts.Counts, Counts.Exchanges, Lines.AreLinesOf, Room.room_for}
use Rattle.triple_store.specs.{declared.telling.Told.Told, Telling.IsChange}
use Rattle.triple_store.specs.declared.telling.Told.TheVariants.{Nothing as NothingTold, Whether as ToldWhether, Change as ToldChange}
use Rattle.triple_store.specs.StoreState.{AreKeysOf, StoreState, counts_in, limit_of}
use Rattle.page_parts.specs.{declared.difference.PageDifference.PageDifference, Apart.AreApart, Parts.stands_alone, Rows.IsRowChange}
use Rattle.parts_exchange.specs.declared.exchanging.PartsChange.{PartsChange}
use Rattle.parts_exchange.specs.declared.exchanging.PartsExchange.{PartsExchange}

-- what is told is a change
abbrev pub IsToldChange : Told → Type 0
IsToldChange NothingTold = ⊥
IsToldChange (ToldWhether changed) = ⊥
IsToldChange (ToldChange change) = ⊤

-- the change of the triples that stand in a page alone, and that of the stored ones
pub record IsPartsChange (old_counts new_counts : Counts) (old new : List Triple) (change : PartsChange) : Type 0 where
  pub own : IsRowChange old new change.own
  pub stored : IsChange old_counts new_counts change.stored

-- an owner whose stored triples had these keys has the shared ones of the new parts from now on, and the change is told
pub record HasExchangedParts (old new : StoreState) (keys : List Key) (own_before own shared : List Triple) (done : PartsExchange) : Type 0 where
  pub counts : (triples : List Triple) → AreKeysOf old keys triples → Exchanges (counts_in old) (counts_in new) triples shared
  pub keys_are : AreKeysOf new done.keys.rising.items shared
  pub told : IsPartsChange (counts_in old) (counts_in new) own_before own done.change
  pub within : room_for (counts_in old) shared ≤ limit_of old

-- so it is, or a fault changed no count. `Full` is said where there is no room for the shared triples
pub record IsPartsExchange (old new : StoreState) (keys : List Key) (own_before own shared : List Triple) (result : Result PartsExchange PoolFault) : Type 0 where
  pub done : IfOk result (HasExchangedParts old new keys own_before own shared)
  pub err : OnErr result (counts_in new ≡ counts_in old)
  pub full : result ≡ Err Full → limit_of old < room_for (counts_in old) shared

-- of the triples of a page of x, which is counted or isn't, those that stand in this page alone
abbrev pub own_part : Bool → EntityId → List Triple → List Triple
own_part is_counted x triples = filter (stands_alone is_counted x) triples

-- and the others
abbrev pub shared_part : Bool → EntityId → List Triple → List Triple
shared_part is_counted x triples = filter (λ t. not (stands_alone is_counted x t)) triples

-- the parts of one page of an entity came in the place of those of another, or a fault changed no count: so it is for each two pages that have
-- this of their own, where the keys are those of the shared triples of the page that goes
abbrev pub IsDifferenceExchange : StoreState → StoreState → List Key → PageDifference → Result PartsExchange PoolFault → Type 0
IsDifferenceExchange old new keys difference result =
    (x : EntityId) (is_counted : Bool) (before after : List Triple) → AreApart x is_counted before after difference → AreKeysOf old keys (shared_part is_counted x before)
    → IsPartsExchange old new keys (own_part is_counted x before) (own_part is_counted x after) (shared_part is_counted x after) result

-- the triples are those of two texts of lines, each in order, merged: none is in both
pub record AreMerged (first second : TripleLines) (triples : List Triple) : Type 0 where
  pub some : List Triple
  pub others : List Triple
  pub first_are : AreLinesOf first some
  pub second_are : AreLinesOf second others
  pub once : (t : Triple) → has triple_cmp t some ≡ true → has triple_cmp t others ≡ false
  pub all : triples ≡ sorted triple_cmp (some ++ others)
