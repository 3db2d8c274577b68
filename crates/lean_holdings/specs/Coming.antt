-- A page that comes, by its parts or by what it and the held page have of their own.
use Rattle.std.specs.Prelude.{◌<◌, Bool, List, Option}
use Rattle.std.specs.List.{AllByRecursion}
use Rattle.sorted_sets.specs.Rising.{has}
use Rattle.rdf_term.specs.{declared.triple.Triple.Triple, Fit.HasFitAndShortTerms}
use Rattle.entity_model.specs.{declared.id.EntityId.EntityId, EntityId.entity_cmp}
use Rattle.entity_state.specs.declared.record.Held.{Held}
use Rattle.slot_keys.specs.declared.key.Key.{Key}
use Rattle.triple_catalog.specs.Room.{room_for}
use Rattle.triple_store.specs.StoreState.{AreKeysOf, StoreState, counts_in, limit_of}
use Rattle.replay_model.specs.{Records.Bytes, Union.Meaning, Union.triples_held}
use Rattle.shared_triples.specs.Lean.{AreCounted}
use Rattle.entity_counts.specs.Naming.{Naming}
use Rattle.page_parts.specs.{declared.difference.PageDifference.PageDifference, Apart.AreApart}
use Rattle.parts_exchange.specs.{declared.exchanging.PartsExchange.PartsExchange, Exchanged.own_part, Exchanged.shared_part}
use Rattle.lean_holdings.specs.declared.moving.Coming.{Coming}
use Rattle.lean_holdings.specs.declared.moving.Coming.TheVariants.{Whole, Differing}
use Rattle.lean_holdings.specs.Moving.{ArePartsOf, HasMoved, HaveMoved, MayMove}

-- x held a page or nothing, and holds this page from now on: the parts are those of both, and all that the new one names are counted; or the
-- difference tells both apart
abbrev pub IsComing : List EntityId → Meaning Triple → Meaning Triple → EntityId → Option (Held Bytes) → Option (Held Bytes) → Coming → Type 0
IsComing counted m n x before after (Whole moving) =
    ArePartsOf counted m x before moving.gone.now × ArePartsOf counted n x after moving.come.now × AreCounted counted moving.come.now.names.items
IsComing counted m n x before after (Differing difference) = AreApart x (has entity_cmp x counted) (triples_held m x before) (triples_held n x after) difference.now

-- it may come
abbrev pub MayBring : Naming → Coming → Type 0
MayBring names (Whole moving) = AllByRecursion HasFitAndShortTerms moving.come.now.parts.shared × MayMove names moving.gone.now.names.items moving.come.now.names.items
MayBring names (Differing difference) = AllByRecursion HasFitAndShortTerms difference.now.come.shared

-- the difference tells these pages of x apart, and the keys are those of what is stored of the first
pub record TellsPages (s : StoreState) (keys : List Key) (difference : PageDifference) (x : EntityId) (is_counted : Bool) (before after : List Triple) : Type 0 where
  pub apart : AreApart x is_counted before after difference
  pub keyed : AreKeysOf s keys (shared_part is_counted x before)

-- it came, as parts in the place of others; by a difference, as those of each pages that this tells apart, which name the same entities
abbrev pub HasBrought : StoreState → StoreState → Naming → Naming → List Key → Coming → PartsExchange → Type 0
HasBrought s s2 names names2 keys (Whole moving) done = HasMoved s s2 names names2 keys moving.gone.now moving.come.now done
HasBrought s s2 names names2 keys (Differing difference) done =
    (x : EntityId) (is_counted : Bool) (before after : List Triple) (named : List EntityId) → TellsPages s keys difference.now x is_counted before after
    → HaveMoved s s2 names names2 keys (record { own = own_part is_counted x before; shared = shared_part is_counted x before; names = named })
    (record { own = own_part is_counted x after; shared = shared_part is_counted x after; names = named }) done

-- there is no room for what would be stored of it
abbrev pub HasNoRoom : StoreState → List Key → Coming → Type 0
HasNoRoom s keys (Whole moving) = limit_of s < room_for (counts_in s) moving.come.now.parts.shared
HasNoRoom s keys (Differing difference) =
    (x : EntityId) (is_counted : Bool) (before after : List Triple) → TellsPages s keys difference.now x is_counted before after → limit_of s < room_for (counts_in s) (shared_part is_counted x after)
