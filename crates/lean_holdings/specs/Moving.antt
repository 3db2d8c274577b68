-- The parts of a page with the entities that it names, and what comes of putting them in the place of others.
use Rattle.std.specs.Prelude.{◌≡◌, ◌+◌, ◌<◌, true, List, Option}
use Rattle.std.specs.List.{AllByRecursion}
use Rattle.sorted_sets.specs.{Counting.one_if, Rising.IsRising, Rising.has, Rising.sorted}
use Rattle.rdf_term.specs.{declared.triple.Triple.Triple, Fit.HasFitAndShortTerms, Order.triple_cmp}
use Rattle.entity_model.specs.{declared.id.EntityId.EntityId, EntityId.entity_cmp}
use Rattle.entity_state.specs.declared.record.Held.{Held}
use Rattle.slot_keys.specs.declared.key.Key.{Key}
use Rattle.triple_store.specs.{StoreState.StoreState, Updates.KeepsRest}
use Rattle.replay_model.specs.{Records.Bytes, Union.Meaning, Union.triples_held}
use Rattle.shared_triples.specs.Lean.{AreCounted, own_of, stored_of, strangers}
use Rattle.entity_counts.specs.Naming.{Naming, pages_naming}
use Rattle.parts_exchange.specs.{declared.exchanging.PartsExchange.PartsExchange, Exchanged.HasExchangedParts}
use Rattle.page_parts.specs.declared.named.NamedParts.{NamedParts}
use Rattle.lean_holdings.specs.Holding.{counted_by}

-- of the triples of a page those that stand in it alone and those that are stored, and the entities that it names
pub record PartLists : Type 0 where
  pub own : List Triple
  pub shared : List Triple
  pub names : List EntityId

abbrev pub lists_of : NamedParts → PartLists
lists_of p = record { own = p.parts.own; shared = p.parts.shared; names = p.names.items }

-- these are those of what x holds, where these entities are counted, and the entities that it names are in rising order
pub record AreListsOf (counted : List EntityId) (m : Meaning Triple) (x : EntityId) (held : Option (Held Bytes)) (p : PartLists) : Type 0 where
  pub own : sorted triple_cmp p.own ≡ triples_held (own_of counted m) x held
  pub stored : sorted triple_cmp p.shared ≡ triples_held (stored_of counted m) x held
  pub fit : AllByRecursion HasFitAndShortTerms p.shared
  pub rising : IsRising entity_cmp p.names
  pub names : (y : EntityId) → has entity_cmp y p.names ≡ has entity_cmp y (strangers x (triples_held m x held))

abbrev pub ArePartsOf : List EntityId → Meaning Triple → EntityId → Option (Held Bytes) → NamedParts → Type 0
ArePartsOf counted m x held p = AreListsOf counted m x held (lists_of p)

-- one page that names some entities may come in the place of one that names others: those that come are counted, and no number is saturated
pub record MayMove (names : Naming) (gone come : List EntityId) : Type 0 where
  pub gone_rise : IsRising entity_cmp gone
  pub come_rise : IsRising entity_cmp come
  pub counted : AreCounted (counted_by names) come
  pub named : (y : EntityId) → has entity_cmp y gone ≡ true → 0 < pages_naming names y
  pub few : (y : EntityId) → pages_naming names y < 18446744073709551615

-- the parts of a page came in the place of others, whose stored triples had these keys
pub record HaveMoved (s s2 : StoreState) (names names2 : Naming) (keys : List Key) (gone come : PartLists) (done : PartsExchange) : Type 0 where
  pub exchanged : HasExchangedParts s s2 keys gone.own come.own come.shared done
  pub rest : KeepsRest s s2
  pub counted : counted_by names2 ≡ counted_by names
  pub named : (y : EntityId) → pages_naming names2 y + one_if (has entity_cmp y gone.names) ≡ pages_naming names y + one_if (has entity_cmp y come.names)

abbrev pub HasMoved : StoreState → StoreState → Naming → Naming → List Key → NamedParts → NamedParts → PartsExchange → Type 0
HasMoved s s2 names names2 keys gone come done = HaveMoved s s2 names names2 keys (lists_of gone) (lists_of come) done
