-- What is held as contracts see it, and when all of it is in step.
use Rattle.std.specs.Prelude.{ℕ, List}
use Rattle.entity_model.specs.declared.id.EntityId.{EntityId}
use Rattle.text_region.specs.Region.{Texts}
use Rattle.triple_store.specs.StoreState.{StoreState}
use Rattle.replay_model.specs.{Records.Records, Versions.meaning_by}
use Rattle.fetched_pages.specs.Meaning.{meaning}
use Rattle.entity_counts.specs.Naming.{Naming}
use Rattle.holders.specs.Holders.{AreBy, ByVersion}
use Rattle.lean_holdings.specs.{Holding.IsKept, Kept.KeptRecords, Kept.holds_in}

-- the records of the entities, each with the bytes that its entity holds; how many terms there may be; the entities whose pages are mapped by
-- version Two; and how many pages name each entity that is counted
pub record LeanState : Type 0 where
  pub records : Records
  pub limit : ℕ
  pub by_two : List EntityId
  pub names : Naming

-- the same where each page means what it means by the version that its entity is named by
pub record AreInStep (store : StoreState) (pages : Texts) (names : Naming) (ids : ByVersion) (entities : KeptRecords) : Type 0 where
  pub kept : IsKept (meaning_by meaning ids.by_two) store pages names entities
  pub by : AreBy ids (holds_in entities)
