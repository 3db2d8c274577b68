-- What a page changes of the one that its entity holds.
use Rattle.std.specs.Prelude.{◌≡◌, ℕ, List, Some}
use Rattle.std.specs.List.{AllByRecursion}
use Rattle.sorted_sets.specs.Merging.{Balance, IsWithin}
use Rattle.rdf_term.specs.Fit.{HasFitAndShortTerms}
use Rattle.entity_documents.specs.declared.changed.Changed.{Changed}
use Rattle.entity_json.specs.Document.{document_of}
use Rattle.entity_model.specs.{declared.document.Document.TheVariants.Entity as AnEntity, declared.entity.Entity.Entity}
use Rattle.entity_model.specs.{declared.id.EntityId.EntityId, declared.mapping.MappingVersion.MappingVersion}
use Rattle.entity_rdf.specs.{Changing.kept_list, Counted.counted_kept}
use Rattle.page_rdf.specs.{declared.counts.Counts.Counts, Counted.AreAfter, Counted.counts_of}
use Rattle.entity_state.specs.declared.record.Held.{Held}
use Rattle.replay_model.specs.{Records.Bytes, Records.Records, Records.record_of, Versions.version_at}
use Rattle.fetched_pages.specs.{declared.comparing.ChangedTexts.ChangedTexts, declared.comparing.KnownPage.KnownPage}

-- the page is that of x, of an item or a property that has the counts
pub record HasEntity (x : EntityId) (page : KnownPage) : Type 0 where
  pub entity : Entity
  pub document : document_of x page.bytes.now ≡ Some (AnEntity entity)
  pub counts_are : page.counts ≡ counts_of entity

-- x holds this page, which is mapped by the version
pub record IsKnownPage (records : Records) (by_two : List EntityId) (version : MappingVersion) (x : EntityId) (page : KnownPage) : Type 0 where
  pub held : (record_of records x).held ≡ Some (record { revision = page.rev; content = page.bytes.now })
  pub by_version : version_at by_two x ≡ version
  pub has_entity : HasEntity x page

-- the bytes are the page of an item or a property too: what is kept of it are the triples that are kept of the old document in an older
-- revision, but for those that are gone and those that came
pub record AreChanged (version : MappingVersion) (x : EntityId) (old_rev rev : ℕ) (old : Entity) (bytes : Bytes) (texts : ChangedTexts) : Type 0 where
  pub new : Entity
  pub document : document_of x bytes ≡ Some (AnEntity new)
  pub counts_are : texts.counts ≡ counts_of new
  pub balance : Balance (kept_list version x rev new) texts.gone (kept_list version x old_rev old) texts.come
  pub within : IsWithin texts.gone (kept_list version x old_rev old)
  pub fit : AllByRecursion HasFitAndShortTerms texts.come

-- the texts are those of the parts that are gone, with the counts of the old document, and of those that came, with the counts of the new one
pub record AreTextsOfParts (version : MappingVersion) (x : EntityId) (old_rev rev : ℕ) (was : Counts) (changed : Changed) (texts : ChangedTexts) : Type 0 where
  pub after : AreAfter was (counts_of changed.gone) (counts_of changed.come) texts.counts
  pub gone : texts.gone ≡ counted_kept version x old_rev was changed.gone
  pub come : texts.come ≡ counted_kept version x rev texts.counts changed.come

-- the old document is that of the page that x holds, which is mapped by the version
pub record IsChangeOfHeld (records : Records) (by_two : List EntityId) (version : MappingVersion) (x : EntityId) (rev : ℕ) (bytes : Bytes) (texts : ChangedTexts) : Type 0 where
  pub before : Held Bytes
  pub held : (record_of records x).held ≡ Some before
  pub by_version : version_at by_two x ≡ version
  pub old : Entity
  pub document : document_of x before.content ≡ Some (AnEntity old)
  pub changed : AreChanged version x before.revision rev old bytes texts
