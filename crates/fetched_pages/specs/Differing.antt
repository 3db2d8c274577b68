-- What two pages of an entity have of their own, by the parts that are gone and those that came.
use Rattle.std.specs.Prelude.{◌≡◌, ℕ, Bool, List, [], None, Some, filter, not}
use Rattle.std.specs.List.{flat_map}
use Rattle.rdf_term.specs.declared.triple.Triple.{Triple}
use Rattle.entity_documents.specs.declared.changed.Changed.{Changed}
use Rattle.entity_json.specs.Document.{unfit_of}
use Rattle.entity_model.specs.{declared.document.Document.Document, declared.entity.Entity.Entity}
use Rattle.entity_model.specs.{declared.id.EntityId.EntityId, declared.mapping.MappingVersion.MappingVersion}
use Rattle.munger.specs.Munging.{munged}
use Rattle.page_rdf.specs.{declared.counts.Counted.Counted, Counted.AreAfter, Counted.counts_of}
use Rattle.entity_rdf.specs.{Counted.counted_kept, Dump.dump}
use Rattle.replay_model.specs.{Records.Bytes, Records.Records, Records.record_of, Versions.version_at}
use Rattle.page_parts.specs.declared.difference.PageDifference.{PageDifference}
use Rattle.page_parts.specs.{Apart.AreApart, InOne.has_more, InOne.in_one, Parts.AreSplit, Parts.PartsState}
use Rattle.fetched_pages.specs.declared.apart.Sides.{Sides}
use Rattle.fetched_pages.specs.declared.apart.Told.{Told}
use Rattle.fetched_pages.specs.declared.apart.Told.TheVariants.{Apart, Parts}
use Rattle.fetched_pages.specs.declared.fetching.HeldPage.{HeldPage}
use Rattle.fetched_pages.specs.{Meaning.meaning, Parted.ArePartsIn}

-- x holds this page, which is mapped by the version and is some document of x
pub record IsHeldPage (records : Records) (by_two : List EntityId) (version : MappingVersion) (x : EntityId) (page : HeldPage) : Type 0 where
  pub held : (record_of records x).held ≡ Some (record { revision = page.rev; content = page.bytes.now })
  pub by_version : version_at by_two x ≡ version
  pub fit : unfit_of x page.bytes.now ≡ None

-- what is kept of a part, with the counts of its page
abbrev pub part_list : MappingVersion → EntityId → Counted → List Triple
part_list version x part = counted_kept version x part.rev part.counts part.entity.now

-- what is kept of a document, as a list
abbrev pub kept_of : MappingVersion → EntityId → ℕ → Document → List Triple
kept_of version x rev document = flat_map (munged x) (dump version x rev document)

-- the parts of two pages: the new one has its counts, and the old one those that change into them
pub record AreSides (new : Entity) (changed : Changed) (old_rev rev : ℕ) (sides : Sides) : Type 0 where
  pub gone : sides.gone.entity.now ≡ changed.gone
  pub come : sides.come.entity.now ≡ changed.come
  pub old_rev_is : sides.gone.rev ≡ old_rev
  pub rev_is : sides.come.rev ≡ rev
  pub counts_are : sides.come.counts ≡ counts_of new
  pub counts_before : AreAfter sides.come.counts (counts_of changed.come) (counts_of changed.gone) sides.gone.counts

-- whether a triple stays: of those that pass the test, the new page has it more often than the part that came, so that the rest has it too
abbrev pub stays_by : MappingVersion → EntityId → Document → Sides → (Triple → Bool) → Triple → Bool
stays_by version x document sides test =
    has_more (filter test (kept_of version x sides.come.rev document)) (filter test (part_list version x sides.come))

-- the same, where the test is that only one of the parts says it
abbrev pub stays : MappingVersion → EntityId → Document → Sides → Triple → Bool
stays version x document sides = stays_by version x document sides (in_one (part_list version x sides.gone) (part_list version x sides.come))

-- what is kept of a part but for what is left out, in two parts, with nothing that belongs to another entity
pub record IsPart (version : MappingVersion) (x : EntityId) (part : Counted) (is_counted : Bool) (is_out : Triple → Bool) (parts : PartsState) : Type 0 where
  pub all_are : parts.all ≡ filter (λ t. not (is_out t)) (part_list version x part)
  pub split : AreSplit x is_counted parts.all parts.own parts.shared []

-- the same of both sides
pub record IsDifference (version : MappingVersion) (x : EntityId) (sides : Sides) (is_out : Triple → Bool) (d : PageDifference) : Type 0 where
  pub gone : IsPart version x sides.gone sides.is_counted is_out d.gone
  pub come : IsPart version x sides.come sides.is_counted is_out d.come

-- what is told of a page: what it and the held page have of their own, if that is a document of x, or all its triples
abbrev pub IsTold : MappingVersion → EntityId → ℕ → Bytes → HeldPage → Bool → Told → Type 0
IsTold version x rev bytes held is_counted (Apart difference) = unfit_of x held.bytes.now ≡ None → AreApart x is_counted (meaning version x held.rev held.bytes.now) (meaning version x rev bytes) difference
IsTold version x rev bytes held is_counted (Parts parts) = ArePartsIn version x rev bytes is_counted parts
