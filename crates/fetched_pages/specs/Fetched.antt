-- What a fetch brings: a document's bytes with the triples that they mean, or why there is no document.
use Rattle.std.specs.Prelude.{◌≡◌, ℕ, ◌≤◌, List, Option, None, Some, IfSome, Result, Ok, Err, ⊤, length}
use Rattle.std.specs.List.{AllByRecursion}
use Rattle.sorted_sets.specs.Rising.{has, sorted}
use Rattle.rdf_term.specs.{declared.triple.Triple.Triple, Fit.HasFitAndShortTerms, Order.triple_cmp}
use Rattle.entity_model.specs.{declared.id.EntityId.EntityId, declared.mapping.MappingVersion.MappingVersion}
use Rattle.entity_state.specs.{declared.entry.Cause.Cause, declared.entry.Cause.TheVariants.Failed}
use Rattle.entity_state.specs.declared.record.Held.{Held}
use Rattle.replay_model.specs.{Records.Bytes, Records.Records, Records.record_of, Versions.version_at}
use Rattle.page_parts.specs.Apart.{AreApart}
use Rattle.entity_json.specs.declared.fault.DocumentFault.{DocumentFault}
use Rattle.entity_json.specs.declared.fault.DocumentFault.TheVariants.{Unfit as NoDocument, OutOfMemory as DocumentOutOfMemory}
use Rattle.entity_json.specs.Document.{document_of, unfit_of}
use Rattle.fetched_pages.specs.{declared.comparing.ChangedPage.ChangedPage, declared.fetching.FetchedPage.FetchedPage}
use Rattle.fetched_pages.specs.declared.fetching.FetchedPage.TheVariants.{Whole, Changed, Parted, Differing}
use Rattle.fetched_pages.specs.{declared.fetching.Page.Page, declared.parting.DifferingPage.DifferingPage, declared.parting.PartedPage.PartedPage}
use Rattle.fetched_pages.specs.{Compared.IsChangeOfHeld, Listed.IsListed, Meaning.meaning, Parted.ArePartsIn}

-- the bytes of a page
abbrev pub bytes_of : FetchedPage → Bytes
bytes_of (Whole page) = page.bytes
bytes_of (Changed page) = page.bytes
bytes_of (Parted page) = page.bytes
bytes_of (Differing page) = page.bytes

-- the reply as the definitions of a replay speak of it
abbrev pub reply_of : Result FetchedPage Cause → Result Bytes Cause
reply_of (Ok page) = Ok (bytes_of page)
reply_of (Err cause) = Err cause

-- the same of a page that has all its triples
abbrev pub reply_of_whole : Result Page Cause → Result Bytes Cause
reply_of_whole (Ok page) = Ok page.bytes
reply_of_whole (Err cause) = Err cause

-- the same of a page that has all its triples in two parts
abbrev pub reply_of_parted : Result PartedPage Cause → Result Bytes Cause
reply_of_parted (Ok page) = Ok page.bytes
reply_of_parted (Err cause) = Err cause

-- the same, or any where no fetch was made
abbrev pub reply_or_any : Option (Result FetchedPage Cause) → Result Bytes Cause
reply_or_any None = Err Failed
reply_or_any (Some reply) = reply_of reply

-- the triples are those that the bytes of this revision of x mean by this version, though one may stand there twice; their
-- terms are fit and short, and the bytes fit a block of the region; where counts are told, the page is that of an item or a property that
-- has these
pub record IsPageOf (mapping : MappingVersion) (x : EntityId) (rev : ℕ) (page : Page) : Type 0 where
  pub meant : (t : Triple) → has triple_cmp t page.triples ≡ has triple_cmp t (meaning mapping x rev page.bytes)
  pub set : sorted triple_cmp page.triples ≡ meaning mapping x rev page.bytes
  pub fit : AllByRecursion HasFitAndShortTerms page.triples
  pub short : length page.bytes ≤ 33554432
  pub listed : IfSome page.counts (λ known. IsListed mapping x rev (document_of x page.bytes) known page.triples)

-- the page changes this of the one that x holds, which is mapped by this version; its bytes fit a block of the region
pub record IsChangedPage (records : Records) (by_two : List EntityId) (mapping : MappingVersion) (x : EntityId) (rev : ℕ) (page : ChangedPage) : Type 0 where
  pub change : IsChangeOfHeld records by_two mapping x rev page.bytes page.texts
  pub short : length page.bytes ≤ 33554432

-- the page has the parts of what it means; its bytes fit a block of the region
pub record IsPartedPage (mapping : MappingVersion) (x : EntityId) (rev : ℕ) (page : PartedPage) : Type 0 where
  pub parts : ArePartsIn mapping x rev page.bytes page.is_counted page.parts
  pub short : length page.bytes ≤ 33554432

-- x holds a page, which is mapped by this version, and it is known what that and the page that was fetched have of their own; its bytes fit a
-- block of the region
pub record IsDifferingPage (records : Records) (by_two : List EntityId) (mapping : MappingVersion) (x : EntityId) (rev : ℕ) (page : DifferingPage) : Type 0 where
  pub before : Held Bytes
  pub held : (record_of records x).held ≡ Some before
  pub by_version : version_at by_two x ≡ mapping
  pub apart : AreApart x page.is_counted (meaning mapping x before.revision before.content) (meaning mapping x rev page.bytes) page.difference
  pub short : length page.bytes ≤ 33554432

-- the page has all its triples, or those that it changes, or all of them in two parts, or what it and the held page have of their own
abbrev pub IsFetched : Records → List EntityId → MappingVersion → EntityId → ℕ → FetchedPage → Type 0
IsFetched records by_two mapping x rev (Whole page) = IsPageOf mapping x rev page
IsFetched records by_two mapping x rev (Changed page) = IsChangedPage records by_two mapping x rev page
IsFetched records by_two mapping x rev (Parted page) = IsPartedPage mapping x rev page
IsFetched records by_two mapping x rev (Differing page) = IsDifferingPage records by_two mapping x rev page

-- the same of a reply that has a page
abbrev pub IsMeant : Records → List EntityId → MappingVersion → EntityId → ℕ → Result FetchedPage Cause → Type 0
IsMeant records by_two mapping x rev (Ok page) = IsFetched records by_two mapping x rev page
IsMeant records by_two mapping x rev (Err cause) = ⊤

-- the same, where a fetch was made
abbrev pub AreMeant : Records → List EntityId → MappingVersion → EntityId → ℕ → Option (Result FetchedPage Cause) → Type 0
AreMeant records by_two mapping x rev None = ⊤
AreMeant records by_two mapping x rev (Some reply) = IsMeant records by_two mapping x rev reply

-- why the bytes are no document of x, unless memory was refused
abbrev pub IsWhy : EntityId → Bytes → DocumentFault → Type 0
IsWhy x bytes (NoDocument unfit) = unfit_of x bytes ≡ Some unfit
IsWhy x bytes DocumentOutOfMemory = ⊤
