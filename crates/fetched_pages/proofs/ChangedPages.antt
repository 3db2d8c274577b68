-- What a page changes of the one that its entity holds, by the parts that are gone and those that came.
use Rattle.std.proofs.Common.{◌≡◌, ℕ, List, Option, Some, None, Result, Ok, Err, is_some, true≢false, refl, sym, ◌∙◌, ap, subst}
use Rattle.std.specs.Prelude.{IfSome}
use Rattle.std.specs.List.{AllByRecursion}
use Rattle.sorted_sets.specs.Merging.{Balance, IsWithin}
use Rattle.rdf_term.specs.{declared.triple.Triple.Triple, Fit.HasFitAndShortTerms}
use Rattle.entity_documents.specs.{declared.changed.Changed.Changed, Changed.HasChanged}
use Rattle.entity_json.specs.Document.{document_by, document_of, document_or_cause, unfit_by, unfit_of}
use Rattle.entity_json.proofs.Fitness.{document_small}
use Rattle.entity_model.specs.{declared.document.Document.Document, declared.document.Document.TheVariants.Entity as AnEntity}
use Rattle.entity_model.specs.{declared.entity.Entity.Entity, declared.id.EntityId.EntityId, declared.mapping.MappingVersion.MappingVersion}
use Rattle.entity_model.specs.declared.unfit.Unfit.{Unfit}
use Rattle.page_rdf.specs.{declared.counts.Counts.Counts, Counted.AreAfter, Counted.counts_of}
use Rattle.entity_rdf.specs.{Changing.kept_list, Counted.counted_kept}
use Rattle.entity_rdf.proofs.{Balance.gone_part, Balance.kept_balance, Balance.part_within, Counting.counts_after, PartFit.come_fit}
use Rattle.replay_model.specs.Records.{Bytes, Records}
use Rattle.fetched_pages.specs.{declared.comparing.ChangedTexts.ChangedTexts, declared.comparing.KnownPage.KnownPage}
use Rattle.fetched_pages.specs.Compared.{AreChanged, AreTextsOfParts, HasEntity, IsChangeOfHeld, IsKnownPage}

module _ (version : MappingVersion) (x : EntityId) (old_rev rev : ℕ) (old : Entity) (bytes : Bytes) where
  pub changed_are : (was : Counts) (changed : Changed) (texts : ChangedTexts) → HasChanged x bytes old changed → was ≡ counts_of old
      → AreTextsOfParts version x old_rev rev was changed texts
      → AreChanged version x old_rev rev old bytes texts
  changed_are was changed texts h same parts =
      let counts : texts.counts ≡ counts_of h.new =
      counts_after old h.new changed.gone changed.come texts.counts h.changes
      (subst (λ (c : Counts). AreAfter c (counts_of changed.gone) (counts_of changed.come) texts.counts) same parts.after) in
      let gone_list : texts.gone ≡ counted_kept version x old_rev (counts_of old) changed.gone = parts.gone ∙ ap (λ (c : Counts). counted_kept version x old_rev c changed.gone) same in
      let come_list : texts.come ≡ counted_kept version x rev (counts_of h.new) changed.come = parts.come ∙ ap (λ (c : Counts). counted_kept version x rev c changed.come) counts in
      record {
        new = h.new;
        document = h.document;
        counts_are = counts;
        balance = subst (λ (ts : List Triple). Balance (kept_list version x rev h.new) ts (kept_list version x old_rev old) texts.come) (sym gone_list)
            (subst (λ (ts : List Triple). Balance (kept_list version x rev h.new) (counted_kept version x old_rev (counts_of old) changed.gone) (kept_list version x old_rev old) ts) (sym come_list)
            (kept_balance version x old_rev rev old h.new changed.gone changed.come h.changes));
        within = subst (λ (ts : List Triple). IsWithin ts (kept_list version x old_rev old)) (sym gone_list)
            (part_within version x old_rev changed.gone old (gone_part old h.new changed.gone changed.come h.changes));
        fit = subst (AllByRecursion HasFitAndShortTerms) (sym come_list)
            (come_fit version x rev old h.new changed.gone changed.come h.changes (document_small x bytes (AnEntity h.new) h.document));
      }

-- the same of the texts, if there are some
pub changes_told : (version : MappingVersion) (x : EntityId) (page : KnownPage) (rev : ℕ) (bytes : Bytes) (changed : Changed) (texts : Option ChangedTexts)
    → ((e : Entity) → document_of x page.bytes.now ≡ Some (AnEntity e) → HasChanged x bytes e changed)
    → IfSome texts (AreTextsOfParts version x page.rev rev page.counts changed)
    → IfSome texts (λ t. (old : Entity) → document_of x page.bytes.now ≡ Some (AnEntity old) → page.counts ≡ counts_of old → AreChanged version x page.rev rev old bytes t)
changes_told version x page rev bytes changed None h parts = tt
changes_told version x page rev bytes changed (Some texts) h parts =
    λ old document counts. changed_are version x page.rev rev old bytes page.counts changed texts (h old document) counts parts

-- bytes that are a document have no cause for which they are none
pub fits : (x : EntityId) (bytes : Bytes) (document : Document) → document_of x bytes ≡ Some document → unfit_of x bytes ≡ None
fits x bytes document is = by (document_or_cause x bytes) is
  where
    by : (outcome : Result Document Unfit) → document_by outcome ≡ Some document → unfit_by outcome ≡ None
    by (Ok found) e = refl
    by (Err unfit) e = absurd (true≢false (sym (ap is_some e)))

-- a known page has its document
pub known_has : (records : Records) (by_two : List EntityId) (version : MappingVersion) (x : EntityId) (known : Option KnownPage) → IfSome known (IsKnownPage records by_two version x) → IfSome known (HasEntity x)
known_has records by_two version x None h = tt
known_has records by_two version x (Some page) h = h.has_entity

-- the change of a known page
pub change_of : (records : Records) (by_two : List EntityId) (version : MappingVersion) (x : EntityId) (rev : ℕ) (page : KnownPage) (bytes : Bytes) (texts : ChangedTexts)
    → IsKnownPage records by_two version x page
    → ((old : Entity) → document_of x page.bytes.now ≡ Some (AnEntity old) → page.counts ≡ counts_of old → AreChanged version x page.rev rev old bytes texts)
    → IsChangeOfHeld records by_two version x rev bytes texts
change_of records by_two version x rev page bytes texts known changes = record {
  before = record { revision = page.rev; content = page.bytes.now };
  held = known.held;
  by_version = known.by_version;
  old = known.has_entity.entity;
  document = known.has_entity.document;
  changed = changes known.has_entity.entity known.has_entity.document known.has_entity.counts_are;
}

module _ (version : MappingVersion) (x : EntityId) (rev : ℕ) (page : KnownPage) (bytes : Bytes) where
  -- what a comparison with the page tells
  abbrev pub TellsChange : ChangedTexts → Type 0
  TellsChange texts = (old : Entity) → document_of x page.bytes.now ≡ Some (AnEntity old) → page.counts ≡ counts_of old → AreChanged version x page.rev rev old bytes texts

  -- the bytes are a document then
  pub compared_fits : (compared : Option ChangedTexts) → HasEntity x page → IfSome compared TellsChange → IfSome compared (λ _. unfit_of x bytes ≡ None)
  compared_fits None has tells = tt
  compared_fits (Some texts) has tells =
      let changed : AreChanged version x page.rev rev has.entity bytes texts = tells has.entity has.document has.counts_are in
      fits x bytes (AnEntity changed.new) changed.document

  -- and this is what they change of the page, if it is held
  pub compared_changes : (records : Records) (by_two : List EntityId) (compared : Option ChangedTexts) → IsKnownPage records by_two version x page → IfSome compared TellsChange
      → IfSome compared (IsChangeOfHeld records by_two version x rev bytes)
  compared_changes records by_two None known tells = tt
  compared_changes records by_two (Some texts) known tells = change_of records by_two version x rev page bytes texts known tells
