-- The labels of the dump's blank nodes are short, rule by rule: the only ones are those of unknown values, hashes of 32 digits.
use Rattle.std.proofs.Common.{ℕ, List, [], ◌∷◌, ◌++◌, map, Option, Some, None, refl}
use Rattle.sorted_sets.specs.Rising.{sorted}
use Rattle.rdf_term.specs.declared.term.Term.TheVariants.{Iri}
use Rattle.rdf_term.specs.declared.triple.Triple.{Triple}
use Rattle.rdf_term.specs.Grammar.{is_word}
use Rattle.rdf_term.specs.Order.{triple_cmp}
use Rattle.entity_model.specs.declared.id.EntityId.{EntityId}
use Rattle.entity_model.specs.declared.value.Value.TheVariants as Values
use Rattle.entity_model.specs.declared.entity.Entity.{Entity}
use Rattle.entity_model.specs.declared.entity.Link.{Link}
use Rattle.entity_model.specs.declared.document.Document.{Document}
use Rattle.entity_model.specs.declared.document.Document.TheVariants.{Entity as AnEntity, Redirect, Lexeme as ALexeme}
use Rattle.entity_model.specs.declared.mapping.MappingVersion.{MappingVersion}
use Rattle.rdf_vocabulary.specs.Prefix.{entity_term}
use Rattle.rdf_vocabulary.proofs.Shared.{append_each, chosen}
use Rattle.sitelinks.specs.declared.sites.Site.{Site}
use Rattle.sitelinks.specs.Article.{article_iri, badge_triple, found_triples, group_triple}
use Rattle.sitelinks.specs.Site.{site_of}
use Rattle.munger.specs.Short.{HasShortLabels}
use Rattle.munger.proofs.Fit.{sorted_each}
use Rattle.entity_rdf.specs.Dump.{dump}
use Rattle.entity_rdf.specs.Gives.{Gives, EntityGives, class, label, preferred_label, name, description, alternative_label, dataset, dataset_about, license, format, revision, statement_count, identifier_count, link_count, modified, property_type, value_predicate, other_predicate, article, statement}
use Rattle.page_rdf.specs.Property.{is_datatype_char, other_predicates, type_triples, value_predicates}
use Rattle.statement_rdf.proofs.Each.{of_each_member, of_member}
use Rattle.statement_rdf.proofs.Labels.{AreShort, said, statement_short, tagged_short}
use Rattle.entity_rdf.proofs.LexemeLabels.{lexeme_short}
use Rattle.entity_rdf.proofs.Given.{dump_rules}

-- a link's triples
badges_short : (iri : List ℕ) (badges : List EntityId) → AreShort (map (badge_triple (Iri iri)) badges)
badges_short iri [] = tt
badges_short iri (badge ∷ badges) = (search, badges_short iri badges)

link_short : (x : EntityId) (link : Link) (site : Option Site) → AreShort (found_triples x link site)
link_short x link None = tt
link_short x link (Some site) =
    let badges = map (badge_triple (Iri (article_iri site link.title))) link.badges in
    let group = group_triple site ∷ [] in
    let last : AreShort (badges ++ group) = append_each HasShortLabels badges group (badges_short _ link.badges) (search) in
    search tagged_short parts 12

module _ (t : Triple) where
  module _ (version : MappingVersion) (x : EntityId) where
    entity_short : (rev : ℕ) (e : Entity) → EntityGives version x rev e t → HasShortLabels t
    entity_short rev e (class is) = said t is refl
    entity_short rev e (label l among is) = said t is (tagged_short l.text l.language)
    entity_short rev e (preferred_label l among is) = said t is (tagged_short l.text l.language)
    entity_short rev e (name l among is) = said t is (tagged_short l.text l.language)
    entity_short rev e (description d among is) = said t is (tagged_short d.text d.language)
    entity_short rev e (alternative_label a among is) = said t is (tagged_short a.text a.language)
    entity_short rev e (dataset is) = said t is refl
    entity_short rev e (dataset_about is) = said t is refl
    entity_short rev e (license is) = said t is refl
    entity_short rev e (format is) = said t is refl
    entity_short rev e (revision is) = said t is refl
    entity_short rev e (statement_count is) = said t is refl
    entity_short rev e (identifier_count is) = said t is refl
    entity_short rev e (link_count kind is) = said t is refl
    entity_short rev e (modified time found is) = said t is refl
    entity_short rev e (property_type datatype kind found among) =
        of_member HasShortLabels (type_triples (entity_term x) datatype) t (chosen AreShort (is_word is_datatype_char datatype) _ [] (search) tt) among
    entity_short rev e (value_predicate kind among) = of_member HasShortLabels (value_predicates x) t (search parts 12) among
    entity_short rev e (other_predicate kind among) = of_member HasShortLabels (other_predicates x) t (search parts 12) among
    entity_short rev e (article l found among) = of_member HasShortLabels (found_triples x l (site_of l.site)) t (link_short x l (site_of l.site)) among
    entity_short rev e (statement s found gives) = statement_short t version _ s _ gives

    document_short : (rev : ℕ) (document : Document) → Gives version x rev document t → HasShortLabels t
    document_short rev (AnEntity e) gives = entity_short rev e gives
    document_short rev (Redirect y) is = said t is refl
    document_short rev (ALexeme l) gives = lexeme_short t version x rev l gives

-- the set of a document's triples
pub dump_labels : (version : MappingVersion) (x : EntityId) (rev : ℕ) (document : Document) → AreShort (sorted triple_cmp (dump version x rev document))
dump_labels version x rev document =
    let triples = dump version x rev document in
    sorted_each HasShortLabels triple_cmp triples
    (of_each_member HasShortLabels triples (λ t there. document_short t version x rev document ((dump_rules version x rev document t).0 there)))
