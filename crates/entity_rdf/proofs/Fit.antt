-- The triples of a small document have fit and short terms.
use Rattle.std.proofs.Common.{ℕ, ◌++◌}
use Rattle.std.specs.List.{flat_map}
use Rattle.std.proofs.lemmas.List.Elements.{recursion_from_All}
use Rattle.sorted_sets.specs.Rising.{sorted}
use Rattle.rdf_term.specs.Fit.{HasFitAndShortTerms}
use Rattle.rdf_term.specs.Order.{triple_cmp}
use Rattle.entity_model.specs.declared.id.EntityId.{EntityId}
use Rattle.entity_model.specs.declared.entity.Entity.{Entity}
use Rattle.entity_model.specs.declared.document.Document.{Document}
use Rattle.entity_model.specs.declared.document.Document.TheVariants.{Entity as AnEntity, Redirect, Lexeme as ALexeme}
use Rattle.entity_model.specs.declared.mapping.MappingVersion.{MappingVersion}
use Rattle.entity_model.specs.Document.{IsSmall, IsSmallEntity, IsSmallLink}
use Rattle.rdf_vocabulary.specs.declared.predicate.Predicate.TheVariants as Say
use Rattle.rdf_vocabulary.specs.Prefix.{entity_term}
use Rattle.rdf_vocabulary.proofs.Fit.{AreFit, about_fit, join, join_all}
use Rattle.sitelinks.specs.Article.{article_triples}
use Rattle.sitelinks.proofs.Fit.{article_triples_fit}
use Rattle.munger.proofs.Fit.{sorted_each}
use Rattle.page_rdf.specs.Spoken.{spoken_triples}
use Rattle.page_rdf.proofs.Fit.{entity_fit}
use Rattle.page_rdf.proofs.SpokenFit.{spoken_fit}
use Rattle.statement_rdf.specs.Statements.{statements_triples}
use Rattle.statement_rdf.proofs.Fit.{statements_fit}
use Rattle.entity_rdf.proofs.LexemeFit.{lexdump_list_fit}
use Rattle.entity_rdf.specs.Dump.{dump}

articles_fit : (x : EntityId) (e : Entity) → IsSmallEntity e → AreFit (flat_map (article_triples x) e.links)
articles_fit x e small =
    join_all IsSmallLink (article_triples x) e.links (λ l is. article_triples_fit x l is) (recursion_from_All IsSmallLink e.links small.links)

-- the triples of a small document
list_fit : (version : MappingVersion) (x : EntityId) (rev : ℕ) (document : Document) → IsSmall document → AreFit (dump version x rev document)
list_fit version x rev (AnEntity e) small =
    let spoken = spoken_triples x rev e in
    let articles = flat_map (article_triples x) e.links in
    join (spoken ++ articles) (statements_triples version (entity_term x) e.statements)
    (join spoken articles (spoken_fit x rev e small) (articles_fit x e small))
    (statements_fit version (entity_term x) e.statements (entity_fit x) small.statements)
list_fit version x rev (ALexeme l) small = lexdump_list_fit version x rev l small
list_fit version x rev (Redirect y) small = (about_fit (entity_term x) Say.SameAs _ (entity_fit x) (entity_fit y), tt)

-- the set of a small document's triples
pub dump_fit : (version : MappingVersion) (x : EntityId) (rev : ℕ) (document : Document) → IsSmall document → AreFit (sorted triple_cmp (dump version x rev document))
dump_fit version x rev document small = sorted_each HasFitAndShortTerms triple_cmp (dump version x rev document) (list_fit version x rev document small)
