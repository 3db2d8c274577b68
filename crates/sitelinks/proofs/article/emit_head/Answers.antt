-- What the article is, its entity, its language and its site, one after the other.
use Rattle.std.proofs.Common.{[], ◌∷◌, ◌++◌}
use Rattle.std.proofs.lemmas.Result.{on_ok_weaker}
use Rattle.rdf_term.specs.declared.term.Term.TheVariants.{Iri, Plain}
use Rattle.rdf_vocabulary.specs.declared.predicate.Predicate.TheVariants.{About, InLanguage, IsPartOf}
use Rattle.rdf_vocabulary.specs.declared.resource.Resource.TheVariants.{Article}
use Rattle.rdf_vocabulary.specs.Predicate.{about}
use Rattle.rdf_vocabulary.specs.Prefix.{entity_term}
use Rattle.rdf_vocabulary.specs.Resource.{class_triple}
use Rattle.triple_sink.specs.TermRef.{meant}
use Rattle.triple_sink.proofs.Gained.{gains_then}
use Rattle.sitelinks.proofs.article.emit_head.Goals as goal

pub returns-clause-gains : goal.returns-clause-gains
returns-clause-gains g c =
    let s = g.S.TripleSink in
    let article = meant c.args.article.now in
    let site = c.args.site.now in
    let class = class_triple article Article ∷ [] in
    let entity = about article About (entity_term c.args.entity) ∷ [] in
    let language = about article InLanguage (Plain site.language) ∷ [] in
    let base = about article IsPartOf (Iri site.base) ∷ [] in
    let two = gains_then s.items s.keeps c.args.out.now c.emit_class.new.out c.emit_about.new.out class entity
    c.in_ok-emit_class.ensures.gains c.in_ok-emit_about.ensures.gains in
    let three = gains_then s.items s.keeps c.args.out.now c.emit_about.new.out c.emit_about-2.new.out (class ++ entity) language two
    (rw c.as_str.ensures at c.in_ok-emit_about-2.ensures.gains) in
    on_ok_weaker c.emit_about-3.result
    (λ h. gains_then s.items s.keeps c.args.out.now c.emit_about-2.new.out c.emit_about-3.new.out (class ++ entity ++ language) base three h)
    (rw c.as_str-2.ensures at c.emit_about-3.ensures.gains)
