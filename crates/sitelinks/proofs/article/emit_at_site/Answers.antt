-- The head, the name, the badges and the group, one after the other.
use Rattle.std.proofs.Common.{◌≡◌, [], ◌∷◌, ◌++◌, map, ap, ◌∙◌}
use Rattle.std.proofs.lemmas.Result.{on_ok_weaker}
use Rattle.rdf_term.specs.declared.term.Term.TheVariants.{Iri}
use Rattle.rdf_term.specs.Grammar.{tagged_of}
use Rattle.rdf_vocabulary.specs.declared.predicate.Predicate.TheVariants.{Name}
use Rattle.rdf_vocabulary.specs.Predicate.{about}
use Rattle.triple_sink.proofs.Gained.{gains_then}
use Rattle.sitelinks.specs.Article.{article_head_triples, article_iri, badge_triple, group_triple}
use Rattle.sitelinks.proofs.article.emit_at_site.Goals as goal

pub returns-clause-gains : goal.returns-clause-gains
returns-clause-gains g c =
    let s = g.S.TripleSink in
    let site = c.args.site.now in
    let link = c.args.link.now in
    let article = Iri (article_iri site link.title) in
    let is : c.as_str-2.result.now ≡ article_iri site link.title = c.as_str-2.ensures.value ∙ c.in_ok-iri.ensures ∙ ap (article_iri site) c.as_str.ensures in
    let head = article_head_triples article c.args.entity site in
    let name = about article Name (tagged_of link.title site.language) ∷ [] in
    let badges = map (badge_triple article) link.badges in
    let two = gains_then s.items s.keeps c.args.out.now c.emit_head.new.out c.emit_name.new.out head name
    (rw is at c.in_ok-emit_head.ensures.gains) (rw (is, c.as_str-3.ensures) at c.in_ok-emit_name.ensures.gains) in
    let three = gains_then s.items s.keeps c.args.out.now c.emit_name.new.out c.emit_badges.new.out (head ++ name) badges
    two (rw (is, c.as_slice.ensures) at c.in_ok-emit_badges.ensures.gains) in
    on_ok_weaker c.emit_group.result
    (λ h. gains_then s.items s.keeps c.args.out.now c.emit_badges.new.out c.emit_group.new.out ((head ++ name) ++ badges) (group_triple site ∷ []) three h)
    c.emit_group.ensures.gains
