-- The three parts of a page, one after the other.
use Rattle.std.proofs.Common.{◌++◌}
use Rattle.std.specs.List.{flat_map}
use Rattle.std.proofs.lemmas.Result.{on_ok_weaker}
use Rattle.triple_sink.proofs.Gained.{gains_then}
use Rattle.sitelinks.specs.Article.{article_triples}
use Rattle.page_rdf.specs.Spoken.{counted_spoken}
use Rattle.statement_rdf.specs.Statements.{statements_triples}
use Rattle.rdf_vocabulary.specs.Prefix.{entity_term}
use Rattle.entity_rdf.proofs.walk.emit_entity.Goals as goal

pub returns-clause-gains : goal.returns-clause-gains
returns-clause-gains g c =
    let s = g.S.TripleSink in
    let entity = c.args.counted.entity.now in
    let spoken = counted_spoken c.args.id c.args.counted.rev c.args.counted.counts entity in
    let articles = flat_map (article_triples c.args.id) entity.links in
    let statements = statements_triples c.args.setting.version (entity_term c.args.id) entity.statements in
    let two = gains_then s.items s.keeps c.args.out.now c.emit_spoken.new.out c.emit_articles.new.out spoken articles
    c.in_ok-emit_spoken.ensures.gains (rw c.as_slice.ensures at c.in_ok-emit_articles.ensures.gains) in
    on_ok_weaker c.emit_statements.result
    (λ h. gains_then s.items s.keeps c.args.out.now c.emit_articles.new.out c.emit_statements.new.out (spoken ++ articles) statements two h)
    c.emit_statements.ensures.gains
