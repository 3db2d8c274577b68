-- The triples of the articles so far.
use Rattle.std.proofs.Common.{take}
use Rattle.std.specs.List.{flat_map}
use Rattle.triple_sink.specs.Gains.{Gains, KeepsFront}
use Rattle.sitelinks.specs.Article.{article_triples}
use Rattle.entity_rdf.proofs.walk.emit_articles.Given as goal

abbrev pub invariant-loop-link : goal.invariant-loop-link
invariant-loop-link g l =
    Gains g.S.TripleSink.items g.S.TripleSink.keeps l.fn.out l.out (flat_map (article_triples l.id) (take l.link-index l.links))
    × KeepsFront g.S.TripleSink.items l.fn.out l.out
