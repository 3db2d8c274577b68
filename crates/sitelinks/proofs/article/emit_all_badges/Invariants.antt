-- The badges so far.
use Rattle.std.proofs.Common.{map, take}
use Rattle.triple_sink.specs.Gains.{Gains, KeepsFront}
use Rattle.triple_sink.specs.TermRef.{meant}
use Rattle.sitelinks.specs.Article.{badge_triple}
use Rattle.sitelinks.proofs.article.emit_all_badges.Given as goal

abbrev pub invariant-loop-badge : goal.invariant-loop-badge
invariant-loop-badge g l =
    Gains g.S.TripleSink.items g.S.TripleSink.keeps l.fn.out l.out (map (badge_triple (meant l.article.term)) (take l.badge-index l.badges))
    × KeepsFront g.S.TripleSink.items l.fn.out l.out
