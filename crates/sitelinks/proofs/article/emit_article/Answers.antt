use Rattle.sitelinks.proofs.Fit.{article_triples_fit}
use Rattle.sitelinks.proofs.article.emit_article.Goals as goal

pub returns-in_err-site-clause-fit : goal.returns-in_err-site-clause-fit
returns-in_err-site-clause-fit g c = article_triples_fit c.args.entity c.args.link.now

pub returns-in-Some-clause-fit : goal.returns-in-Some-clause-fit
returns-in-Some-clause-fit g c = article_triples_fit c.args.entity c.args.link.now
