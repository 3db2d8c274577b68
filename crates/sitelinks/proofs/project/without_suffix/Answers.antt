use Rattle.sitelinks.proofs.Suffixes.{stripped}
use Rattle.sitelinks.proofs.project.without_suffix.Goals as goal

pub returns : goal.returns
returns c = stripped c.args.suffix.now c.args.id.now c.strip_suffix.result c.strip_suffix.ensures.cases
