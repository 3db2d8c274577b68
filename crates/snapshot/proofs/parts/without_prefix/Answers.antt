use Rattle.snapshot.proofs.PageParts.{prefixed}
use Rattle.snapshot.proofs.parts.without_prefix.Goals as goal

pub returns : goal.returns
returns c = prefixed c.args.prefix.now c.args.text.now c.strip_prefix.result c.strip_prefix.ensures.cases
