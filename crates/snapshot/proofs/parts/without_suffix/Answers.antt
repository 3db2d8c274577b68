use Rattle.snapshot.proofs.PageParts.{suffixed}
use Rattle.snapshot.proofs.parts.without_suffix.Goals as goal

pub returns : goal.returns
returns c = suffixed c.args.suffix.now c.args.text.now c.strip_suffix.result c.strip_suffix.ensures.cases
