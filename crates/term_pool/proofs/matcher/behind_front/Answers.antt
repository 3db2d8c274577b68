use Rattle.term_pool.proofs.Fronts.{strips}
use Rattle.term_pool.proofs.matcher.behind_front.Goals as goal

pub returns : goal.returns
returns c = strips c.args.bytes.now c.args.text.now _ c.strip_prefix.ensures.cases
