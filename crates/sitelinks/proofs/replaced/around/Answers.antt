-- By what stands round the first of the character.
use Rattle.sitelinks.proofs.Around.{replaced_around}
use Rattle.sitelinks.proofs.replaced.around.Goals as goal

pub returns : goal.returns
returns c = λ to. replaced_around c.args.from to c.requires c.args.text.now c.split_once.result c.split_once.ensures.cases
