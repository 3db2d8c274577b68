use Rattle.std.proofs.Common.{rules}
use Rattle.rdf_term.specs.Text.{term_text}
use Rattle.term_pool.proofs.Fronts.{matches}
use Rattle.term_pool.proofs.matcher.is_text_of.Goals as goal

pub returns : goal.returns
returns c = let m = matches (term_text c.args.term.now) c.args.text.now in search rules
