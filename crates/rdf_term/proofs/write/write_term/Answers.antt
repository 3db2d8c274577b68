use Rattle.rdf_term.proofs.Texts.{same_text}
use Rattle.rdf_term.proofs.write.write_term.Goals as goal

pub returns-in-Ok-clause-only : goal.returns-in-Ok-clause-only
returns-in-Ok-clause-only c = λ other e. same_text _ _ e

pub returns-in-Err-clause-only : goal.returns-in-Err-clause-only
returns-in-Err-clause-only c = λ other e. same_text _ _ e
