-- By what is read of a line.
use Rattle.session_laws.proofs.{FitLines.line_fits, FitRuns.input_fits}
use Rattle.session_laws.proofs.premises.delivered_lines_are_fit.Goals as goal

pub returns-clause-line : goal.returns-clause-line
returns-clause-line c = line_fits

pub returns-clause-input : goal.returns-clause-input
returns-clause-input c = input_fits
