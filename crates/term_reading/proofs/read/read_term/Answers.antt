use Rattle.term_reading.proofs.Reading.{reads_ok}
use Rattle.term_reading.proofs.ReadBack.{fit_ok, back_ok}
use Rattle.term_reading.proofs.read.read_term.Goals as goal

pub returns : goal.returns
returns c = record {
  written = reads_ok _ _ c.read.ensures;
  fit = fit_ok _ _ c.read.ensures;
  back = back_ok _ _ c.read.ensures;
}
