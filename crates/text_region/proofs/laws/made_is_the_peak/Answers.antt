use Rattle.text_region.proofs.Peaks.{made_peak}
use Rattle.text_region.proofs.laws.made_is_the_peak.Goals as goal

pub returns : goal.returns
returns c = made_peak
