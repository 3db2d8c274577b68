-- What the halves that were left out have is lower, or greater.
use Rattle.std.proofs.Common.{◌-◌, ◌≤◌, length}
use Rattle.rdf_term.specs.declared.triple.Triple.{Triple}
use Rattle.triple_texts.specs.Texts.{IsTextOf}
use Rattle.replica.proofs.ByTexts.{IsBetween}
use Rattle.replica.proofs.reader.has_triple.Given as goal

abbrev pub invariant-loop-low : goal.invariant-loop-low
invariant-loop-low l = (l.low ≤ l.high) × (l.high ≤ length l.triples) × ((triple : Triple) → IsTextOf l.texts triple → IsBetween l.triples triple l.low l.high)

abbrev pub decreases-loop-low : goal.decreases-loop-low
decreases-loop-low l = l.high - l.low
