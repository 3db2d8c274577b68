use Rattle.std.proofs.Common.{◌≡◌, ◌++◌, length, string_bytes}
use Rattle.std.specs.Str.Iter.{chars_rest}
use Rattle.rdf_term.specs.Grammar.{percent_encoded}
use Rattle.rdf_term.proofs.percent.iri.Given as goal

abbrev pub invariant-loop-c : goal.invariant-loop-c
invariant-loop-c l = string_bytes l.encoded ++ percent_encoded (chars_rest l.left) ≡ percent_encoded l.fn.text

abbrev pub decreases-loop-c : goal.decreases-loop-c
decreases-loop-c l = length (chars_rest l.left)
