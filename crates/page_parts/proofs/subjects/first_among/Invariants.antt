-- The subjects so far are others.
use Rattle.std.proofs.Common.{◌≡◌, false, take}
use Rattle.sorted_sets.specs.Rising.{has}
use Rattle.rdf_term.specs.Order.{bytes_cmp}
use Rattle.page_parts.specs.Row.{subject_texts}
use Rattle.page_parts.proofs.subjects.first_among.Given as goal

abbrev pub invariant-loop-index : goal.invariant-loop-index
invariant-loop-index l = has bytes_cmp l.text (subject_texts (take l.index l.subjects)) ≡ false
