-- What was there is there, and the subjects so far.
use Rattle.std.proofs.Common.{◌≡◌, ℕ, true, List}
use Rattle.sorted_sets.specs.Rising.{has}
use Rattle.rdf_term.specs.Order.{bytes_cmp}
use Rattle.page_parts.specs.Row.{subject_texts}
use Rattle.page_parts.specs.Rows.{HaveSubjects}
use Rattle.page_parts.proofs.subjects.push_subjects.Given as goal

abbrev pub invariant-loop-index : goal.invariant-loop-index
invariant-loop-index l = record {
  kept : (text : List ℕ) → has bytes_cmp text (subject_texts l.fn.subjects.items) ≡ true → has bytes_cmp text (subject_texts l.subjects.items) ≡ true;
  all : HaveSubjects (subject_texts l.subjects.items) l.texts l.index;
}
