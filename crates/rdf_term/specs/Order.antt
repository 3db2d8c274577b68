-- The order of terms and triples, by the bytes of their canonical texts.
use Rattle.std.specs.Prelude.{ℕ, List}
use Rattle.std.specs.declared.cmp.Ordering.{Ordering}
use Rattle.std.specs.Ordering.{nat_cmp, on, then_cmp}
use Rattle.std.specs.Cmp.{IsTotalOrder, on_total, then_total}
use Rattle.std.specs.Cmp.Lexicographic.{slice_cmp, nat_list_cmp_total}
use Rattle.rdf_term.specs.declared.term.Term.{Term}
use Rattle.rdf_term.specs.declared.triple.Triple.{Triple}
use Rattle.rdf_term.specs.Text.{term_text}

-- the first byte that differs decides, and the length if there is none
abbrev pub bytes_cmp : List ℕ → List ℕ → Ordering
bytes_cmp = slice_cmp nat_cmp

-- terms by their canonical texts
abbrev pub term_cmp : Term → Term → Ordering
term_cmp = on term_text bytes_cmp

-- triples by subject, then predicate, then object
abbrev pub triple_cmp : Triple → Triple → Ordering
triple_cmp = then_cmp (on (λ triple. triple.subject) term_cmp) (then_cmp (on (λ triple. triple.predicate) term_cmp) (on (λ triple. triple.object) term_cmp))

-- the order of terms is total
pub term_cmp-total : IsTotalOrder term_cmp
term_cmp-total = on_total term_text nat_list_cmp_total

-- the order of triples is total
pub triple_cmp-total : IsTotalOrder triple_cmp
triple_cmp-total =
    then_total (on_total (λ triple. triple.subject) term_cmp-total)
    (then_total (on_total (λ triple. triple.predicate) term_cmp-total) (on_total (λ triple. triple.object) term_cmp-total))
