-- The comparison is the order of the texts.
use Rattle.std.proofs.Common.{rules, is_lt}
use Rattle.std.specs.Cmp.Lexicographic.{nat_list_cmp_total}
use Rattle.std.proofs.{lemmas.List.Sorted.ranks_by, lemmas.Fn.always_returns_same}
use Rattle.page_parts.specs.declared.subjects.SubjectText.{SubjectText}
use Rattle.page_parts.specs.Row.{subject_cmp}
use Rattle.page_parts.proofs.subjects.sort_subjects.Goals as goal

pub returns-clause-sorted : goal.returns-clause-sorted
returns-clause-sorted c =
    c.sort_unstable_by.ensures.sorted (λ a b. is_lt (subject_cmp a b)) (ranks_by nat_list_cmp_total (λ (subject : SubjectText). subject.text.now)) (always_returns_same _ _ _ (λ a r f k. search rules))
