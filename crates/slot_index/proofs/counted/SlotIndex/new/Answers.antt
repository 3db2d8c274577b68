use Rattle.std.proofs.Common.{[], ◌∙◌, sym, ap, subst}
use Rattle.slot_index.specs.Counts.{counts_of}
use Rattle.slot_index.specs.Counted.{IsCounted, with_more}
use Rattle.slot_index.proofs.More.{IsCounted-empty, with_more-empty}
use Rattle.slot_index.proofs.counted.SlotIndex.new.Goals as goal

pub invariant_of-result : goal.invariant_of-result
invariant_of-result c = subst (λ keys. IsCounted keys (counts_of c.new-2.result.entries)) (sym c.new.ensures) (subst (λ es. IsCounted [] (counts_of es)) (sym c.new-2.ensures.empty) IsCounted-empty)

pub returns : goal.returns
returns c = ap (λ keys. with_more keys (counts_of c.new-2.result.entries)) c.new.ensures ∙ with_more-empty (counts_of c.new-2.result.entries)
