-- Each turn of the loop is a step of the merge, and where it ends one list has ended.
use Rattle.std.proofs.Common.{◌∙◌, sym}
use Rattle.rdf_term.specs.Order.{triple_cmp, triple_cmp-total}
use Rattle.triple_patch.proofs.Merging.{merge_lower, merge_higher, merge_tied, merge_ends_left, merge_ends_right}
use Rattle.triple_patch.proofs.merge.differences.Goals as goal

pub loop-x-preserved-in-Less : goal.loop-x-preserved-in-Less
loop-x-preserved-in-Less c =
    rw c.in_ok-push-in-Less.ensures.ok (rw c.in_ok-copy-in-Less.ensures (merge_lower triple_cmp-total _ _ _ _ _ _ _ _
    c.in-Some.ensures.cases.0 c.in-Some-split_first.ensures.cases.0 (sym c.cmp.ensures ∙ c.in-Less.is) c.loop-x.invariant))

pub loop-x-preserved-in-Equal : goal.loop-x-preserved-in-Equal
loop-x-preserved-in-Equal c =
    merge_tied triple_cmp-total _ _ _ _ _ _ _ _
    c.in-Some.ensures.cases.0 c.in-Some-split_first.ensures.cases.0 (sym c.cmp.ensures ∙ c.in-Equal.is) c.loop-x.invariant

pub loop-x-preserved : goal.loop-x-preserved
loop-x-preserved c =
    rw c.in_ok-push-in-Greater.ensures.ok (rw c.in_ok-copy-in-Greater.ensures (merge_higher triple_cmp-total _ _ _ _ _ _ _ _
    c.in-Some.ensures.cases.0 c.in-Some-split_first.ensures.cases.0 (sym c.cmp.ensures ∙ c.in-Greater.is) c.loop-x.invariant))

pub returns-in_default-split_first-clause-adds : goal.returns-in_default-split_first-clause-adds
returns-in_default-split_first-clause-adds c = sym (merge_ends_right triple_cmp _ _ _ _ c.loop-x.invariant c.in_default-split_first.ensures.cases).1

pub returns-in_default-split_first-clause-removes : goal.returns-in_default-split_first-clause-removes
returns-in_default-split_first-clause-removes c = c.in_ok-append_copies.ensures ∙ sym (merge_ends_right triple_cmp _ _ _ _ c.loop-x.invariant c.in_default-split_first.ensures.cases).0

pub returns-clause-adds : goal.returns-clause-adds
returns-clause-adds c = c.in_ok-append_copies-2.ensures ∙ sym (merge_ends_left triple_cmp _ _ _ _ c.loop-x.invariant c.in_default.ensures.cases).1

pub returns-clause-removes : goal.returns-clause-removes
returns-clause-removes c = sym (merge_ends_left triple_cmp _ _ _ _ c.loop-x.invariant c.in_default.ensures.cases).0
