-- What was met, and what is left, by marks.
use Rattle.std.proofs.Common.{◌++◌, ap, length, ◌∙◌}
use Rattle.std.proofs.lemmas.List.{length-map}
use Rattle.sorted_sets.specs.Rising.{has, sorted}
use Rattle.sorted_sets.proofs.Rising.{IsRising-sorted, has-sorted}
use Rattle.slot_keys.specs.Keys.{key_cmp, key_cmp-total}
use Rattle.slot_keys.specs.KeyCounts.{counted_keys}
use Rattle.slot_keys.proofs.Staying.{beside_sorted}
use Rattle.slot_keys.proofs.keeping.parted_beside.Goals as goal

pub split_beside-requires-clause-as_many : goal.split_beside-requires-clause-as_many
split_beside-requires-clause-as_many c = ap length c.in_ok-marks.ensures ∙ length-map c.args.left.counts.now _ ∙ c.requires.as_many

pub returns-clause-rising : goal.returns-clause-rising
returns-clause-rising c = rw c.in_ok-put_in_order.ensures (IsRising-sorted key_cmp-total c.in_ok-parted.parted.rest.items)

pub returns-clause-same : goal.returns-clause-same
returns-clause-same c =
    let old = c.args.left.keys.rising.now in
    beside_sorted old c.as_slice.result.now c.in_ok-parted.parted.rest.items _ c.in_ok-parted.parted.kept.items c.in_ok-marks.marks.items c.args.left.counts.now c.in_ok-marks.ensures c.in_ok-parted.ensures.same c.in_ok-put_in_order.ensures
    ∙ ap (λ ks. sorted key_cmp (ks ++ counted_keys old c.args.left.counts.now)) c.as_slice.ensures.value

pub returns-clause-apart : goal.returns-clause-apart
returns-clause-apart c key is = ap (has key_cmp key) c.in_ok-put_in_order.ensures ∙ has-sorted key_cmp-total key c.in_ok-parted.parted.rest.items ∙ c.in_ok-parted.ensures.apart key is
