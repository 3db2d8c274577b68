-- What was met, and what is left.
use Rattle.std.proofs.Common.{◌++◌, ap, length, map as mapped, not, sym, ◌∙◌}
use Rattle.sorted_sets.specs.Rising.{has}
use Rattle.sorted_sets.proofs.Rising.{IsRising-sorted}
use Rattle.slot_keys.specs.Keys.{key_cmp, key_cmp-total}
use Rattle.slot_keys.specs.Marks.{marked}
use Rattle.slot_keys.proofs.Marked.{IsRising-marked}
use Rattle.slot_keys.proofs.Placing.{difference-gone, length-marked, marked-among}
use Rattle.slot_keys.proofs.Staying.{kept_there}
use Rattle.slot_keys.proofs.keeping.counted_beside.Goals as goal

pub laid_in_one-requires-clause-rising_others : goal.laid_in_one-requires-clause-rising_others
laid_in_one-requires-clause-rising_others c = rw c.as_slice-2.ensures.value c.in_ok-parted.ensures.rising

pub laid_in_one-requires-clause-apart : goal.laid_in_one-requires-clause-apart
laid_in_one-requires-clause-apart c key is = ap (has key_cmp key) c.as_slice-2.ensures.value ∙ c.in_ok-parted.ensures.apart key is

pub laid_in_one-requires-clause-as_many : goal.laid_in_one-requires-clause-as_many
laid_in_one-requires-clause-as_many c = ap length c.as_slice.ensures.value ∙ c.in_ok-parted.ensures.len

pub walk_beside-requires : goal.walk_beside-requires
walk_beside-requires c = rw (c.as_slice-3.ensures.value, c.in_ok-laid.ensures.keys) (IsRising-sorted key_cmp-total (marked c.args.left.keys.rising.now c.as_slice.result.now ++ c.as_slice-2.result.now))

pub returns-clause-keys : goal.returns-clause-keys
returns-clause-keys c = rw (c.as_slice.ensures.value, c.as_slice-2.ensures.value) at c.in_ok-laid.ensures.keys ∙ c.in_ok-parted.ensures.same

pub returns-clause-rising : goal.returns-clause-rising
returns-clause-rising c = rw c.in_ok-laid.ensures.gone (IsRising-marked key_cmp c.args.left.keys.rising.now _ c.requires.rising)

pub returns-clause-had : goal.returns-clause-had
returns-clause-had c key is = marked-among c.args.left.keys.rising.now (mapped not c.as_slice.result.now) key (sym (ap (has key_cmp key) c.in_ok-laid.ensures.gone) ∙ is)

pub returns-clause-few : goal.returns-clause-few
returns-clause-few c = rw c.in_ok-laid.ensures.gone (length-marked c.args.left.keys.rising.now _)

pub returns-clause-gone : goal.returns-clause-gone
returns-clause-gone c =
    let old = c.args.left.keys.rising.now in
    let stays = c.as_slice.result.now in
    rw c.in_ok-laid.ensures.gone (difference-gone old stays _ (ap length c.as_slice.ensures.value ∙ c.in_ok-parted.ensures.len) (kept_there old c.as_slice-2.result.now _ stays c.in_ok-laid.ensures.keys))
