use Rattle.std.proofs.Common.{◌<◌, true, length, ap, ◌∙◌, arith}
use Rattle.std.proofs.lemmas.List.{take_all}
use Rattle.std.proofs.lemmas.Option.{slice_get_within}
use Rattle.sorted_sets.specs.Rising.{has}
use Rattle.slot_keys.specs.Keys.{key_cmp}
use Rattle.slot_keys.proofs.Marked.{fresh_marks, more_kept, more_rest, none_met, set_long}
use Rattle.slot_keys.proofs.keys.split.Goals as goal
use Rattle.slot_keys.proofs.keys.split.Goals.{in-Some, in-None+in_ok-push-in-None}

pub loop-index-init : goal.loop-index-init
loop-index-init c = record {
  len = omega (arith, c.in_ok-resize.ensures.len);
  same = λ key. none_met key_cmp key _ _ (fresh_marks c.args.old.now _ _ _ _ c.new-kept.ensures.items c.in_ok-resize.ensures.items) c.new-rest.ensures.items;
}

pub index_mut-requires : goal.index_mut-requires
index_mut-requires c =
    let low : c.in-Some.old_index < length c.args.old.now = slice_get_within c.args.old.now c.in-Some.old_index _ c.in-Some.ensures in
    omega (arith, low, c.loop-index.invariant.len)

pub loop-index-preserved : goal.loop-index-preserved
loop-index-preserved c =
    elim c.match-old_index_of.branch [
      | in-Some w ↦ rw (w.kept-is, w.rest-is) (record {
        len = set_long c.loop-index.kept.items w.in-Some.old_index true ∙ c.loop-index.invariant.len;
        same = more_kept key_cmp c.args.old.now c.args.met.now c.loop-index.kept.items c.loop-index.rest.items c.loop-index.index _ c.loop-index-test.true c.loop-index.invariant.same w.in-Some.old_index c.loop-index.invariant.len w.in-Some.ensures;
      })
      | in-None+in_ok-push-in-None w ↦ rw (w.kept-is, w.rest-is) (record {
        len = c.loop-index.invariant.len;
        same = rw w.in_ok-push-in-None.ensures.items (more_rest key_cmp c.args.old.now c.args.met.now c.loop-index.kept.items c.loop-index.rest.items c.loop-index.index _ c.loop-index-test.true c.loop-index.invariant.same);
      })
    ]

pub returns-clause-same : goal.returns-clause-same
returns-clause-same c key = c.loop-index.invariant.same key ∙ ap (has key_cmp key) (take_all c.loop-index.index c.args.met.now (omega (arith, c.loop-index-test.false)))
