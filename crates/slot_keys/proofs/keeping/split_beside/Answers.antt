use Rattle.std.proofs.Common.{◌<◌, ◌++◌, true, length, ap, ◌∙◌, arith}
use Rattle.std.proofs.lemmas.List.{take_all}
use Rattle.std.proofs.lemmas.Option.{slice_get_within}
use Rattle.sorted_sets.specs.Rising.{has}
use Rattle.slot_keys.specs.Keys.{key_cmp}
use Rattle.slot_keys.specs.Marks.{marked}
use Rattle.slot_keys.proofs.Marked.{set_long}
use Rattle.slot_keys.proofs.Staying.{apart_more, beside_kept, beside_none_met, beside_rest, nothing_apart}
use Rattle.slot_keys.proofs.keeping.split_beside.Goals as goal
use Rattle.slot_keys.proofs.keeping.split_beside.Goals.{in-Some, in-None+in_ok-put_last-in-None}

pub loop-index-init : goal.loop-index-init
loop-index-init c = record {
  len = c.requires.as_many;
  same = beside_none_met c.args.old.now c.args.met.now c.args.marks.items _ c.in_ok-rest.ensures.items;
  apart = nothing_apart c.args.old.now _ c.in_ok-rest.ensures.items;
}

pub index_mut-requires : goal.index_mut-requires
index_mut-requires c =
    let low : c.in-Some.old_index < length c.args.old.now = slice_get_within c.args.old.now c.in-Some.old_index _ c.in-Some.ensures.found in
    omega (arith, low, c.loop-index.invariant.len)

pub loop-index-preserved : goal.loop-index-preserved
loop-index-preserved c =
    elim c.match-index_from.branch [
      | in-Some w ↦ rw (w.kept-is, w.rest-is) (record {
        len = set_long c.loop-index.kept.items w.in-Some.old_index true ∙ c.loop-index.invariant.len;
        same = beside_kept c.args.old.now c.args.met.now (marked c.args.old.now c.args.marks.items) c.loop-index.kept.items c.loop-index.rest.items c.loop-index.index _ c.loop-index-test.true c.loop-index.invariant.same w.in-Some.old_index c.loop-index.invariant.len w.in-Some.ensures.found;
        apart = c.loop-index.invariant.apart;
      })
      | in-None+in_ok-put_last-in-None w ↦ rw (w.kept-is, w.rest-is) (record {
        len = c.loop-index.invariant.len;
        same = rw w.in_ok-put_last-in-None.ensures (beside_rest c.args.old.now c.args.met.now (marked c.args.old.now c.args.marks.items) c.loop-index.kept.items c.loop-index.rest.items c.loop-index.index _ c.loop-index-test.true c.loop-index.invariant.same);
        apart = rw w.in_ok-put_last-in-None.ensures (apart_more c.args.old.now c.loop-index.rest.items _ w.in-None.ensures.none c.loop-index.invariant.apart);
      })
    ]

pub returns-clause-same : goal.returns-clause-same
returns-clause-same c key = c.loop-index.invariant.same key ∙ ap (λ ks. has key_cmp key (ks ++ marked c.args.old.now c.args.marks.items)) (take_all c.loop-index.index c.args.met.now (omega (arith, c.loop-index-test.false)))
