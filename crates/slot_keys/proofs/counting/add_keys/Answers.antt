-- One key more is counted at its index alone.
use Rattle.std.proofs.Common.{◌≡◌, ◌+◌, ◌<◌, get_or, length, arith}
use Rattle.std.proofs.lemmas.List.{get_or_read}
use Rattle.std.proofs.lemmas.Option.{slice_get_within}
use Rattle.slot_keys.proofs.KeyTimes.{key_added}
use Rattle.slot_keys.proofs.counting.add_keys.Goals as goal

pub index-requires : goal.index-requires
index-requires c = omega (arith, slice_get_within c.args.keys.rising.now c.in_ok-at.at _ c.in_ok-at.ensures.found, c.requires.as_many, c.loop-place.invariant.as_many)

pub index_mut-requires : goal.index_mut-requires
index_mut-requires c = omega (arith, slice_get_within c.args.keys.rising.now c.in_ok-at.at _ c.in_ok-at.ensures.found, c.requires.as_many, c.loop-place.invariant.as_many)

pub loop-place-preserved : goal.loop-place-preserved
loop-place-preserved c =
    let at = c.in_ok-at.at in
    let low : c.loop-place.place < length c.args.met.now = omega arith in
    let there = slice_get_within c.args.keys.rising.now at _ c.in_ok-at.ensures.found in
    let within : at < length c.loop-place.counts.items = omega (arith, there, c.requires.as_many, c.loop-place.invariant.as_many) in
    let read = get_or_read c.loop-place.counts.items at c.index.result.now within c.index.ensures 0 in
    let n : c.in_ok-counts.field-0 ≡ get_or c.loop-place.counts.items at 0 + 1 = omega (arith, read, c.in_ok-counts.ensures) in
    key_added c.args.keys.rising.now c.requires.rising c.args.met.now c.loop-place.place _ low at c.in_ok-at.ensures.found c.args.counts.items c.loop-place.counts.items c.in_ok-counts.field-0 c.requires.as_many n c.loop-place.invariant
