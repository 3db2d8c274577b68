-- Each step halves the gap.
use Rattle.std.proofs.Common.{◌≡◌, ◌+◌, ◌-◌, ◌/◌, ◌<◌, [], length, map, sym, subst, arith}
use Rattle.std.proofs.lemmas.List.{get_or_read}
use Rattle.block_index.specs.Blocks.{AreFilled, keys_of}
use Rattle.block_index.specs.Search.{IsBeforeBlock}
use Rattle.comparison_steps.specs.Steps.{Left}
use Rattle.block_index.proofs.Grouped.{filled_group}
use Rattle.block_index.proofs.Located.{before_group, after_group, tied_group, long_map}
use Rattle.block_index.proofs.Parts.{filled_at}
use Rattle.block_index.proofs.Searching.{left_down, left_up}
use Rattle.block_index.proofs.search.search_groups.Goals as goal

pub first-requires-clause-some : goal.first-requires-clause-some
first-requires-clause-some g c =
    let within = c.loop-low.invariant.1 in
    let some = c.loop-low-test.true in
    let m = c.loop-low.low + (c.loop-low.high - c.loop-low.low) / 2 in
    let l : m < length c.args.groups.now = omega arith in
    subst (λ b. 0 < length b) (sym (get_or_read c.args.groups.now m c.index-groups-middle.result l c.index-groups-middle.is [])) (filled_at c.args.groups.now m l c.requires.some).0

pub first-requires-clause-filled : goal.first-requires-clause-filled
first-requires-clause-filled g c =
    let within = c.loop-low.invariant.1 in
    let some = c.loop-low-test.true in
    let m = c.loop-low.low + (c.loop-low.high - c.loop-low.low) / 2 in
    let l : m < length c.args.groups.now = omega arith in
    subst AreFilled (sym (get_or_read c.args.groups.now m c.index-groups-middle.result l c.index-groups-middle.is [])) (filled_group c.args.groups.now m c.requires.filled)

pub loop-low-preserved-in-Less : goal.loop-low-preserved-in-Less
loop-low-preserved-in-Less g c =
    let inv = c.loop-low.invariant in
    let within = inv.1 in
    let some = c.loop-low-test.true in
    let m = c.loop-low.low + (c.loop-low.high - c.loop-low.low) / 2 in (
      omega arith,
      omega arith,
      inv.2,
      before_group g.K.Ranked.cmp c.args.key.now c.args.groups.now m c.index-groups-middle.result c.first.result.now (omega arith) c.requires.some c.requires.filled c.index-groups-middle.is c.first.ensures (sym c.in-Less.ensures.value),
      left_down (length c.args.groups.now) (g.C.StepCounter.total c.args.steps.now) (g.C.StepCounter.total c.loop-low.steps) (g.C.StepCounter.total c.rank.new.steps) c.loop-low.low c.loop-low.high some c.rank.ensures.forward c.rank.ensures.step inv.4,
    )

pub loop-low-preserved : goal.loop-low-preserved
loop-low-preserved g c =
    let inv = c.loop-low.invariant in
    let within = inv.1 in
    let some = c.loop-low-test.true in
    let m = c.loop-low.low + (c.loop-low.high - c.loop-low.low) / 2 in (
      omega arith,
      inv.1,
      after_group g.K.Ranked.cmp c.args.key.now c.args.groups.now m c.index-groups-middle.result c.first.result.now (omega arith) c.requires.some c.requires.filled c.index-groups-middle.is c.first.ensures (sym c.in-Greater.ensures.value),
      inv.3,
      left_up (length c.args.groups.now) (g.C.StepCounter.total c.args.steps.now) (g.C.StepCounter.total c.loop-low.steps) (g.C.StepCounter.total c.rank.new.steps) c.loop-low.low c.loop-low.high some c.rank.ensures.forward c.rank.ensures.step inv.4,
    )

pub returns-in-Equal-clause-ends : goal.returns-in-Equal-clause-ends
returns-in-Equal-clause-ends g c =
    let within = c.loop-low.invariant.1 in
    let some = c.loop-low-test.true in
    let m = c.loop-low.low + (c.loop-low.high - c.loop-low.low) / 2 in
    let l : m < length c.args.groups.now = omega arith in (
      omega (arith, long_map c.args.groups.now),
      tied_group g.K.Ranked.cmp c.args.key.now c.args.groups.now m c.index-groups-middle.result c.first.result.now l c.requires.some c.requires.filled c.index-groups-middle.is c.first.ensures (sym c.in-Equal.ensures.value),
    )

pub returns-clause-ends : goal.returns-clause-ends
returns-clause-ends g c =
    let inv = c.loop-low.invariant in
    let ended = c.loop-low-test.false in
    let high = inv.1 in
    let order = inv.0 in
    let same : c.loop-low.high ≡ c.loop-low.low = omega arith in (
      omega arith,
      omega (arith, long_map c.args.groups.now),
      inv.2,
      subst (λ n. IsBeforeBlock g.K.Ranked.cmp c.args.key.now (map keys_of c.args.groups.now) n) same inv.3,
    )
