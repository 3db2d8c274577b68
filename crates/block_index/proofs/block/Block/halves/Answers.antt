-- Either half has fewer than 128 keys before the new one.
use Rattle.std.proofs.Common.{◌∙◌, length, sym, ap, arith}
use Rattle.std.specs.List.{insert}
use Rattle.std.proofs.lemmas.List.{length-take-le, take_rest}
use Rattle.block_index.proofs.Halves.{halves_low, halves_high}
use Rattle.block_index.proofs.block.Block.halves.Goals as goal

pub slice_bounds-of-end : goal.slice_bounds-of-end
slice_bounds-of-end g c =
    let full = ap length (c.as_slice-keys.ensures.value ∙ c.self.view_is) in
    sym (length-take-le 64 c.as_slice-keys.result.now (omega arith))

pub insert-requires : goal.insert-requires
insert-requires g c =
    let full = ap length (c.as_slice-keys.ensures.value ∙ c.self.view_is) in
    let half = length-take-le 64 c.as_slice-keys.result.now (omega arith) in
    omega (arith, ap length c.in_ok-low.ensures)

pub returns-then-at-le-HALF-clause-keys : goal.returns-then-at-le-HALF-clause-keys
returns-then-at-le-HALF-clause-keys g c =
    let is = c.as_slice-keys.ensures.value ∙ c.self.view_is in
    (halves_low c.as_slice-keys.result.now c.in_ok-low.low c.in_ok-high.high c.insert.new.self c.args.at c.args.key (ap length is ∙ c.requires.full) c.in_ok-low.ensures (c.in_ok-high.ensures ∙ take_rest c.as_slice-keys.result.now 64) c.if-at-le-HALF.true c.in_ok-insert.ensures.ok).0
    ∙ ap (λ l. insert l c.args.at c.args.key) is

pub returns-then-at-le-HALF-clause-low : goal.returns-then-at-le-HALF-clause-low
returns-then-at-le-HALF-clause-low g c =
    let is = c.as_slice-keys.ensures.value ∙ c.self.view_is in
    (halves_low c.as_slice-keys.result.now c.in_ok-low.low c.in_ok-high.high c.insert.new.self c.args.at c.args.key (ap length is ∙ c.requires.full) c.in_ok-low.ensures (c.in_ok-high.ensures ∙ take_rest c.as_slice-keys.result.now 64) c.if-at-le-HALF.true c.in_ok-insert.ensures.ok).1

pub returns-clause-keys : goal.returns-clause-keys
returns-clause-keys g c =
    let is = c.as_slice-keys.ensures.value ∙ c.self.view_is in
    (halves_high c.as_slice-keys.result.now c.in_ok-low.low c.in_ok-high.high c.insert-2.new.self c.args.at c.args.key (ap length is ∙ c.requires.full) c.in_ok-low.ensures (c.in_ok-high.ensures ∙ take_rest c.as_slice-keys.result.now 64) c.if-at-le-HALF.false c.requires.within c.in_ok-insert-2.ensures.ok).0
    ∙ ap (λ l. insert l c.args.at c.args.key) is

pub returns-clause-low : goal.returns-clause-low
returns-clause-low g c =
    let is = c.as_slice-keys.ensures.value ∙ c.self.view_is in
    (halves_high c.as_slice-keys.result.now c.in_ok-low.low c.in_ok-high.high c.insert-2.new.self c.args.at c.args.key (ap length is ∙ c.requires.full) c.in_ok-low.ensures (c.in_ok-high.ensures ∙ take_rest c.as_slice-keys.result.now 64) c.if-at-le-HALF.false c.requires.within c.in_ok-insert-2.ensures.ok).1
