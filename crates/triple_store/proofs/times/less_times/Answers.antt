-- One triple more is counted at its key alone.
use Rattle.std.proofs.Common.{◌≡◌, ◌+◌, ◌<◌, get_or, length, arith}
use Rattle.std.proofs.lemmas.List.{get_or_read}
use Rattle.std.specs.Prelude.{Option, Some, None, IfNone}
use Rattle.triple_store.proofs.Timed.{exceeds_at, exceeds_other, times-less}
use Rattle.triple_store.proofs.times.less_times.Goals as goal

pub loop-index-preserved : goal.loop-index-preserved
loop-index-preserved c =
    let low : c.loop-index.index < length c.args.triples.now = omega arith in
    let within : c.in_ok-at.at < length c.loop-index.left.items = omega (arith, c.in_ok-at.ensures.within, c.requires.as_many, c.loop-index.invariant.as_many) in
    let read = get_or_read c.loop-index.left.items c.in_ok-at.at c.index.result.now within c.index.ensures 0 in
    let n : c.in_ok-left.field-0 + 1 ≡ get_or c.loop-index.left.items c.in_ok-at.at 0 = omega (arith, read, c.in_ok-left.ensures) in
    times-less c.args.catalog.now c.args.region.now c.requires.stored c.args.keys.rising.now c.requires.rising c.requires.there c.args.triples.now c.loop-index.index c.get-texts.result low c.get-texts.ensures c.in_ok-at.at c.in_ok-at.ensures.within c.in_ok-at.ensures.texts c.args.counts.items c.loop-index.left.items c.in_ok-left.field-0 (omega (arith, c.requires.as_many, c.loop-index.invariant.as_many)) n c.loop-index.invariant

-- what holds in any case holds where there is nothing
if_none : {A : Type 0} {P : Type 0} (o : Option A) → P → IfNone o P
if_none None p = p
if_none (Some a) p = tt

-- a triple that has none of the keys
pub returns-in_err-at-clause-none : goal.returns-in_err-at-clause-none
returns-in_err-at-clause-none c = if_none c.from_residual.result (λ before its.
    let low : c.loop-index.index < length c.args.triples.now = omega arith in
    exceeds_other c.args.catalog.now c.args.region.now c.args.keys.rising.now c.args.counts.items before c.args.triples.now c.loop-index.index c.get-texts.result low c.get-texts.ensures c.in_err-at.ensures.none its)

-- or one too many of a key
pub returns-in_err-left-clause-none : goal.returns-in_err-left-clause-none
returns-in_err-left-clause-none c = if_none c.from_residual-in_err-left.result (λ before its.
    let low : c.loop-index.index < length c.args.triples.now = omega arith in
    let within : c.in_ok-at.at < length c.loop-index.left.items = omega (arith, c.in_ok-at.ensures.within, c.requires.as_many, c.loop-index.invariant.as_many) in
    let read = get_or_read c.loop-index.left.items c.in_ok-at.at c.index.result.now within c.index.ensures 0 in
    exceeds_at c.args.catalog.now c.args.region.now c.requires.stored c.args.keys.rising.now c.requires.rising c.requires.there c.args.triples.now c.loop-index.index c.get-texts.result low c.get-texts.ensures c.in_ok-at.at c.in_ok-at.ensures.within c.in_ok-at.ensures.texts c.args.counts.items c.loop-index.left.items before (omega (arith, read, c.in_err-left.ensures)) c.loop-index.invariant its)
