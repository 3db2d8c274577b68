-- The first lane that is set is the first stop; where none is, all lanes are passed.
use Rattle.std.proofs.Common.{take, sym, ap, ◌∙◌, arith}
use Rattle.std.proofs.lemmas.Simd.{leading_from_mask_l, trailing_mask_l}
use Rattle.std.proofs.lemmas.List.{length-take}
use lib.Count.{count_trailing_zeros}
use Rattle.json_spell.specs.Runs.{is_stop}
use Rattle.json_reader.proofs.runs.plain_lanes.Goals as goal

pub returns-then-found-eq0 : goal.returns-then-found-eq0
returns-then-found-eq0 c =
    let lanes = take 16 c.args.bytes.now in
    let long = length-take 16 c.args.bytes.now in
    let all = leading_from_mask_l is_stop lanes (sym c.stops-found.ensures ∙ c.if-found-eq0.true) in
    omega (arith, all, long)

pub returns-else-found-eq0 : goal.returns-else-found-eq0
returns-else-found-eq0 c =
    let lanes = take 16 c.args.bytes.now in
    let long = length-take 16 c.args.bytes.now in
    ap (count_trailing_zeros 64) c.stops-found.ensures
    ∙ trailing_mask_l is_stop 64 lanes (omega (arith, long)) (omega (arith, c.stops-found.ensures, c.if-found-eq0.false))
