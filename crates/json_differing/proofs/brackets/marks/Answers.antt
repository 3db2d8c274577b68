-- A lane is set where its byte is a mark.
use Rattle.std.proofs.Common.{◌==◌, arith}
use Rattle.std.proofs.lemmas.Simd.{zip2_splat}
use Rattle.json_differing.specs.Brackets.{is_mark}
use Rattle.json_spell.proofs.Lanes.{flag, either, masked}
use Rattle.json_differing.proofs.brackets.marks.Goals as goal

pub returns : goal.returns
returns c =
    let v = c.args.lanes in
    let long = c.fits-lanes.0 in
    masked is_mark v _ (omega arith)
    (either (λ x. x == 0x22) (λ x. x == 0x5C) v (zip2_splat (λ a b. flag (a == b)) v 16 0x22 long) (zip2_splat (λ a b. flag (a == b)) v 16 0x5C long))
