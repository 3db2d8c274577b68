-- A lane is set where its byte is a stop.
use Rattle.std.proofs.Common.{◌||◌, ◌==◌, nat_lt, sym, arith}
use Rattle.std.proofs.lemmas.Simd.{zip2_splat}
use Rattle.json_spell.specs.Runs.{is_stop}
use Rattle.json_spell.proofs.Lanes.{flag, either, above, masked}
use Rattle.json_reader.proofs.runs.stops.Goals as goal

pub returns : goal.returns
returns c =
    let v = c.args.lanes in
    let long = c.fits-lanes.0 in
    masked is_stop v _ (omega arith)
    (either (λ x. (x == 0x22) || (x == 0x5C)) (λ x. nat_lt x 0x20 || nat_lt 0x7F x) v
    (either (λ x. x == 0x22) (λ x. x == 0x5C) v (zip2_splat (λ a b. flag (a == b)) v 16 0x22 long) (zip2_splat (λ a b. flag (a == b)) v 16 0x5C long))
    (either (λ x. nat_lt x 0x20) (λ x. nat_lt 0x7F x) v (zip2_splat (λ a b. flag (nat_lt a b)) v 16 0x20 long) (above 0x7F 16 v (sym long))))
