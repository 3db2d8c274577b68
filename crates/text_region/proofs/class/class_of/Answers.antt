-- First the power of two below the bytes, then the quarters.
use Rattle.std.proofs.Common.{◌≡◌, ◌<◌, ◌+◌, ◌*◌, ◌^◌, suc, arith, sym, ap, ◌∙◌, ⊎_elim}
use Rattle.std.proofs.lemmas.Bool.{cases_lt}
use Rattle.text_region.specs.Class.{size_of}
use Rattle.text_region.proofs.Classes.{comes_after, next_power, quarter_more, size_at}
use Rattle.text_region.proofs.class.class_of.Goals as goal

pub loop-size-preserved : goal.loop-size-preserved
loop-size-preserved c =
    let i = c.loop-size.invariant in
    let next = next_power i.power c.loop-size.size c.loop-size.class i.size_is i.class_is in
    let smaller : size_of (c.loop-size.class + 4) < c.args.len = omega (arith, next.1, c.loop-size-test.true) in
    record {
      power = suc i.power;
      class_is = omega (arith, i.class_is);
      size_is = next.0;
      small = omega (arith, c.loop-size-test.true, c.requires);
      known = omega (arith, comes_after (c.loop-size.class + 4) c.args.len smaller 84 c.requires);
      least = λ other fits. omega (arith, comes_after (c.loop-size.class + 4) c.args.len smaller other fits);
    }

pub loop-size-2-preserved : goal.loop-size-2-preserved
loop-size-2-preserved c =
    let i = c.loop-size-2.invariant in
    let size : size_of c.loop-size-2.class ≡ c.loop-size-2.size = ap size_of i.class_is ∙ size_at i.power i.quarters i.few ∙ sym i.size_is in
    let smaller : size_of c.loop-size-2.class < c.args.len = omega (arith, size, c.loop-size-2-test.true) in
    let below : i.quarters < 4 = ⊎_elim (λ l. l)
    (λ ge. let four : i.quarters ≡ 4 = omega (arith, i.few) in
    let whole : c.loop-size-2.size ≡ 8 * 2 ^ (2 + i.power) = i.size_is ∙ ap (λ q. (4 + q) * 2 ^ (2 + i.power)) four in
    omega (arith, whole, i.reached, c.loop-size-2-test.true))
    (cases_lt i.quarters 4) in
    record {
      power = i.power;
      quarters = i.quarters + 1;
      few = omega (arith, below);
      class_is = omega (arith, i.class_is);
      quarter_is = i.quarter_is;
      size_is = omega (arith, i.size_is, i.quarter_is, quarter_more i.power i.quarters);
      reached = i.reached;
      least = λ other fits. omega (arith, comes_after c.loop-size-2.class c.args.len smaller other fits);
    }

pub returns : goal.returns
returns c =
    let i = c.loop-size-2.invariant in
    let size : size_of c.loop-size-2.class ≡ c.loop-size-2.size = ap size_of i.class_is ∙ size_at i.power i.quarters i.few ∙ sym i.size_is in
    record {
      known = omega (arith, i.least 84 c.requires);
      holds = omega (arith, size, c.loop-size-2-test.false);
      least = i.least;
    }
