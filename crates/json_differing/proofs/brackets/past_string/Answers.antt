-- Each step goes on in the string or in the next one, or leaves it.
use Rattle.std.proofs.Common.{◌≡◌, ◌==◌, true, length, sym, ap, ◌∙◌, arith}
use Rattle.std.proofs.lemmas.Bool.Decides.{nat_tests}
use Rattle.json_differing.proofs.Skims.{past_mark, past_escape, past_inside}
use Rattle.json_differing.proofs.brackets.past_string.Goals as goal

pub loop-mark-init : goal.loop-mark-init
loop-mark-init c = ((λ o. past_inside o c.args.bytes.now c.to_mark-left.result.now c.to_mark-left.ensures.rest), c.to_mark-left.ensures.no_longer)

pub returns-in_default-clause-rest : goal.returns-in_default-clause-rest
returns-in_default-clause-rest c o =
    let is_mark : (c.in_ok-mark.mark == 0x22) ≡ true = grind (arith, nat_tests, c.if-mark-eq34.true) in
    sym (c.loop-mark.invariant.0 o) ∙ past_mark o c.in_ok-mark.mark c.loop-mark.left.now c.in_ok-mark.rest.now c.in_ok-mark.ensures is_mark

pub loop-mark-preserved-then-mark-eq34 : goal.loop-mark-preserved-then-mark-eq34
loop-mark-preserved-then-mark-eq34 c =
    let is_mark : (c.in_ok-mark.mark == 0x22) ≡ true = grind (arith, nat_tests, c.if-mark-eq34.true) in (
      (λ o. past_inside o c.in-Some.inside.now c.to_mark-left-then-mark-eq34.result.now c.to_mark-left-then-mark-eq34.ensures.rest
          ∙ sym (c.in-Some.ensures.rest o)
          ∙ sym (past_mark o c.in_ok-mark.mark c.loop-mark.left.now c.in_ok-mark.rest.now c.in_ok-mark.ensures is_mark) ∙ c.loop-mark.invariant.0 o),
      omega (arith, c.to_mark-left-then-mark-eq34.ensures.no_longer, c.in-Some.ensures.no_longer, ap length c.in_ok-mark.ensures, c.loop-mark.invariant.1),
    )

pub loop-mark-preserved : goal.loop-mark-preserved
loop-mark-preserved c =
    let is_escape : (c.in_ok-mark.mark == 0x5C) ≡ true = grind (arith, nat_tests, c.if-mark-ne92.false) in (
      (λ o. past_inside o c.in_ok-_escaped.inside.now c.to_mark-left-else-mark-eq34.result.now c.to_mark-left-else-mark-eq34.ensures.rest
          ∙ sym (past_escape o c.in_ok-mark.mark c.in_ok-_escaped._escaped c.loop-mark.left.now c.in_ok-mark.rest.now c.in_ok-_escaped.inside.now c.in_ok-mark.ensures is_escape c.in_ok-_escaped.ensures)
          ∙ c.loop-mark.invariant.0 o),
      omega (arith, c.to_mark-left-else-mark-eq34.ensures.no_longer, ap length c.in_ok-_escaped.ensures, ap length c.in_ok-mark.ensures, c.loop-mark.invariant.1),
    )
