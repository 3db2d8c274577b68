-- Each shelf is made with the size of its class and without blocks.
use Rattle.std.proofs.Common.{◌≡◌, ◌∙◌, arith, subst}
use Rattle.text_region.proofs.Classes.{sizes_rise}
use Rattle.text_region.proofs.Fresh.{AreFresh, fresh_none, fresh_new, fresh_push, fresh_shelves}
use Rattle.text_region.proofs.region.Region.new.Goals as goal
use Rattle.text_region.proofs.region.Region.new.Goals.{After-loop-class}

pub loop-class-init : goal.loop-class-init
loop-class-init c = rw c.in_ok-shelves.ensures.items fresh_none

pub new-requires : goal.new-requires
new-requires c = omega (arith, c.size_of.ensures, sizes_rise c.loop-class.class 84 (omega (arith, c.loop-class-test.true)))

pub loop-class-preserved : goal.loop-class-preserved
loop-class-preserved c =
    rw c.in_ok-push.ensures.items (fresh_push c.loop-class.shelves.items c.new.result c.loop-class.class c.loop-class.invariant (c.new.ensures.size ∙ c.size_of.ensures) c.new.ensures.empty)

-- all shelves are there
whole : (c : After-loop-class) → AreFresh c.loop-class.shelves.items 85
whole c =
    let end : c.loop-class.class ≡ 85 = omega (arith, c.loop-class-test.false, c.loop-class.auto.class-end) in
    subst (λ n. AreFresh c.loop-class.shelves.items n) end c.loop-class.invariant

pub invariant_of-result : goal.invariant_of-result
invariant_of-result c = fresh_shelves c.loop-class.shelves.items (whole c)

pub returns : goal.returns
returns c = fresh_new c.loop-class.shelves.items (whole c)
