-- A triple has the count of its key.
use Rattle.std.proofs.Common.{ap, arith, subst, sym, ◌∙◌, unwrap_or}
use Rattle.comparison_steps.specs.Steps.{WithinSteps}
use Rattle.triple_catalog.proofs.{Live.count_image, Live.image_absent, Storing.live_stored, Unchanged.len_image}
use Rattle.triple_store.proofs.store.Store.owners.Goals as goal

pub returns-in-Some : goal.returns-in-Some
returns-in-Some g c =
    let st = c.self.inside.catalog in
    let r = c.self.inside.region in
    rw (← c.self.view_is) (record {
      count = c.count.ensures.count ∙ sym (count_image st.pool r st.index c.in-Some.key c.args.triple.now c.self.invariant.lies (live_stored st r c.self.invariant) c.in-Some.ensures.found);
      cost = subst (λ n. WithinSteps n 8 (g.C.StepCounter.total c.args.steps.now) (g.C.StepCounter.total c.count.new.steps)) (sym (len_image st r c.self.invariant)) c.count.ensures.cost;
    })

pub returns-in-None : goal.returns-in-None
returns-in-None g c =
    let st = c.self.inside.catalog in
    let r = c.self.inside.region in
    rw (← c.self.view_is) (record {
      count = sym (ap (λ v. unwrap_or v 0) (image_absent st.pool r st.index c.self.invariant.lies (live_stored st r c.self.invariant) c.args.triple.now c.in-None.ensures.nowhere));
      cost = (omega arith, λ d few. omega arith);
    })
