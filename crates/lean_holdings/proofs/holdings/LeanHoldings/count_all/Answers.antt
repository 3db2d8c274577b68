-- One more entity is counted.
use Rattle.std.proofs.Common.{rules, ◌≡◌, ◌||◌, Err, sym, ◌∙◌, ap, take, add-one}
use Rattle.std.proofs.Math.Seq.{take-suc}
use Rattle.sorted_sets.specs.Rising.{has}
use Rattle.term_pool.specs.declared.fault.PoolFault.TheVariants.{Full}
use Rattle.entity_model.specs.{EntityId.entity_cmp}
use Rattle.entity_counts.specs.Naming.{Naming, pages_naming}
use Rattle.lean_holdings.specs.{Holding.counted_by, InStep.LeanState}
use Rattle.lean_holdings.proofs.{CountedIn.one_counted, Naming.named_alike, Needing.no_room, Needing.some_counted}
use Rattle.lean_holdings.proofs.holdings.LeanHoldings.count_all.Goals as goal

pub loop-id-preserved : goal.loop-id-preserved
loop-id-preserved c =
    let one_more = sym (ap (λ n. take n c.args.ids.now) (add-one c.loop-id.id-index) ∙ take-suc c.args.ids.now c.loop-id.id-index _ c.loop-id-test.true) in
    record {
      records = c.count_in.ensures.records ∙ c.loop-id.invariant.records;
      by_two = c.count_in.ensures.by_two ∙ c.loop-id.invariant.by_two;
      limit = c.count_in.ensures.limit ∙ c.loop-id.invariant.limit;
      counted = λ x. ap (λ (n : Naming). has entity_cmp x (counted_by n)) c.in_ok-count_in.ensures.names
          ∙ one_counted c.args.self.now.names c.loop-id.self.names (take c.loop-id.id-index c.args.ids.now) _ x (c.loop-id.invariant.counted x)
          ∙ ap (λ ids. has entity_cmp x ids || has entity_cmp x (counted_by c.args.self.now.names)) one_more;
      named = λ x. ap (λ (n : Naming). pages_naming n x) c.in_ok-count_in.ensures.names ∙ named_alike c.loop-id.self.names _ x ∙ c.loop-id.invariant.named x;
    }

pub returns-in_err-count_in-clause-among : goal.returns-in_err-count_in-clause-among
returns-in_err-count_in-clause-among c x there =
    some_counted c.args.self.now.names c.loop-id.self.names c.args.ids.now c.loop-id.id-index c.loop-id.invariant.counted x
    (ap (λ (h : LeanState). has entity_cmp x (counted_by h.names)) (sym c.in_err-count_in.ensures.err) ∙ there)

pub returns-in_err-count_in-clause-full : goal.returns-in_err-count_in-clause-full
returns-in_err-count_in-clause-full c is =
    let failed : c.count_in.result ≡ Err Full = search rules in
    let one_more = sym (ap (λ n. take n c.args.ids.now) (add-one c.loop-id.id-index) ∙ take-suc c.args.ids.now c.loop-id.id-index _ c.loop-id-test.true) in
    no_room _ _ _ c.args.self.now.names c.loop-id.self.names c.args.ids.now c.loop-id.id-index _ one_more c.loop-id.invariant.counted
    (rw (c.loop-id.invariant.limit, c.loop-id.invariant.by_two, c.loop-id.invariant.records) at c.count_in.ensures.full failed)
