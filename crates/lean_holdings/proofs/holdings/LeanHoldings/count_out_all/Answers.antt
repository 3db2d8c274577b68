-- One more entity isn't counted, unless a page names it, or memory was refused.
use Rattle.std.proofs.Common.{sym, ◌∙◌, ap, take, add-one}
use Rattle.std.proofs.Math.Seq.{take-suc}
use Rattle.sorted_sets.specs.Rising.{has}
use Rattle.entity_model.specs.EntityId.{entity_cmp}
use Rattle.entity_counts.specs.Naming.{Naming}
use Rattle.slot_keys.proofs.AtHand.{on_ok}
use Rattle.lean_holdings.specs.InStep.{LeanState}
use Rattle.lean_holdings.proofs.CountedOut.{counted_still, left, named_still, one_more_out, out_here}
use Rattle.lean_holdings.proofs.Results.{on_err, on_ok_then}
use Rattle.lean_holdings.proofs.holdings.LeanHoldings.count_out_all.Goals.{then-is_err, else-is_err}
use Rattle.lean_holdings.proofs.holdings.LeanHoldings.count_out_all.Goals as goal

pub loop-id-preserved : goal.loop-id-preserved
loop-id-preserved c =
    let names : Naming = c.loop-id.self.names in
    let so = left names c.count_out.new.self.names _ c.count_out.result c.count_out.ensures.out c.count_out.ensures.uncounted c.count_out.ensures.named
    (on_err (ap (λ (h : LeanState). h.names)) c.count_out.result c.count_out.ensures.err) in
    let one_more = sym (ap (λ n. take n c.args.ids.now) (add-one c.loop-id.id-index) ∙ take-suc c.args.ids.now c.loop-id.id-index _ c.loop-id-test.true) in
    record {
      records = c.count_out.ensures.records ∙ c.loop-id.invariant.records;
      by_two = c.count_out.ensures.by_two ∙ c.loop-id.invariant.by_two;
      limit = c.count_out.ensures.limit ∙ c.loop-id.invariant.limit;
      named = λ x. named_still names c.count_out.new.self.names _ so x ∙ c.loop-id.invariant.named x;
      fewer = λ x there. c.loop-id.invariant.fewer x (counted_still names c.count_out.new.self.names _ so x there);
      out = elim c.if-is_err.branch [
        | then-is_err w ↦ rw w.counted-is tt
        | else-is_err w ↦
            let here = on_ok c.count_out.result _ (sym c.is_err.ensures.value ∙ w.if-is_err.false)
            (out_here names c.count_out.new.self.names _ c.count_out.result c.count_out.ensures.out c.count_out.ensures.uncounted) in
            rw w.counted-is (on_ok_then (λ out x there none.
            one_more_out c.args.self.now.names names c.count_out.new.self.names (take c.loop-id.id-index c.args.ids.now) _ c.loop-id.invariant.named
            (counted_still names c.count_out.new.self.names _ so) here out x (ap (has entity_cmp x) one_more ∙ there) none)
            c.loop-id.counted c.loop-id.invariant.out)
      ];
    }
