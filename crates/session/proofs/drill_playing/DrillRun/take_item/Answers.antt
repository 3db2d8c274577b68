-- The deliveries of the item are taken and counted, one after the other.
use Rattle.std.proofs.Common.{refl, ap, length, ◌≡◌, ◌∙◌, ◌≤◌, ◌+◌, ◌*◌, ◌++◌, [], ◌∷◌, suc, take, drop, sym, subst, append-nil, arith}
use Rattle.text_output.specs.Printing.{output}
use Rattle.drill_replay.specs.Drill.{IsSize, item_deliveries, drill}
use Rattle.drill_replay.specs.Playing.{IsPartOf}
use Rattle.drill_replay.proofs.{Drills.few_deliveries, Drills.part_in, Taking.cut, Taking.few_more, Taking.one_more, Taking.whole}
use Rattle.session.specs.DrillPlaying.{HasTakenFirst}
use Rattle.world.specs.Limit.{Limit}
use Rattle.run_model.proofs.Deliveries.{rest_open}
use Rattle.session.proofs.DrillPlaying.{cut_off, first_of, halted_in, leaves_at_rest, leaves_halted, next_of, next_taken, part_at_rest, silent}
use Rattle.session.proofs.drill_playing.DrillRun.take_item.Goals as goal

pub returns-in_err-list-clause-part : goal.returns-in_err-list-clause-part
returns-in_err-list-clause-part g c =
    part_in c.args.self.now.size c.args.done (c.args.done + 1) c.args.replay.now.world.replay (omega arith) (part_at_rest c.args.self.now (drill c.args.done) _ c.args.replay.now.world c.requires.taken)

pub returns-in_err-list-clause-left : goal.returns-in_err-list-clause-left
returns-in_err-list-clause-left g c =
    let first = first_of c.args.self.now.size c.args.done (omega (arith, c.requires.next)) in
    leaves_at_rest c.args.self.now (drill c.args.done) first.0 _ c.args.replay.now.world first.1 c.requires.taken

pub loop-delivery-init : goal.loop-delivery-init
loop-delivery-init g c = record {
  size_is = λ i. c.args.self.now.size;
  taken = subst (λ l. HasTakenFirst c.args.self.now l (output g.K.Sink c.args.out.now) c.args.replay.now.world) (sym (append-nil (drill c.args.done))) c.requires.taken;
  few = (omega (arith, c.requires.few.0), omega (arith, c.requires.few.1), omega (arith, c.requires.few.2));
  silent = λ i. output g.K.Sink c.args.out.now;
  routes = c.requires.routes;
}

pub deliver-requires-clause-open : goal.deliver-requires-clause-open
deliver-requires-clause-open g c = rest_open _ _ _ _ _ c.loop-delivery.invariant.taken.at_rest

pub deliver-requires-clause-lean : goal.deliver-requires-clause-lean
deliver-requires-clause-lean g c = λ answers. ap (λ (l : Limit). l.lean) c.loop-delivery.invariant.taken.limit

-- there are at most six deliveries of an item, and at most 200,000 items
pub add-requires : goal.add-requires
add-requires g c =
    let are : c.as_slice-delivery-items.result.now ≡ item_deliveries (c.args.done + 1) = c.as_slice-delivery-items.ensures ∙ c.in_ok-list.ensures in
    let six : length c.as_slice-delivery-items.result.now ≤ 6 = rw are (few_deliveries (c.args.done + 1)) in
    let few = c.loop-delivery.invariant.few in (
      omega (arith, few.0, six, c.requires.size.1, c.requires.next, c.loop-delivery-test.true),
      omega (arith, few.1, six, c.requires.size.1, c.requires.next, c.loop-delivery-test.true),
      omega (arith, few.2, six, c.requires.size.1, c.requires.next, c.loop-delivery-test.true),
    )

pub refused-requires : goal.refused-requires
refused-requires g c =
    let n = c.args.done in
    let items = c.as_slice-delivery-items.result.now in
    let i = c.loop-delivery.delivery-index in
    let d = c.delivery-item.result in
    let run = c.loop-delivery.self in
    let are : items ≡ item_deliveries (n + 1) = c.as_slice-delivery-items.ensures ∙ c.in_ok-list.ensures in
    let rest : drill (n + 1) ≡ (drill n ++ take i items) ++ d ∷ drop (suc i) items = cut n items i d are c.loop-delivery-test.true c.delivery-item.is in
    let all = next_of run.size n _ (drop (suc i) items) d (omega (arith, c.loop-delivery.invariant.size_is, c.requires.next)) rest in
    (cut_off run _ all.0 d all.1 [] _ c.loop-delivery.replay.world c.loop-delivery.invariant.taken c.deliver.new.revisions _ c.deliver.new.replay.world (subst (λ k. IsSize k) (sym c.loop-delivery.invariant.size_is) c.requires.size) _ (rw c.loop-delivery.invariant.routes at c.in-Err.ensures.err)).refused

pub returns-in-Err-clause-part : goal.returns-in-Err-clause-part
returns-in-Err-clause-part g c =
    let n = c.args.done in
    let items = c.as_slice-delivery-items.result.now in
    let i = c.loop-delivery.delivery-index in
    let d = c.delivery-item.result in
    let run = c.loop-delivery.self in
    let are : items ≡ item_deliveries (n + 1) = c.as_slice-delivery-items.ensures ∙ c.in_ok-list.ensures in
    let rest : drill (n + 1) ≡ (drill n ++ take i items) ++ d ∷ drop (suc i) items = cut n items i d are c.loop-delivery-test.true c.delivery-item.is in
    let all = next_of run.size n _ (drop (suc i) items) d (omega (arith, c.loop-delivery.invariant.size_is, c.requires.next)) rest in
    let halted = cut_off run _ all.0 d all.1 [] _ c.loop-delivery.replay.world c.loop-delivery.invariant.taken c.deliver.new.revisions _ c.deliver.new.replay.world (subst (λ k. IsSize k) (sym c.loop-delivery.invariant.size_is) c.requires.size) _ (rw c.loop-delivery.invariant.routes at c.in-Err.ensures.err) in
    subst (λ k. IsPartOf k (drill (n + 1)) c.deliver.new.replay.world.replay) c.loop-delivery.invariant.size_is (halted_in run.size _ (drop (suc i) items) (drill (n + 1)) d _ c.deliver.new.replay.world rest halted)

pub returns-in-Err-clause-left : goal.returns-in-Err-clause-left
returns-in-Err-clause-left g c =
    let n = c.args.done in
    let items = c.as_slice-delivery-items.result.now in
    let i = c.loop-delivery.delivery-index in
    let d = c.delivery-item.result in
    let run = c.loop-delivery.self in
    let are : items ≡ item_deliveries (n + 1) = c.as_slice-delivery-items.ensures ∙ c.in_ok-list.ensures in
    let rest : drill (n + 1) ≡ (drill n ++ take i items) ++ d ∷ drop (suc i) items = cut n items i d are c.loop-delivery-test.true c.delivery-item.is in
    let all = next_of run.size n _ (drop (suc i) items) d (omega (arith, c.loop-delivery.invariant.size_is, c.requires.next)) rest in
    let halted = cut_off run _ all.0 d all.1 [] _ c.loop-delivery.replay.world c.loop-delivery.invariant.taken c.deliver.new.revisions _ c.deliver.new.replay.world (subst (λ k. IsSize k) (sym c.loop-delivery.invariant.size_is) c.requires.size) _ (rw c.loop-delivery.invariant.routes at c.in-Err.ensures.err) in
    leaves_halted run.size _ d _ c.loop-delivery.replay.world c.deliver.new.replay.world halted c.loop-delivery.invariant.taken.limit c.deliver.ensures.same.limit

pub returns-in-Err-clause-silent : goal.returns-in-Err-clause-silent
returns-in-Err-clause-silent g c =
    let n = c.args.done in
    let items = c.as_slice-delivery-items.result.now in
    let i = c.loop-delivery.delivery-index in
    let d = c.delivery-item.result in
    let run = c.loop-delivery.self in
    let are : items ≡ item_deliveries (n + 1) = c.as_slice-delivery-items.ensures ∙ c.in_ok-list.ensures in
    let rest : drill (n + 1) ≡ (drill n ++ take i items) ++ d ∷ drop (suc i) items = cut n items i d are c.loop-delivery-test.true c.delivery-item.is in
    let all = next_of run.size n _ (drop (suc i) items) d (omega (arith, c.loop-delivery.invariant.size_is, c.requires.next)) rest in
    c.deliver.ensures.silent refl (silent run _ all.0 d all.1) ∙ c.loop-delivery.invariant.silent

pub loop-delivery-preserved : goal.loop-delivery-preserved
loop-delivery-preserved g c =
    let n = c.args.done in
    let items = c.as_slice-delivery-items.result.now in
    let i = c.loop-delivery.delivery-index in
    let d = c.delivery-item.result in
    let run = c.loop-delivery.self in
    let are : items ≡ item_deliveries (n + 1) = c.as_slice-delivery-items.ensures ∙ c.in_ok-list.ensures in
    let rest : drill (n + 1) ≡ (drill n ++ take i items) ++ d ∷ drop (suc i) items = cut n items i d are c.loop-delivery-test.true c.delivery-item.is in
    let all = next_of run.size n _ (drop (suc i) items) d (omega (arith, c.loop-delivery.invariant.size_is, c.requires.next)) rest in
    let call = c.in-Ok.ensures in
    let before = c.loop-delivery.invariant in
    record {
      size_is = before.size_is;
      taken = subst (λ l. HasTakenFirst (record run { pages = c.deliver.new.revisions; counts = c.add.new.self; changed = c.in-Ok.done.reported.changed }) l (output g.K.Sink c.deliver.new.out) c.deliver.new.replay.world) (one_more n items i d c.loop-delivery-test.true c.delivery-item.is)
          (next_taken run _ all.0 d all.1 [] _ c.loop-delivery.replay.world before.taken c.deliver.new.revisions c.add.new.self c.in-Ok.done.answer c.in-Ok.done.reported (output g.K.Sink c.deliver.new.out) c.deliver.new.replay.world call.source.known (rw before.routes at call.ok) call.answer c.add.ensures call.same.limit);
      few = few_more c.in-Ok.done.answer c.loop-delivery.self.counts c.add.new.self (6 * n + i) (6 * n + (i + 1)) c.add.ensures (omega arith) before.few;
      silent = c.deliver.ensures.silent refl (silent run _ all.0 d all.1) ∙ before.silent;
      routes = call.same.routes ∙ before.routes;
    }

pub returns-clause-taken : goal.returns-clause-taken
returns-clause-taken g c =
    let are : c.as_slice-delivery-items.result.now ≡ item_deliveries (c.args.done + 1) = c.as_slice-delivery-items.ensures ∙ c.in_ok-list.ensures in
    subst (λ l. HasTakenFirst c.loop-delivery.self l (output g.K.Sink c.loop-delivery.out) c.loop-delivery.replay.world)
    (whole c.args.done c.as_slice-delivery-items.result.now c.loop-delivery.delivery-index are c.loop-delivery-test.false) c.loop-delivery.invariant.taken

pub returns-clause-part : goal.returns-clause-part
returns-clause-part g c =
    let are : c.as_slice-delivery-items.result.now ≡ item_deliveries (c.args.done + 1) = c.as_slice-delivery-items.ensures ∙ c.in_ok-list.ensures in
    let taken = subst (λ l. HasTakenFirst c.loop-delivery.self l (output g.K.Sink c.loop-delivery.out) c.loop-delivery.replay.world)
    (whole c.args.done c.as_slice-delivery-items.result.now c.loop-delivery.delivery-index are c.loop-delivery-test.false) c.loop-delivery.invariant.taken in
    subst (λ k. IsPartOf k (drill (c.args.done + 1)) c.loop-delivery.replay.world.replay) c.loop-delivery.invariant.size_is (part_at_rest c.loop-delivery.self _ _ c.loop-delivery.replay.world taken)

pub returns-clause-left : goal.returns-clause-left
returns-clause-left g c =
    let are : c.as_slice-delivery-items.result.now ≡ item_deliveries (c.args.done + 1) = c.as_slice-delivery-items.ensures ∙ c.in_ok-list.ensures in
    let taken = subst (λ l. HasTakenFirst c.loop-delivery.self l (output g.K.Sink c.loop-delivery.out) c.loop-delivery.replay.world)
    (whole c.args.done c.as_slice-delivery-items.result.now c.loop-delivery.delivery-index are c.loop-delivery-test.false) c.loop-delivery.invariant.taken in
    let first = first_of c.loop-delivery.self.size (c.args.done + 1) (omega (arith, c.loop-delivery.invariant.size_is, c.requires.next)) in
    leaves_at_rest c.loop-delivery.self _ first.0 _ c.loop-delivery.replay.world first.1 taken
