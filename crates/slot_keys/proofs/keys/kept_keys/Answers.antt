use Rattle.std.proofs.Common.{ap, ◌∙◌, arith}
use Rattle.std.proofs.lemmas.List.{take_all}
use Rattle.slot_keys.specs.Marks.{marked}
use Rattle.slot_keys.proofs.Marked.{pass_marked, push_marked}
use Rattle.slot_keys.proofs.keys.kept_keys.Goals as goal
use Rattle.slot_keys.proofs.keys.kept_keys.Goals.{then-kept-index+in_ok-push, else-kept-index}

pub loop-index-preserved : goal.loop-index-preserved
loop-index-preserved c =
    elim c.if-kept-index.branch [
      | then-kept-index+in_ok-push w ↦ rw w.keys-is (push_marked c.args.old.now c.args.kept.now c.loop-index.index _ _ c.loop-index.keys.items w.push.new.self.items c.loop-index-test.true (omega (arith, c.requires, c.loop-index-test.true)) c.loop-index.invariant w.in_ok-push.ensures.items w.if-kept-index.true)
      | else-kept-index w ↦ rw w.keys-is (pass_marked c.args.old.now c.args.kept.now c.loop-index.index _ c.loop-index.keys.items c.loop-index-test.true (omega (arith, c.requires, c.loop-index-test.true)) c.loop-index.invariant w.if-kept-index.false)
    ]

pub returns : goal.returns
returns c = c.loop-index.invariant ∙ ap (λ ks. marked ks c.args.kept.now) (take_all c.loop-index.index c.args.old.now (omega (arith, c.loop-index-test.false)))
