-- The items are taken one after the other, and then the end.
use Rattle.std.proofs.Common.{◌∙◌, ◌+◌, inl, inr, refl, ap, sym, subst, arith}
use Rattle.drill_replay.specs.{Drill.drill, Source.Source}
use Rattle.drill_replay.specs.{Playing.HasBegun, Playing.IsPartOf, Playing.StandsAtEnd, Summary.drilled}
use Rattle.drill_replay.proofs.Drills.{drilled_begun, part_in}
use Rattle.session.specs.DrillPlaying.{told_of}
use Rattle.session.proofs.DrillPlaying.{all_taken, few_none, starts}
use Rattle.session.proofs.drill_playing.play.Goals as goal

pub loop-done-init : goal.loop-done-init
loop-done-init g c = record {
  size_is = refl;
  taken = starts _ _ c.args.replay.now.world (ap (λ (s : Source). told_of s.size) c.new-pages.ensures) c.new-counts.ensures refl c.requires.world c.requires.first c.requires.limit;
  few = few_none _ _ c.new-counts.ensures;
  routes = c.requires.routes;
  silent = refl;
}

pub returns-in_err-take_item-clause-begun : goal.returns-in_err-take_item-clause-begun
returns-in_err-take_item-clause-begun g c =
    let part = subst (λ k. IsPartOf k (drill (c.loop-done.done + 1)) c.take_item.new.replay.world.replay) c.loop-done.invariant.size_is c.take_item.ensures.part in
    inl (part_in c.args.size (c.loop-done.done + 1) c.args.size c.take_item.new.replay.world.replay (omega arith) part)

pub take_end-requires-clause-taken : goal.take_end-requires-clause-taken
take_end-requires-clause-taken g c =
    all_taken c.loop-done.run c.args.size c.loop-done.done _ c.loop-done.replay.world c.loop-done.invariant.size_is c.loop-done-test.false c.loop-done.auto.done-end c.loop-done.invariant.taken

pub returns-in_err-take_end-clause-begun : goal.returns-in_err-take_end-clause-begun
returns-in_err-take_end-clause-begun g c = inr (subst (λ k. StandsAtEnd k c.take_end.new.replay.world.replay) c.loop-done.invariant.size_is c.in_err-take_end.ensures.err)

pub returns-clause-ok : goal.returns-clause-ok
returns-clause-ok g c = c.in_ok-take_end.ensures.ok ∙ ap drilled c.loop-done.invariant.size_is

pub returns-clause-begun : goal.returns-clause-begun
returns-clause-begun g c =
    subst (λ w. HasBegun c.args.size w) (sym (c.in_ok-take_end.ensures.ok ∙ ap drilled c.loop-done.invariant.size_is)) (drilled_begun c.args.size)
