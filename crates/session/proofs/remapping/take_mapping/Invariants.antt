-- Some pages were remapped and told, and fewer are stale each time.
use Rattle.std.proofs.Common.{◌≡◌, length}
use Rattle.text_output.specs.Printing.{output}
use Rattle.world.specs.WorldState.{stale}
use Rattle.checkpoint.specs.Saved.{AreWithin}
use Rattle.splitting.specs.Graphs.{MayFollow, routes_of}
use Rattle.run_model.specs.{declared.report.Report.TheVariants.Answers, Moment.HasWrittenOn, Moved.GoesOn, Moved.moved}
use Rattle.run_model.proofs.Pages.{RemapsTold}
use Rattle.session.proofs.remapping.take_mapping.Given as goal

abbrev pub invariant-loop-replay : goal.invariant-loop-replay
invariant-loop-replay g l = record {
  told : RemapsTold l.context.report l.context.reported l.reported l.fn.version l.fn.replay.world l.replay-inside.world (output g.K.Sink l.fn.out) (output g.K.Sink l.out);
  written : HasWrittenOn g.K.Sink l.fn.out l.out;
  kept : MayFollow l.replay-inside.graphs l.replay-inside.world × AreWithin l.replay-inside.earlier;
  same : GoesOn l.fn.replay (moved l.replay-inside.world (routes_of l.replay-inside.graphs) l.replay-inside.earlier);
  silent : l.context.report ≡ Answers → output g.K.Sink l.out ≡ output g.K.Sink l.fn.out;
}

abbrev pub decreases-loop-replay : goal.decreases-loop-replay
decreases-loop-replay g l = length (stale l.replay-inside.world)
