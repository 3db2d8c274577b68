-- A run was begun in a new world, and no call of its ports was to fail.
use Rattle.std.proofs.Common.{ap, inl, length, refl, Some}
use Rattle.wq_io.specs.contracts.memory.MemorySourceSource.TheImpl.{ghosts as source_members}
use Rattle.wq_io.specs.contracts.memory.MemorySinkSink.TheImpl.{ghosts as sink_members}
use Rattle.checkpoint.specs.contracts.memory.MemorySnapshotsSnapshots.TheImpl.{ghosts as snapshots_members}
use Rattle.world.specs.WorldState.{WorldState}
use Rattle.memory_run.specs.contracts.pages.LentPagesRevisions.TheImpl.{ghosts as pages_members}
use Rattle.memory_run.proofs.Begun.{as_many, is_run, no_failures}
use Rattle.memory_run.proofs.running.run_in_new_world.Goals as goal

pub returns : goal.returns
returns c =
    let same = c.run-status.ensures.further in
    inl (is_run source_members pages_members sink_members snapshots_members _ _ _ _ _ _ _ _
    (record { input = refl; resumed = refl; printed = ap Some c.requires.out.0; kept = ap Some c.requires.snapshots.0; world = ap (λ (w : WorldState). w.replay) c.in-Ok.ensures })
    (record { printed_are = refl; kept_are = refl })
    (record {
      reads = no_failures c.args.ports.now.events.calls (ap length c.requires.reads);
      loads = no_failures c.args.ports.now.resumed.calls (ap length c.requires.loads);
      fetches = refl;
      writes = no_failures c.args.ports.now.out.calls (ap length c.requires.out.1);
      saves = no_failures c.args.ports.now.snapshot.calls (ap length c.requires.snapshots.1);
    })
    (record {
      reads = no_failures c.run-status.new.ports.events.calls (as_many _ _ same.events.most c.requires.reads);
      loads = no_failures c.run-status.new.ports.resumed.calls (as_many _ _ same.resumed.most c.requires.loads);
      fetches = refl;
      writes = no_failures c.run-status.new.ports.out.calls (as_many _ _ same.out.most c.requires.out.1);
      saves = no_failures c.run-status.new.ports.snapshot.calls (as_many _ _ same.snapshot.most c.requires.snapshots.1);
    })
    c.run-status.ensures.refused c.run-status.ensures.words c.run-status.ensures.bad_words c.run-status.ensures.replay
    c.run-status.ensures.drill c.run-status.ensures.follow c.run-status.ensures.unsaved)
