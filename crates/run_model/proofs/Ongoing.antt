-- Input, source and output go on, one after the other.
use Rattle.std.proofs.Common.{◌≡◌, ◌∙◌, refl, ◌≤◌, arith}
use Rattle.wq_io.specs.{declared.source.Source.Ghosts as SourceOf, declared.sink.Sink.Ghosts as SinkOf}
use Rattle.revisions.specs.declared.revisions.Revisions.{Ghosts as RevisionsOf}
use Rattle.run_model.specs.declared.ports.Ports.{Ports}
use Rattle.run_model.specs.Moment.{HasGoneOn, HasReadOn, HasSavedOn, HasWrittenOn, HaveGoneOn}
use Rattle.run_model.specs.Moved.{GoesOn, Moved}
use Rattle.checkpoint.specs.declared.snapshots.Snapshots.{Ghosts as SnapshotsOf}
use Rattle.run_model.proofs.Due.{gone-on}

-- a replay goes on, and then further
pub goes_on : (old middle now : Moved) → GoesOn old middle → GoesOn middle now → GoesOn old now
goes_on old middle now first then = record { limit = then.limit ∙ first.limit; routes = then.routes ∙ first.routes; earlier = then.earlier ∙ first.earlier }

module _ {S R K F : Type 0} (input : SourceOf S) (source : RevisionsOf R) (sink : SinkOf K) (file : SnapshotsOf F) where
  -- nothing was asked yet
  pub none_gone : (ports : Ports S R K F) → HaveGoneOn input source sink file ports ports
  none_gone ports = record {
    events = record { faults = omega arith; most = refl };
    revisions = record { known = refl; faults = omega arith; misses = omega arith; most = refl };
    out = record { faults = omega arith; most = refl };
    snapshot = record { faults = omega arith; most = refl };
    resumed = record { faults = omega arith; most = refl };
  }

  -- the input is read
  pub read_on : (old now : Ports S R K F) (events : S) → HaveGoneOn input source sink file old now → input.faults now.events ≤ input.faults events → input.most_faults events ≡ input.most_faults now.events →
      HaveGoneOn input source sink file old (record now { events = events })
  read_on old now events so_far later most = record {
    events = record { faults = omega (arith, so_far.events.faults, later); most = most ∙ so_far.events.most };
    revisions = so_far.revisions;
    out = so_far.out;
    snapshot = so_far.snapshot;
    resumed = so_far.resumed;
  }

  -- the output is written
  pub written_on : (old now : Ports S R K F) (out : K) → HaveGoneOn input source sink file old now → HasWrittenOn sink now.out out → HaveGoneOn input source sink file old (record now { out = out })
  written_on old now out so_far more = record {
    events = so_far.events;
    revisions = so_far.revisions;
    out = record { faults = omega (arith, so_far.out.faults, more.faults); most = more.most ∙ so_far.out.most };
    snapshot = so_far.snapshot;
    resumed = so_far.resumed;
  }

  -- a snapshot is saved
  pub saved_on : (old now : Ports S R K F) (snapshot : F) → HaveGoneOn input source sink file old now → HasSavedOn file now.snapshot snapshot → HaveGoneOn input source sink file old (record now { snapshot = snapshot })
  saved_on old now snapshot so_far more = record {
    events = so_far.events;
    revisions = so_far.revisions;
    out = so_far.out;
    snapshot = record { faults = omega (arith, so_far.snapshot.faults, more.faults); most = more.most ∙ so_far.snapshot.most };
    resumed = so_far.resumed;
  }

  -- records are followed
  pub followed_on : (ports : Ports S R K F) (events : S) (out : K) → input.faults ports.events ≤ input.faults events → input.most_faults events ≡ input.most_faults ports.events → HasWrittenOn sink ports.out out →
      HaveGoneOn input source sink file ports (record ports { events = events; out = out })
  followed_on ports events out later most written = record { events = record { faults = later; most = most }; revisions = (none_gone ports).revisions; out = written; snapshot = (none_gone ports).snapshot; resumed = (none_gone ports).resumed }

  -- a line is read and delivered
  pub delivered_on : (old now : Ports S R K F) (events : S) (revisions : R) (out : K) → HaveGoneOn input source sink file old now → input.faults now.events ≤ input.faults events → input.most_faults events ≡ input.most_faults now.events →
      HasGoneOn source now.revisions revisions → HasWrittenOn sink now.out out → HaveGoneOn input source sink file old (record now { events = events; revisions = revisions; out = out })
  delivered_on old now events revisions out so_far later most fetched written = record {
    events = record { faults = omega (arith, so_far.events.faults, later); most = most ∙ so_far.events.most };
    revisions = gone-on source _ _ _ so_far.revisions fetched;
    out = record { faults = omega (arith, so_far.out.faults, written.faults); most = written.most ∙ so_far.out.most };
    snapshot = so_far.snapshot;
    resumed = so_far.resumed;
  }

  -- the snapshot is read that the run goes on from
  pub resumed_on : (ports : Ports S R K F) (resumed : S) → HasReadOn input ports.resumed resumed → HaveGoneOn input source sink file ports (record ports { resumed = resumed })
  resumed_on ports resumed read = record {
    events = (none_gone ports).events;
    revisions = (none_gone ports).revisions;
    out = (none_gone ports).out;
    snapshot = (none_gone ports).snapshot;
    resumed = read;
  }

  -- one after the other
  pub gone_twice : (old middle now : Ports S R K F) → HaveGoneOn input source sink file old middle → HaveGoneOn input source sink file middle now → HaveGoneOn input source sink file old now
  gone_twice old middle now first then = record {
    events = record { faults = omega (arith, first.events.faults, then.events.faults); most = then.events.most ∙ first.events.most };
    revisions = gone-on source _ _ _ first.revisions then.revisions;
    out = record { faults = omega (arith, first.out.faults, then.out.faults); most = then.out.most ∙ first.out.most };
    snapshot = record { faults = omega (arith, first.snapshot.faults, then.snapshot.faults); most = then.snapshot.most ∙ first.snapshot.most };
    resumed = record { faults = omega (arith, first.resumed.faults, then.resumed.faults); most = then.resumed.most ∙ first.resumed.most };
  }
