-- What a replay, a patch stream, a drill, a follower and a split leave.
use Rattle.std.proofs.Common.{◌≡◌, ◌∙◌, sym, ap, subst, refl, inl, inr, List}
use Rattle.arguments.specs.declared.plan.Plan.TheVariants.{Replay, Drill, Patches, Follow, Split}
use Rattle.arguments.specs.Options.{FollowChoices, SplitChoices}
use Rattle.graph_routes.specs.{declared.routes.Route.Route, Routes.AreRoutesIn}
use Rattle.world.specs.{Limit.Limit, Limit.whole, WorldState.WorldState}
use Rattle.following.specs.Following.{follow_moment}
use Rattle.drill_replay.specs.Playing.{IsByFirst}
use Rattle.run_model.specs.{Moment.moment, Moment.stage, Resuming.RunEnding, Stop.stop_of}
use Rattle.run_model.proofs.Ongoing.{none_gone, written_on}
use Rattle.session.specs.Plans.{DrillEnding, FollowEnding}
use Rattle.session.proofs.commands.run_plan.Goals as goal
use Rattle.rdf_term.specs.Limits.{default_max_terms}

pub returns-in-Replay : goal.returns-in-Replay
returns-in-Replay g c = rw c.in-Replay.is (record {
  refused = λ bad. absurd (c.run_replay.ensures.understood bad);
  without = λ none. let never : Replay c.in-Replay.options ≡ Split none.choices = none.is in cc;
  replay = λ run is.
      subst (λ r. RunEnding (stop_of c.run_replay.result.0) r (moment g.S.Source g.R.Revisions g.K.Sink g.F.Snapshots c.args.ports.now c.args.world) (moment g.S.Source g.R.Revisions g.K.Sink g.F.Snapshots c.run_replay.new.ports c.run_replay.result.1))
      (sym is) c.run_replay.ensures.ending;
  drill = λ size never. cc;
  follow = λ choices never. cc;
  limit = inr c.run_replay.ensures.limit;
  unsaved = c.run_replay.ensures.unsaved;
  further = c.run_replay.ensures.further;
})

pub returns-in-Patches : goal.returns-in-Patches
returns-in-Patches g c = rw c.in-Patches.is (record {
  refused = λ bad. absurd (c.run_replay-in-Patches.ensures.understood bad);
  without = λ none. let never : Patches c.in-Patches.options ≡ Split none.choices = none.is in cc;
  replay = λ run is.
      subst (λ r. RunEnding (stop_of c.run_replay-in-Patches.result.0) r (moment g.S.Source g.R.Revisions g.K.Sink g.F.Snapshots c.args.ports.now c.args.world) (moment g.S.Source g.R.Revisions g.K.Sink g.F.Snapshots c.run_replay-in-Patches.new.ports c.run_replay-in-Patches.result.1))
      (sym is) c.run_replay-in-Patches.ensures.ending;
  drill = λ size never. cc;
  follow = λ choices never. cc;
  limit = inr c.run_replay-in-Patches.ensures.limit;
  unsaved = c.run_replay-in-Patches.ensures.unsaved;
  further = c.run_replay-in-Patches.ensures.further;
})

pub returns-in-Split : goal.returns-in-Split
returns-in-Split g c = rw c.in-Split.is (record {
  refused = λ bad.
      let none = c.split.ensures.bad_words bad in
      (record { choices = c.in-Split.options; is = refl; none = none.0 }, none.1, none.2);
  without = λ none.
      let same : c.in-Split.options ≡ none.choices = let it : Split c.in-Split.options ≡ Split none.choices = none.is in cc in
      let no_routes : (routes : List Route) → AreRoutesIn c.in-Split.options.route routes → ⊥ = subst (λ (o : SplitChoices). (routes : List Route) → AreRoutesIn o.route routes → ⊥) (sym same) none.none in
      (c.split.ensures.none no_routes, c.split.ensures.unread no_routes, c.split.ensures.unplayed no_routes);
  replay = λ run is.
      subst (λ r. RunEnding (stop_of c.split.result.0) r (moment g.S.Source g.R.Revisions g.K.Sink g.F.Snapshots c.args.ports.now c.args.world) (moment g.S.Source g.R.Revisions g.K.Sink g.F.Snapshots c.split.new.ports c.split.result.1))
      (sym is.is) (c.split.ensures.ending is.routes is.are);
  drill = λ size never. cc;
  follow = λ choices never. cc;
  limit = c.split.ensures.limit;
  unsaved = c.split.ensures.unsaved;
  further = c.split.ensures.further;
})

pub returns-in-Drill : goal.returns-in-Drill
returns-in-Drill g c = rw c.in-Drill.is (record {
  refused = λ bad. absurd (rw bad at c.drill.ensures.ending);
  without = λ none. let never : Drill c.in-Drill.size ≡ Split none.choices = none.is in cc;
  replay = λ run never. absurd never;
  drill = λ size asked.
      let same : c.in-Drill.size ≡ size = let it : Drill c.in-Drill.size ≡ Drill size = asked in cc in
      subst (λ n. DrillEnding c.drill.result.0 n (stage g.R.Revisions g.K.Sink c.args.ports.now.revisions c.args.ports.now.out c.args.world) (stage g.R.Revisions g.K.Sink c.args.ports.now.revisions c.drill.new.out c.drill.result.1)
      × IsByFirst c.drill.result.1 × (record c.args.ports.now { out = c.drill.new.out } ≡ record c.args.ports.now { out = c.drill.new.out }))
      same (c.drill.ensures.ending, c.drill.ensures.first, refl);
  follow = λ choices never. cc;
  limit = inr (record { terms = ap (λ (l : Limit). l.terms) c.drill.ensures.limit.0; held = c.drill.ensures.limit.1; is = inl c.drill.ensures.limit.0 });
  unsaved = inr refl;
  further = written_on g.S.Source g.R.Revisions g.K.Sink g.F.Snapshots c.args.ports.now c.args.ports.now c.drill.new.out (none_gone g.S.Source g.R.Revisions g.K.Sink g.F.Snapshots _) c.drill.ensures.written;
})

pub returns-in-Follow : goal.returns-in-Follow
returns-in-Follow g c = rw c.in-Follow.is (record {
  refused = λ bad. absurd (c.follow_records.ensures.understood bad);
  without = λ none. let never : Follow c.in-Follow.options ≡ Split none.choices = none.is in cc;
  replay = λ run never. absurd never;
  drill = λ size never. cc;
  follow = λ choices asked.
      let same : c.in-Follow.options ≡ choices = let it : Follow c.in-Follow.options ≡ Follow choices = asked in cc in
      subst (λ (x : FollowChoices). FollowEnding c.follow_records.result.0 x (follow_moment g.S.Source g.K.Sink c.args.ports.now.events c.args.ports.now.out) (follow_moment g.S.Source g.K.Sink c.follow_records.new.ports.events c.follow_records.new.ports.out)
      × (c.follow_records.new.ports ≡ record c.args.ports.now { events = c.follow_records.new.ports.events; out = c.follow_records.new.ports.out }) × (c.follow_records.result.1 ≡ record c.args.world { limit = whole default_max_terms }))
      same (c.follow_records.ensures.ending, c.follow_records.ensures.others, c.follow_records.ensures.empty);
  limit = inr (record { terms = ap (λ (w : WorldState). w.limit.terms) c.follow_records.ensures.empty; held = c.follow_records.ensures.held; is = inl (ap (λ (w : WorldState). w.limit) c.follow_records.ensures.empty) });
  unsaved = inr (ap (λ p. p.snapshot) c.follow_records.ensures.others);
  further = c.follow_records.ensures.further;
})
