-- A run, what stands at a moment of it, and what is saved of it.
use Rattle.std.specs.Prelude.{◌≡◌, ℕ, List, [], ◌∷◌, ◌++◌, Option, None, Some, ◌⊎◌, ◌+◌, ◌-◌, ◌%◌, ◌^◌, ◌<◌, ◌≤◌, length, map, filter, nat_eq, cond, Bool, true, false}
use Rattle.std.specs.{List.last_or, Option.option_and_then, Option.option_map}
use Rattle.wq_io.specs.{Streams.LastRead, declared.source.Source.Ghosts as SourceOf, declared.sink.Sink.Ghosts as SinkOf}
use Rattle.revisions.specs.{declared.revisions.Revisions.Ghosts as RevisionsOf, Revisions.Contents}
use Rattle.entity_model.specs.declared.mapping.MappingVersion.TheVariants.{One}
use Rattle.replay_model.specs.{Records.Bytes, ReplayState.ReplayState, ReplayState.nothing_delivered_within, Play.risen_by, Play.Replies}
use Rattle.replay_model.specs.{Replies.failed_events, Replies.missing_events, Transcript.Sections, Transcript.asks, Transcript.matches}
use Rattle.replay_parts.specs.Checkpoint.{Checkpoint}
use Rattle.world.specs.{Limit.Limit, WorldState.WorldState}
use Rattle.text_output.specs.Printing.{Output, output}
use Rattle.checkpoint.specs.{Archive.Archive, Archive.archive, Keeping.with_snapshot, declared.snapshots.Snapshots.Ghosts as SnapshotsOf}
use Rattle.following.specs.Input.{Input, input}
use Rattle.snapshot.specs.{declared.counts.Counts.Counts, File.file_text, Whole.Saved}
use Rattle.run_model.specs.{declared.ports.Ports.Ports, declared.report.Report.Report, declared.report.Reported.Reported, Remapping.Mapped, Remapping.mapped_in}
use Rattle.run_model.specs.declared.stop.Halt.{Halt}
use Rattle.run_model.specs.declared.stop.Halt.TheVariants.{Unapplied as NotApplied, Unprinted}
use Rattle.run_model.specs.declared.report.Report.TheVariants.{Answers, Changes}
use Rattle.graph_routes.specs.declared.routes.Route.{Route}
use Rattle.arguments.specs.Options.{Choices, folder_of, max_terms_of}
use Rattle.entity_state.specs.declared.entry.Entry.{Entry}
use Rattle.term_pool.specs.declared.fault.PoolFault.{PoolFault as StoreFault}
use Rattle.term_pool.specs.declared.fault.PoolFault.TheVariants.{Full, OutOfMemory}
use Rattle.delivery.specs.declared.Delivery.{Delivery}
use Rattle.delivery.specs.declared.Delivery.TheVariants.{Event as Told, Watermark, Ask, Mapping, Match}
use Rattle.patch_stream.specs.Stream.{Step, changes, has_change}

-- how many calls a source of revisions had, how many of them found nothing, and how many failed
pub record SourceCounts : Type 0 where
  pub calls : ℕ
  pub misses : ℕ
  pub faults : ℕ

-- the counts of a source of revisions
abbrev pub counts : {R : Type 0} → RevisionsOf R → R → SourceCounts
counts members revisions = record { calls = members.calls revisions; misses = members.misses revisions; faults = members.faults revisions }

-- a counter rose by at least n, or is saturated
abbrev pub RoseBy : ℕ → ℕ → ℕ → Type 0
RoseBy n before now = now < 2 ^ 64 - 1 → before + n ≤ now

-- the calls rose by the fetches that were made, as far as 64 bits count them; the faults rose at least by the failed
-- fetches that the side output names and didn't name before, and so did the misses by the missing revisions
pub record HasCounted (start now : SourceCounts) (before : List Entry) (made : ℕ) (side : List Entry) : Type 0 where
  pub calls : now.calls ≡ risen_by made start.calls
  pub failed : RoseBy (length (failed_events side)) start.faults (length (failed_events before) + now.faults)
  pub missing : RoseBy (length (missing_events side)) start.misses (length (missing_events before) + now.misses)

-- the same if an event wasn't applied: if there is no room, one more fetch was made, which gave its page; if memory was refused, perhaps
-- one more
abbrev pub HasCountedUnapplied : StoreFault → SourceCounts → SourceCounts → List Entry → ℕ → List Entry → Type 0
HasCountedUnapplied Full start now before made side = HasCounted start now before (made + 1) side
HasCountedUnapplied OutOfMemory start now before made side = HasCounted start now before made side ⊎ HasCounted start now before (made + 1) side

-- the same where a delivery wasn't taken wholly; an event that was applied and wasn't told is counted like any other
abbrev pub HasCountedAt : Halt → SourceCounts → SourceCounts → List Entry → ℕ → List Entry → Type 0
HasCountedAt (NotApplied why) start now before made side = HasCountedUnapplied why start now before made side
HasCountedAt (Unprinted why) start now before made side = HasCounted start now before made side

-- a source was asked further: its contents and the most calls that ever fail are the same, and no failure counter decreased
pub record HasGoneOn {R : Type 0} (members : RevisionsOf R) (old new : R) : Type 0 where
  pub known : members.contents new ≡ members.contents old
  pub faults : members.faults old ≤ members.faults new
  pub misses : members.misses old ≤ members.misses new
  pub most : members.most_faults new ≡ members.most_faults old

-- an output was written further: the most calls that ever fail are the same, and the failure counter didn't decrease
pub record HasWrittenOn {K : Type 0} (members : SinkOf K) (old new : K) : Type 0 where
  pub faults : members.faults old ≤ members.faults new
  pub most : members.most_faults new ≡ members.most_faults old

-- an input was read further: the same
pub record HasReadOn {S : Type 0} (members : SourceOf S) (old new : S) : Type 0 where
  pub faults : members.faults old ≤ members.faults new
  pub most : members.most_faults new ≡ members.most_faults old

-- snapshots were written further: the same
pub record HasSavedOn {F : Type 0} (members : SnapshotsOf F) (old new : F) : Type 0 where
  pub faults : members.faults old ≤ members.faults new
  pub most : members.most_faults new ≡ members.most_faults old

-- each of the five ports was used further
pub record HaveGoneOn {S R K F : Type 0} (input : SourceOf S) (source : RevisionsOf R) (sink : SinkOf K) (file : SnapshotsOf F) (old new : Ports S R K F) : Type 0 where
  pub events : HasReadOn input old.events new.events
  pub revisions : HasGoneOn source old.revisions new.revisions
  pub out : HasWrittenOn sink old.out new.out
  pub snapshot : HasSavedOn file old.snapshot new.snapshot
  pub resumed : HasReadOn input old.resumed new.resumed

-- ---- moments

-- the environment of the deliveries: what the source of revisions has in its folder, if it is known, how many distinct terms there may be,
-- and of which triples, what is reported, and by which routes pages go to graphs, if they are routed
pub record Environment : Type 0 where
  pub known : Option (ℕ → Option Bytes)
  pub limit : Limit
  pub report : Report
  pub routes : Option (List Route)

-- the environment of these routes, of a report, of a source with these contents, of a folder, and of a store with this limit
abbrev pub environment : Option (List Route) → Report → Option Contents → List ℕ → Limit → Environment
environment routes report contents folder limit = record { known = option_map (λ (c : Contents). c folder) contents; limit = limit; report = report; routes = routes }

-- what the taking of deliveries changes: the output, the counts of the source of revisions, the world, and the versions by which
-- it maps
pub record Stage : Type 0 where
  pub output : Output
  pub counts : SourceCounts
  pub world : ReplayState
  pub mapped : Mapped

-- the stage of this output, these counts and this world
abbrev pub stage_in : Output → SourceCounts → WorldState → Stage
stage_in out counts world = record { output = out; counts = counts; world = world.replay; mapped = mapped_in world }

-- the stage that these are
abbrev pub stage : {R K : Type 0} → RevisionsOf R → SinkOf K → R → K → WorldState → Stage
stage source sink revisions out world = stage_in (output sink out) (counts source revisions) world

-- before the first run nothing was reported
abbrev pub no_numbers : Counts
no_numbers = record { asks = 0; matches = 0; patches = 0; lines = 0 }

-- where a run begins: a stage, and how many asks and matches earlier runs have answered, how many records of changes they wrote, and how
-- many lines they took
pub record Beginning : Type 0 where
  pub output : Output
  pub counts : SourceCounts
  pub world : ReplayState
  pub mapped : Mapped
  pub numbered : Counts

-- a run begins at this stage, where so many were reported
abbrev pub start_in : Counts → Stage → Beginning
start_in numbered s = record { output = s.output; counts = s.counts; world = s.world; mapped = s.mapped; numbered = numbered }

-- what deliveries go on from
abbrev pub standing : Beginning → Checkpoint
standing start = record { state = start.world; version = start.mapped.version; asked = start.numbered.asks; matched = start.numbered.matches }

-- the horizon of the world, if it has one
abbrev pub horizon_at : Beginning → Option ℕ
horizon_at start = start.world.buffer.horizon

-- nothing was delivered before the run
pub record IsFirst (start : Beginning) : Type 0 where
  pub world : start.world ≡ nothing_delivered_within (horizon_at start)
  pub mapping : start.mapped.version ≡ One
  pub numbered : start.numbered ≡ no_numbers

-- the stage with these counts and this world
abbrev pub onward : Stage → SourceCounts → ReplayState → Stage
onward s counts world = record { output = s.output; counts = counts; world = world; mapped = s.mapped }

-- the stage with this world
abbrev pub with_world : Stage → ReplayState → Stage
with_world s world = record { output = s.output; counts = s.counts; world = world; mapped = s.mapped }

-- the stage with this output
abbrev pub with_output : Stage → Output → Stage
with_output s out = record { output = out; counts = s.counts; world = s.world; mapped = s.mapped }

-- the stage with these versions
abbrev pub with_mapped : Stage → Mapped → Stage
with_mapped s mapped = record { output = s.output; counts = s.counts; world = s.world; mapped = mapped }

-- what stands at a moment of a run: the input and its last read, where it is told; the stage; the snapshots that are kept, and the one that
-- the run goes on from
pub record Moment : Type 0 where
  pub input : Input
  pub last_read : Option LastRead
  pub stage : Stage
  pub snapshot : Archive
  pub resumed : Input

-- the moment that these are
abbrev pub moment : {S R K F : Type 0} → SourceOf S → RevisionsOf R → SinkOf K → SnapshotsOf F → Ports S R K F → WorldState → Moment
moment events source sink file ports world = record {
  input = input events ports.events;
  last_read = events.last ports.events;
  stage = stage source sink ports.revisions ports.out world;
  snapshot = archive file ports.snapshot;
  resumed = input events ports.resumed;
}

-- a run: what was chosen, the environment of its deliveries, and how many asks and matches earlier runs have answered, how many records of
-- changes they wrote, and how many lines they took
pub record Run : Type 0 where
  pub choices : Choices
  pub environment : Environment
  pub numbered : Counts

-- where a run begins
abbrev pub start_of : Run → Moment → Beginning
start_of run before = start_in run.numbered before.stage

-- how many distinct terms a run of these choices has room for, and of which triples
abbrev pub limit_of : Choices → Limit
limit_of choices = record { terms = max_terms_of choices; lean = choices.lean }

-- the world that a run of these choices begins with: empty, with the horizon and the limit that were chosen, and with the first
-- version of the mapping
abbrev pub world_at_start : Choices → WorldState
world_at_start choices = record { replay = nothing_delivered_within choices.horizon; limit = limit_of choices; mapping = One; by_two = [] }

-- the first run of these choices over a source with these contents, of which this is reported, with these routes
abbrev pub run_of : Option (List Route) → Report → Option Contents → Choices → Run
run_of routes report contents choices = record {
  choices = choices;
  environment = environment routes report contents (folder_of choices) (limit_of choices);
  numbered = no_numbers;
}

-- the same run behind earlier ones that left these counts
abbrev pub behind : Counts → Run → Run
behind numbered run = record { choices = run.choices; environment = run.environment; numbered = numbered }

-- ---- what is printed at the end

-- the sections that the options ask for
abbrev pub sections_of : Choices → Sections
sections_of c = record { export = c.export; state = c.state; side = c.side }

-- ---- what is saved

-- so many asks were answered or records written; and where questions are answered, a step changed what is stored, or none did
abbrev pub reported_as : ℕ → Bool → Reported
reported_as number changed = record { number = number; changed = changed }

-- the counts that a later run goes on with, where earlier runs left these, this was reported, so many matches were delivered, and so many
-- lines were taken. Where questions are answered and what is stored changed, the next number of records is passed over: no record tells of
-- these changes, so the number is missing in every stream
abbrev pub numbers_after : Counts → Report → Reported → ℕ → ℕ → Counts
numbers_after earlier Answers reported matched lines = record { asks = reported.number; matches = matched; patches = cond reported.changed (earlier.patches + 1) earlier.patches; lines = lines }
numbers_after earlier Changes reported matched lines = record { asks = earlier.asks; matches = earlier.matches; patches = reported.number; lines = lines }

-- how many questions were answered, with these deliveries and those of earlier runs, and one number of records passed over if one of these
-- steps changed what is stored; or how many records of changes were written, with those of these steps; and how many lines were taken, each
-- of which is a delivery
abbrev pub numbers_of : Report → (Replies → List Step) → List Delivery → Beginning → Replies → Counts
numbers_of Answers steps ds start replies = numbers_after start.numbered Answers (reported_as (start.numbered.asks + asks ds) (has_change (steps replies))) (start.numbered.matches + matches ds) (start.numbered.lines + length ds)
numbers_of Changes steps ds start replies = numbers_after start.numbered Changes (reported_as (start.numbered.patches + changes (steps replies)) false) start.numbered.matches (start.numbered.lines + length ds)

-- what is saved of a stage with these counts
abbrev pub saved_at : Stage → Counts → Saved
saved_at now numbers = record { version = now.mapped.version; counts = numbers; state = now.world }

-- the snapshot of a stage with these counts
abbrev pub snapshot_text : Counts → Stage → List ℕ
snapshot_text numbers now = file_text (saved_at now numbers)

-- at the end of the input, with `--save`, the snapshot of these bytes was kept behind the others; without it none was
abbrev pub HasSaved : Bool → List ℕ → Option (List (List ℕ)) → Option (List (List ℕ)) → Type 0
HasSaved true text old new = new ≡ old
HasSaved false text old new = new ≡ with_snapshot old text

-- the bytes of the snapshot that was kept last, where those that are kept are told
abbrev pub kept_last : Archive → Option (List ℕ)
kept_last snapshots = option_and_then (last_or None) snapshots.kept

-- ---- saves on the way

-- whether a delivery is a watermark
abbrev pub is_mark : Delivery → Bool
is_mark (Told e) = false
is_mark (Watermark m) = true
is_mark (Ask pattern) = false
is_mark (Mapping version) = false
is_mark (Match query) = false

-- how many watermarks these deliveries have
abbrev pub marks : List Delivery → ℕ
marks ds = length (filter is_mark ds)

-- the first of these deliveries up to each watermark, the fewest first
abbrev pub up_to_marks : List Delivery → List (List Delivery)
up_to_marks [] = []
up_to_marks (d ∷ ds) = cond (is_mark d) ((d ∷ []) ∷ []) [] ++ map (λ first. d ∷ first) (up_to_marks ds)

-- whether a save is due behind so many watermarks, of which every so many-th is followed by one, if any is
abbrev pub is_save_due : Option ℕ → ℕ → Bool
is_save_due None count = false
is_save_due (Some every) count = nat_eq (count % every) 0

-- the first of these deliveries up to each watermark that is followed by a save, the fewest first
abbrev pub up_to_saves : Option ℕ → List Delivery → List (List Delivery)
up_to_saves every ds = filter (λ first. is_save_due every (marks first)) (up_to_marks ds)
