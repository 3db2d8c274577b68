-- One due event is applied and told: the world still leads to its play, the counts rise with its fetch, and fewer events wait.
use Rattle.std.proofs.Common.{refl, sym, subst, ◌∙◌, ap, inl, inr, ⊎_elim, ◌≡◌, ◌⊎◌, ℕ, suc, ◌+◌, ◌-◌, ◌^◌, ◌<◌, ◌≤◌, Bool, true, false, cond, max, min, List, [], ◌∷◌, ◌++◌, length, length-append, Option, None, Some, Result, Ok, Err, arith}
use Rattle.entity_model.specs.{declared.id.EntityId.EntityId, declared.event.Event.Event, declared.mapping.MappingVersion.MappingVersion}
use Rattle.entity_state.specs.State.{state_after, is_deleted}
use Rattle.entity_state.specs.{declared.entry.Cause.Cause, declared.entry.Entry.Entry}
use Rattle.entity_state.specs.declared.entry.Cause.TheVariants.{Missing, Failed, Unfit as NoDocument}
use Rattle.revisions.specs.{Revisions.Contents, Revisions.counted, declared.revisions.Revisions.Ghosts as RevisionsOf}
use Rattle.reorder_buffer.specs.Buffered.{first_due}
use Rattle.replay_model.specs.{Records.Bytes, Records.record_of, Play.Replies, Play.risen_by}
use Rattle.replay_model.specs.Replies.{GivesDocument, failed_events, missing_events, reply_there}
use Rattle.replay_model.specs.ReplayState.{ReplayState, after_applying, after_next, after_some}
use Rattle.replay_model.specs.{Explained.AgreeOnApplied, Explained.Explained, Explained.is_fetching, Explained.revision_wanted, Union.union}
use Rattle.rdf_term.specs.{declared.triple.Triple.Triple, Order.triple_cmp}
use Rattle.replay_model.proofs.{Documents.documents-apply, Explaining.Explained-next, Explaining.Next, Explaining.next_by}
use Rattle.replay_model.proofs.Fetching.{failed-applying, failed_by, missing-applying, missing_of}
use Rattle.replay_model.proofs.ToldContents.{unfit_there}
use Rattle.fetched_pages.specs.{Reply.IsReply, Meaning.meaning}
use Rattle.world.specs.{Applying.Applies, Applying.IsShown, Applying.calls_after, Applying.outcome_of_reply, WorldState.WorldState}
use Rattle.world.specs.{declared.applied.AppliedEvent.AppliedEvent, declared.applied.Outcome.Outcome}
use Rattle.world.specs.declared.applied.Outcome.TheVariants.{Same, Dropped}
use Rattle.text_output.specs.{declared.write.Unwritten.Unwritten, Printing.Output}
use Rattle.patch_stream.specs.Stream.{Step, step, steps_due}
use Rattle.world.specs.Limit.{Limit}
use Rattle.run_model.specs.Moment.{SourceCounts, HasCounted, HasCountedUnapplied, HasGoneOn, RoseBy, Beginning, Environment, Stage, onward, environment, stage_in, with_mapped, with_world}
use Rattle.run_model.specs.{Course.Course, declared.report.Report.Report, declared.report.Reported.Reported, declared.report.Report.TheVariants.Answers}
use Rattle.run_model.specs.declared.stop.Halt.TheVariants.{Unapplied as NotApplied, Unprinted}
use Rattle.run_model.specs.Remapping.{HaveRoom, HaveRoomBefore, needed_by, needed_by_due, needed_for, KeepsVersion, Mapped, Need, held_triples, mapped_by}
use Rattle.run_model.specs.Report.{HasReported, HasReportedAt}
use Rattle.run_model.specs.Taking.{HoldsDocuments, IsWithin, judgement, replies_there}
use Rattle.run_model.specs.Delivering.{TellsStepBy, AppliesDue, IsUnderWay, Leads, StaysWithin}
use Rattle.graph_routes.specs.declared.routes.Route.{Route}
use Rattle.term_pool.specs.declared.fault.PoolFault.{PoolFault as StoreFault}
use Rattle.term_pool.specs.declared.fault.PoolFault.TheVariants.{Full, OutOfMemory}
use Rattle.run_model.proofs.Needed.{due-some, next_met, room_replied}
use Rattle.run_model.proofs.Reports.{reported_but_last, reported_next, reported_still, step_handed, steps-some, still_answered}
use Rattle.run_model.proofs.Versions.{all_held_by}

-- events are applied and told: the world leads where it led, where every page was mapped by the version of the play
pub record Goes (environment : Environment) (reported reported_now : Reported) (before now : Stage) : Type 0 where
  pub leads : (course : Course) (begun : Replies → ReplayState) (start : Beginning) → before.mapped ≡ mapped_by course.version before.world.played.records → IsUnderWay environment course begun reported start before → IsUnderWay environment course begun reported_now start now
  pub answered : environment.report ≡ Answers → reported_now.number ≡ reported.number

-- the counts after an application, as its outcome shows
pub record Rises (outcome : Outcome) (before now : SourceCounts) : Type 0 where
  pub shown : IsShown outcome before.misses now.misses before.faults now.faults
  pub calls : now.calls ≡ calls_after outcome before.calls
  pub more_faults : before.faults ≤ now.faults
  pub more_misses : before.misses ≤ now.misses

-- a reply that agrees with what the source has is honest
pub reply_is_honest : (routes : Option (List Route)) (report : Report) (contents : Option Contents) (folder : List ℕ) (limit : Limit) (x : EntityId) (r : ℕ) (reply : Result Bytes Cause) →
    IsReply contents folder x r reply → (there : ℕ → Option Bytes) → (environment routes report contents folder limit).known ≡ Some there →
    (reply ≡ Err Failed) ⊎ (reply ≡ reply_there judgement x (there r))
reply_is_honest routes report None folder limit x r reply is there known = cc
reply_is_honest routes report (Some c) folder limit x r (Ok bytes) is there known =
    let same : c folder ≡ there = cc in
    let found : there r ≡ Some bytes = ap (λ (f : ℕ → Option Bytes). f r) (sym same) ∙ is.1 in
    inr (rw (found, is.0) refl)
reply_is_honest routes report (Some c) folder limit x r (Err Missing) is there known =
    let same : c folder ≡ there = cc in
    let found : there r ≡ None = ap (λ (f : ℕ → Option Bytes). f r) (sym same) ∙ is in
    inr (rw found refl)
reply_is_honest routes report (Some c) folder limit x r (Err Failed) is there known = inl refl
reply_is_honest routes report (Some c) folder limit x r (Err (NoDocument unfit)) is there known =
    let same : c folder ≡ there = cc in
    inr (unfit_there judgement x unfit (c folder r) is ∙ ap (λ (f : ℕ → Option Bytes). reply_there judgement x (f r)) same)

-- what an application leads to, by whether it fetches
abbrev outcome_by : Bool → Bool → Result Bytes Cause → Outcome
outcome_by fetching deleting reply = cond fetching (outcome_of_reply reply) (cond deleting Dropped Same)

calls_by : (fetching deleting : Bool) (reply : Result Bytes Cause) (calls : ℕ) → calls_after (outcome_by fetching deleting reply) calls ≡ cond fetching (counted calls) calls
calls_by true deleting (Ok bytes) calls = refl
calls_by true deleting (Err cause) calls = refl
calls_by false true reply calls = refl
calls_by false false reply calls = refl

failed_shown : (fetching deleting : Bool) (reply : Result Bytes Cause) (e : Event) (misses misses_now faults faults_now : ℕ) →
    IsShown (outcome_by fetching deleting reply) misses misses_now faults faults_now → faults ≤ faults_now → RoseBy (length (failed_by fetching e reply)) faults faults_now
failed_shown true deleting (Ok bytes) e misses misses_now faults faults_now shown more = λ below. omega arith
failed_shown true deleting (Err Missing) e misses misses_now faults faults_now shown more = λ below. omega arith
failed_shown true deleting (Err Failed) e misses misses_now faults faults_now shown more = λ below. omega arith
failed_shown true deleting (Err (NoDocument why)) e misses misses_now faults faults_now shown more = λ below. omega arith
failed_shown false true reply e misses misses_now faults faults_now shown more = λ below. omega arith
failed_shown false false reply e misses misses_now faults faults_now shown more = λ below. omega arith

missing_shown : (fetching deleting : Bool) (reply : Result Bytes Cause) (e : Event) (misses misses_now faults faults_now : ℕ) →
    IsShown (outcome_by fetching deleting reply) misses misses_now faults faults_now → misses ≤ misses_now → RoseBy (length (cond fetching (missing_of e reply) [])) misses misses_now
missing_shown true deleting (Ok bytes) e misses misses_now faults faults_now shown more = λ below. omega arith
missing_shown true deleting (Err Missing) e misses misses_now faults faults_now shown more = λ below. omega arith
missing_shown true deleting (Err Failed) e misses misses_now faults faults_now shown more = λ below. omega arith
missing_shown true deleting (Err (NoDocument why)) e misses misses_now faults faults_now shown more = λ below. omega arith
missing_shown false true reply e misses misses_now faults faults_now shown more = λ below. omega arith
missing_shown false false reply e misses misses_now faults faults_now shown more = λ below. omega arith

-- a count that rises once more or not
risen_by-more : (made count : ℕ) (fetching : Bool) → cond fetching (counted (risen_by made count)) (risen_by made count) ≡ risen_by (made + cond fetching 1 0) count
risen_by-more made count true = omega arith
risen_by-more made count false = ap (λ n. max count (min n (2 ^ 64 - 1))) (omega arith)

-- a count that rose twice, where so many were named before
pub rose_twice : (named m n first before now : ℕ) → RoseBy m first (named + before) → RoseBy n before now → before ≤ now → RoseBy (m + n) first (named + now)
rose_twice named m n first before now rose then_rose more = λ below.
    let earlier : named + before < 2 ^ 64 - 1 = omega arith in
    let later : now < 2 ^ 64 - 1 = omega arith in
    omega (arith, rose earlier, then_rose later)

counted_applying : (contents : Option Contents) (folder : List ℕ) (start before now : SourceCounts) (first : List Entry) (made : ℕ) (old new : ReplayState) (applied : AppliedEvent) → Applies contents folder old new applied →
    Rises applied.outcome before now → HasCounted start before first made old.played.side → HasCounted start now first (made + cond (is_fetching old applied.event) 1 0) new.played.side
counted_applying contents folder start before now first made old new applied a rises so_far =
    let e : Event = applied.event in
    let fetching : Bool = is_fetching old e in
    let deleting : Bool = is_deleted (state_after (record_of old.played.records e.entity).state e).mode in
    let failed_now : length (failed_events new.played.side) ≡ length (failed_events old.played.side) + length (failed_by fetching e a.reply) =
    ap (λ (w : ReplayState). length (failed_events w.played.side)) a.new_is ∙ ap length (failed-applying (λ q r. a.reply) old e) ∙ length-append (failed_events old.played.side) (failed_by fetching e a.reply) in
    let missing_now : length (missing_events new.played.side) ≡ length (missing_events old.played.side) + length (cond fetching (missing_of e a.reply) []) =
    ap (λ (w : ReplayState). length (missing_events w.played.side)) a.new_is ∙ ap length (missing-applying (λ q r. a.reply) old e) ∙ length-append (missing_events old.played.side) (cond fetching (missing_of e a.reply) []) in
    let Shown : Outcome → Type 0 = λ outcome. IsShown outcome before.misses now.misses before.faults now.faults in
    let shown : IsShown (outcome_by fetching deleting a.reply) before.misses now.misses before.faults now.faults = subst Shown a.outcome rises.shown in
    let Failed_by : ℕ → Type 0 = λ n. RoseBy n start.faults (length (failed_events first) + now.faults) in
    let Missing_by : ℕ → Type 0 = λ n. RoseBy n start.misses (length (missing_events first) + now.misses) in
    record {
      calls =
          rises.calls ∙ ap (λ outcome. calls_after outcome before.calls) a.outcome ∙ calls_by fetching deleting a.reply before.calls
          ∙ ap (λ n. cond fetching (counted n) n) so_far.calls ∙ risen_by-more made start.calls fetching;
      failed = subst Failed_by (sym failed_now) (rose_twice (length (failed_events first)) _ _ start.faults before.faults now.faults so_far.failed (failed_shown fetching deleting a.reply e _ _ _ _ shown rises.more_faults) rises.more_faults);
      missing = subst Missing_by (sym missing_now) (rose_twice (length (missing_events first)) _ _ start.misses before.misses now.misses so_far.missing (missing_shown fetching deleting a.reply e _ _ _ _ shown rises.more_misses) rises.more_misses);
    }

-- a reply that gives bytes gives a document
reply_gives : (contents : Option Contents) (folder : List ℕ) (x : EntityId) (r : ℕ) (reply : Result Bytes Cause) → IsReply contents folder x r reply → GivesDocument judgement x reply
reply_gives contents folder x r (Ok bytes) is = is.0
reply_gives contents folder x r (Err cause) is = tt

-- the step from one stage to another
abbrev pub step_between : Stage → Stage → Step
step_between before now = step (held_triples before.mapped before.world.played.records) (held_triples now.mapped now.world.played.records)

-- what a play has right after the least due event was applied, but for what is reported of it
pub record LeadsOn (environment : Environment) (course : Course) (reported : Reported) (start : Beginning) (before now : Stage) (x : Leads environment course reported start before) : Type 0 where
  pub made : ℕ
  pub explained : Explained judgement environment.known course.state course.fetched made now.world
  pub counted : HasCounted start.counts now.counts start.world.played.side made now.world.played.side
  pub documents : HoldsDocuments now.world
  pub agree_before : (others : Replies) → AgreeOnApplied now.world explained.replies others → AgreeOnApplied before.world x.explained.replies others
  pub is_next : (others : Replies) → AgreeOnApplied now.world explained.replies others → now.world ≡ after_next others before.world
  pub roomed : (others : Replies) → AgreeOnApplied now.world explained.replies others → HaveRoomBefore environment.limit (needed_by_due course.version others now.world) (course.needed others)
  pub first : (others : Replies) → AgreeOnApplied now.world explained.replies others → steps_due course.version others before.world ≡ step_between before now ∷ steps_due course.version others now.world

-- an application
pub record IsApplied (contents : Option Contents) (folder : List ℕ) (limit : Limit) (before now : Stage) : Type 0 where
  pub applied : AppliedEvent
  pub applies : Applies contents folder before.world now.world applied
  pub rises : Rises applied.outcome before.counts now.counts
  pub keeps : KeepsVersion before.mapped now.mapped before.world.played.records now.world.played.records
  pub has_room : (version : MappingVersion) → before.mapped ≡ mapped_by version before.world.played.records →
      HaveRoom limit (cond (is_fetching before.world applied.event) (needed_for version before.world.played.records applied.event.entity (revision_wanted before.world applied.event) applies.reply) [])

-- the world still leads to its play, one application further
applies-on : (routes : Option (List Route)) (report : Report) (contents : Option Contents) (folder : List ℕ) (limit : Limit) (before now : Stage) → IsApplied contents folder limit before now →
    (course : Course) (reported : Reported) (start : Beginning) → before.mapped ≡ mapped_by course.version before.world.played.records →
    (x : Leads (environment routes report contents folder limit) course reported start before) → LeadsOn (environment routes report contents folder limit) course reported start before now x
applies-on routes report contents folder limit before now is course reported start is_mapped x =
    let known : Option (ℕ → Option Bytes) = (environment routes report contents folder limit).known in
    let a = is.applies in
    let e : Event = is.applied.event in
    let old : ReplayState = before.world in
    let made : ℕ = x.made + cond (is_fetching old e) 1 0 in
    let next : Next judgement known course.state course.fetched x.made old e a.reply x.explained =
    Explained-next judgement known course.state course.fetched x.made old e a.reply x.explained a.due
    (λ there told _. reply_is_honest routes report contents folder limit e.entity _ a.reply a.is_reply there told)
    (reply_gives contents folder e.entity _ a.reply a.is_reply) in
    let same : (others : Replies) → AgreeOnApplied (next_by old e a.reply) next.explained.replies others → next_by old e a.reply ≡ after_applying others old (Some e) =
    λ others agree. next.is_next others agree ∙ ap (after_applying others old) a.due in
    let Counted : ReplayState → Type 0 = λ w. HasCounted start.counts now.counts start.world.played.side made w.played.side in
    let There : ReplayState → Type 0 = λ w. LeadsOn (environment routes report contents folder limit) course reported start before (with_world now w) x in
    let there : There (next_by old e a.reply) = record {
      made = made;
      explained = next.explained;
      counted = subst Counted a.new_is (counted_applying contents folder start.counts before.counts now.counts start.world.played.side x.made old now.world is.applied a is.rises x.counted);
      documents = documents-apply judgement e a.reply (reply_gives contents folder e.entity _ a.reply a.is_reply) old.played x.documents;
      agree_before = next.agree_before;
      is_next = next.is_next;
      roomed = λ others agree.
          let needed_now : List Need = needed_by course.version others old.played.records e (record_of old.played.records e.entity) in
          next_met limit (needed_by_due course.version others (next_by old e a.reply)) (course.needed others) needed_now (needed_by_due course.version others old)
          (due-some course.version others old e a.due ∙ ap (λ w. needed_now ++ needed_by_due course.version others w) (sym (same others agree)))
          (room_replied old e limit course.version a.reply others (same others agree) (is.has_room course.version is_mapped))
          (x.roomed others (next.agree_before others agree));
      first = λ others agree.
          let stored : ReplayState → List Triple = λ w. union triple_cmp (meaning course.version) w.played.records in
          let mapped_now : now.mapped ≡ mapped_by course.version (next_by old e a.reply).played.records = is.keeps course.version is_mapped ∙ ap (λ (w : ReplayState). mapped_by course.version w.played.records) a.new_is in
          steps-some course.version others old e a.due
          ∙ ap (λ w. step (stored old) (stored w) ∷ steps_due course.version others w) (sym (same others agree))
          ∙ (λ i. step (sym (all_held_by course.version before.mapped old.played.records is_mapped) i) (sym (all_held_by course.version now.mapped (next_by old e a.reply).played.records mapped_now) i)
          ∷ steps_due course.version others (next_by old e a.reply));
    } in
    subst There (sym a.new_is) there

-- and it is told
pub applies-leads : (routes : Option (List Route)) (report : Report) (contents : Option Contents) (folder : List ℕ) (limit : Limit) (reported reported_now : Reported) (before now : Stage) → IsApplied contents folder limit before now →
    TellsStepBy report reported (step_between before now) before.output now.output (Ok reported_now) → Goes (environment routes report contents folder limit) reported reported_now before now
applies-leads routes report contents folder limit reported reported_now before now is tells = record {
  leads = λ course begun start is_mapped under_way.
      let x = under_way.leads in
      let on = applies-on routes report contents folder limit before now is course reported start is_mapped x in
      record {
        leads = record {
          made = on.made;
          explained = on.explained;
          counted = on.counted;
          documents = on.documents;
          says = λ others agree. reported_next report course reported reported_now start before now (step_between before now) others (on.first others agree) tells (x.says others (on.agree_before others agree));
          roomed = on.roomed;
          handed = λ quiet. step_handed report reported reported_now (step_between before now) before.output now.output tells (x.handed quiet);
        };
        steps = suc under_way.steps;
        is = λ others agree. on.is_next others agree ∙ ap (after_next others) (under_way.is others (on.agree_before others agree));
      };
  answered = λ answers. still_answered report reported reported_now _ before.output now.output answers tells;
}

-- before the first event
pub goes-nowhere : (environment : Environment) (reported : Reported) (now : Stage) → Goes environment reported reported now now
goes-nowhere environment reported now = record { leads = λ course begun start is_mapped under_way. under_way; answered = λ answers. refl }

-- some events, and then more
pub goes-further : (environment : Environment) (reported between reported_now : Reported) (before middle now : Stage) → KeepsVersion before.mapped middle.mapped before.world.played.records middle.world.played.records →
    Goes environment reported between before middle → Goes environment between reported_now middle now → Goes environment reported reported_now before now
goes-further environment reported between reported_now before middle now keeps first then = record {
  leads = λ course begun start is_mapped under_way. then.leads course begun start (keeps course.version is_mapped) (first.leads course begun start is_mapped under_way);
  answered = λ answers. then.answered answers ∙ first.answered answers;
}

-- a source was asked further, twice
pub gone-on : {R : Type 0} (members : RevisionsOf R) (old between new : R) → HasGoneOn members old between → HasGoneOn members between new → HasGoneOn members old new
gone-on members old between new x y = record { known = y.known ∙ x.known; faults = omega (arith, x.faults, y.faults); misses = omega (arith, x.misses, y.misses); most = y.most ∙ x.most }

-- the counts of a source rise, and its calls by so many fetches
counted_on : (start now last : SourceCounts) (first : List Entry) (made more : ℕ) (side : List Entry) → last.calls ≡ risen_by more start.calls → now.faults ≤ last.faults → now.misses ≤ last.misses → HasCounted start now first made side →
    HasCounted start last first more side
counted_on start now last first made more side calls faults misses so_far = record {
  calls = calls;
  failed = λ below. let earlier : length (failed_events first) + now.faults < 2 ^ 64 - 1 = omega arith in omega (arith, so_far.failed earlier);
  missing = λ below. let earlier : length (missing_events first) + now.misses < 2 ^ 64 - 1 = omega arith in omega (arith, so_far.missing earlier);
}

-- the calls after a call that applied nothing: where there was no room one fetch was made, and where memory was refused at most one
abbrev pub LastCalls : StoreFault → ℕ → ℕ → Type 0
LastCalls Full before now = now ≡ counted before
LastCalls OutOfMemory before now = (now ≡ before) ⊎ (now ≡ counted before)

-- the counts after a call that applied nothing
pub record Lasts (why : StoreFault) (before now : SourceCounts) : Type 0 where
  pub calls : LastCalls why before.calls now.calls
  pub faults : before.faults ≤ now.faults
  pub misses : before.misses ≤ now.misses

counted_once : (start before now : SourceCounts) (first : List Entry) (made : ℕ) (side : List Entry) → now.calls ≡ counted before.calls → before.faults ≤ now.faults → before.misses ≤ now.misses → HasCounted start before first made side →
    HasCounted start now first (made + 1) side
counted_once start before now first made side one faults misses so_far =
    counted_on start before now first made (made + 1) side (one ∙ ap counted so_far.calls ∙ risen_by-more made start.calls true) faults misses so_far

counted_last : (why : StoreFault) (start before now : SourceCounts) (first : List Entry) (made : ℕ) (side : List Entry) → Lasts why before now → HasCounted start before first made side → HasCountedUnapplied why start now first made side
counted_last Full start before now first made side last so_far = counted_once start before now first made side last.calls last.faults last.misses so_far
counted_last OutOfMemory start before now first made side last so_far = ⊎_elim
    (λ same. inl (counted_on start before now first made made side (same ∙ so_far.calls) last.faults last.misses so_far))
    (λ one. inr (counted_once start before now first made side one last.faults last.misses so_far))
    last.calls

-- no call was made
pub no_call : (counts : SourceCounts) → Lasts OutOfMemory counts counts
no_call counts = record { calls = inl refl; faults = omega arith; misses = omega arith }

-- no event is left: the last call has made no fetch
pub none_due : (environment : Environment) (reported reported_now : Reported) (before : Stage) (out : Output) (now last : SourceCounts) (world new : WorldState) → Goes environment reported reported_now before (stage_in out now world) →
    last.calls ≡ now.calls → now.faults ≤ last.faults → now.misses ≤ last.misses → new ≡ world → first_due world.replay.buffer ≡ None → AppliesDue environment reported reported_now before (stage_in out last new)
none_due environment reported reported_now before out now last world new goes calls faults misses same none = rw same (record {
  leads = λ course start is_mapped leads.
      let there = (goes.leads course (λ replies. before.world) start is_mapped (record { leads = leads; steps = 0; is = λ others agree. refl })).leads in
      record {
        made = there.made;
        explained = there.explained;
        counted = counted_on start.counts now last start.world.played.side _ _ _ (calls ∙ there.counted.calls) faults misses there.counted;
        documents = there.documents;
        says = λ others agree. reported_still environment.report course course reported_now start (stage_in out now world) (stage_in out last world) others refl (λ answers. refl) (λ first is. is) (there.says others agree);
        roomed = there.roomed;
        handed = there.handed;
      };
  rests = none;
  answered = goes.answered;
})

-- a world that is under way in a play is where some of its due events were applied, after a call that applied nothing too
pub within : (why : StoreFault) (environment : Environment) (course : Course) (begun : Replies → ReplayState) (reported : Reported) (start : Beginning) (now : Stage) (counts : SourceCounts) → Lasts why now.counts counts → IsUnderWay environment course begun reported start now →
    IsWithin (NotApplied why) environment course begun start (onward now counts now.world)
within why environment course begun reported start now counts last under_way =
    let honest : (contents : ℕ → Option Bytes) → environment.known ≡ Some contents → AgreeOnApplied now.world under_way.leads.explained.replies (replies_there contents now.world) =
    λ contents is q r h. sym (under_way.leads.explained.honest contents is q r) in
    let says : (others : Replies) → AgreeOnApplied now.world under_way.leads.explained.replies others → HasReported environment.report course reported start (onward now counts now.world) others =
    λ others agree. reported_still environment.report course course reported start now (onward now counts now.world) others refl (λ answers. refl) (λ first is. is) (under_way.leads.says others agree) in
    record {
      steps = under_way.steps;
      replies = under_way.leads.explained.replies;
      fit = under_way.leads.explained.fit;
      is = under_way.is under_way.leads.explained.replies (λ q r h. refl);
      says = (reported, says under_way.leads.explained.replies (λ q r h. refl));
      source = λ contents is. under_way.is (replies_there contents now.world) (honest contents is);
      source_says = λ contents is. (reported, says (replies_there contents now.world) (honest contents is));
      roomed = under_way.leads.roomed under_way.leads.explained.replies (λ q r h. refl);
      source_roomed = λ contents is. under_way.leads.roomed (replies_there contents now.world) (honest contents is);
      documents = under_way.leads.documents;
      made = under_way.leads.made;
      fetched = under_way.leads.explained.counts under_way.leads.explained.replies (λ q r h. refl);
      source_fetched = λ contents is. under_way.leads.explained.counts (replies_there contents now.world) (honest contents is);
      counted = counted_last why start.counts now.counts counts start.world.played.side under_way.leads.made now.world.played.side last under_way.leads.counted;
    }

-- an event was applied, and isn't told wholly
within_unprinted : (routes : Option (List Route)) (report : Report) (why : Unwritten) (contents : Option Contents) (folder : List ℕ) (limit : Limit) (course : Course) (begun : Replies → ReplayState) (reported : Reported) (start : Beginning) (before now : Stage) →
    (u : IsUnderWay (environment routes report contents folder limit) course begun reported start before) → LeadsOn (environment routes report contents folder limit) course reported start before now u.leads →
    TellsStepBy report reported (step_between before now) before.output now.output (Err why) → IsWithin (Unprinted why) (environment routes report contents folder limit) course begun start now
within_unprinted routes report why contents folder limit course begun reported start before now u on tells =
    let honest : (there : ℕ → Option Bytes) → (environment routes report contents folder limit).known ≡ Some there → AgreeOnApplied now.world on.explained.replies (replies_there there now.world) =
    λ there is q r h. sym (on.explained.honest there is q r) in
    let is : (others : Replies) → AgreeOnApplied now.world on.explained.replies others → now.world ≡ after_some others (suc u.steps) (begun others) =
    λ others agree. on.is_next others agree ∙ ap (after_next others) (u.is others (on.agree_before others agree)) in
    let says : (others : Replies) → AgreeOnApplied now.world on.explained.replies others → HasReportedAt (Unprinted why) report course start now others =
    λ others agree. reported_but_last report why course reported start before now (step_between before now) others (on.first others agree) tells (u.leads.says others (on.agree_before others agree)) in
    record {
      steps = suc u.steps;
      replies = on.explained.replies;
      fit = on.explained.fit;
      is = is on.explained.replies (λ q r h. refl);
      says = says on.explained.replies (λ q r h. refl);
      source = λ there given. is (replies_there there now.world) (honest there given);
      source_says = λ there given. says (replies_there there now.world) (honest there given);
      roomed = on.roomed on.explained.replies (λ q r h. refl);
      source_roomed = λ there given. on.roomed (replies_there there now.world) (honest there given);
      documents = on.documents;
      made = on.made;
      fetched = on.explained.counts on.explained.replies (λ q r h. refl);
      source_fetched = λ there given. on.explained.counts (replies_there there now.world) (honest there given);
      counted = on.counted;
    }

-- it is so whatever the versions are by which the pages are mapped
pub within_mapped : (why : StoreFault) (environment : Environment) (course : Course) (begun : Replies → ReplayState) (start : Beginning) (now : Stage) (mapped : Mapped) → IsWithin (NotApplied why) environment course begun start now →
    IsWithin (NotApplied why) environment course begun start (with_mapped now mapped)
within_mapped why environment course begun start now mapped x =
    let says : (reported : Reported) (others : Replies) → HasReported environment.report course reported start now others → HasReported environment.report course reported start (with_mapped now mapped) others =
    λ reported others. reported_still environment.report course course reported start now (with_mapped now mapped) others refl (λ answers. refl) (λ first is. is) in
    record {
      steps = x.steps;
      replies = x.replies;
      fit = x.fit;
      is = x.is;
      says = (x.says.0, says x.says.0 x.replies x.says.1);
      source = x.source;
      source_says = λ contents is. ((x.source_says contents is).0, says (x.source_says contents is).0 (replies_there contents now.world) (x.source_says contents is).1);
      roomed = x.roomed;
      source_roomed = x.source_roomed;
      documents = x.documents;
      made = x.made;
      fetched = x.fetched;
      source_fetched = x.source_fetched;
      counted = x.counted;
    }

-- an event isn't applied: the world is that before
pub starved : (why : StoreFault) (environment : Environment) (reported reported_now : Reported) (before : Stage) (out : Output) (now last : SourceCounts) (world new : WorldState) → Goes environment reported reported_now before (stage_in out now world) →
    Lasts why now last → new ≡ world → StaysWithin (NotApplied why) environment reported before (stage_in out last new)
starved why environment reported reported_now before out now last world new goes lasts same =
    rw same (λ course begun start is_mapped under_way. within why environment course begun reported_now start (stage_in out now world) last lasts (goes.leads course begun start is_mapped under_way))

-- an event is applied, and isn't told wholly
pub unprinted : (routes : Option (List Route)) (report : Report) (why : Unwritten) (contents : Option Contents) (folder : List ℕ) (limit : Limit) (reported between : Reported) (before middle now : Stage) → KeepsVersion before.mapped middle.mapped before.world.played.records middle.world.played.records →
    Goes (environment routes report contents folder limit) reported between before middle → IsApplied contents folder limit middle now → TellsStepBy report between (step_between middle now) middle.output now.output (Err why) →
    StaysWithin (Unprinted why) (environment routes report contents folder limit) reported before now
unprinted routes report why contents folder limit reported between before middle now keeps goes is tells = λ course begun start is_mapped under_way.
    let u = goes.leads course begun start is_mapped under_way in
    within_unprinted routes report why contents folder limit course begun between start middle now u (applies-on routes report contents folder limit middle now is course between start (keeps course.version is_mapped) u.leads) tells
