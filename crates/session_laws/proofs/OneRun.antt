-- A run that goes on from where a replay stands, and one replay of all deliveries.
use Rattle.std.proofs.Common.{◌≡◌, refl, sym, subst, ◌∙◌, ap, ℕ, ◌+◌, Bool, true, false, List, [], ◌∷◌, ◌++◌, append_assoc, length, length-append, Option, None, Some, arith}
use Rattle.std.proofs.lemmas.List.Elements.{filter_map-append}
use Rattle.wq_io.specs.Streams.{after_known}
use Rattle.delivery.specs.declared.Delivery.{Delivery}
use Rattle.delivery.specs.declared.Delivery.TheVariants.{Event as Told, Watermark, Ask, Mapping, Match}
use Rattle.replay_model.specs.{Acceptance.late, Acceptance.version_in_force, Entries.HoldsUnlessOpen, Entries.late_events}
use Rattle.replay_model.specs.Play.{Played, Replies, played}
use Rattle.replay_model.specs.ReplayState.{ReplayState, after_end, after_mark, delivered, ended, following, following_to_end}
use Rattle.replay_model.specs.Transcript.{Question, asks, closing_text, matches, pattern_of, question_of, said, shapes_of}
use Rattle.replay_model.specs.Versions.{all_by}
use Rattle.replay_model.proofs.{LateEntries.late-played, Settled.Tells-played, Settled.settled-played}
use Rattle.replay_parts.specs.Checkpoint.{Checkpoint, advanced, advanced_by, answer_at, checkpoint, said_from, version_after}
use Rattle.replay_parts.proofs.TwoRuns.{checkpoint-two, following_to_end-two, said-two}
use Rattle.graph_routes.specs.declared.routes.Route.{Route}
use Rattle.fetched_pages.specs.Meaning.{meaning}
use Rattle.patch_stream.specs.Stream.{Step, changes, steps_anew, steps_due, steps_of_play, stream_text}
use Rattle.snapshot.specs.declared.counts.Counts.{Counts}
use Rattle.arguments.specs.Options.{closes}
use Rattle.run_model.specs.declared.report.Report.TheVariants.{Answers, Changes}
use Rattle.run_model.specs.Course.{along, state_along, steps_of_delivery, stream_text_from, version_since, answer_by, closing_by, said_by, all_said, course_ended, led_to, version_at}
use Rattle.run_model.specs.Headline.{Ending, HasFates, course_of, numbers_saved}
use Rattle.run_model.specs.Moment.{Beginning, IsFirst, Moment, Run, horizon_at, standing, start_in, start_of, sections_of, numbers_of}
use Rattle.run_model.specs.OneRun.{CountsQuestions, HoldsAndNames, StandsAfter, printed_by, printed_in_all, replies_with, said_from_start, state_ended, steps_ended}
use Rattle.run_model.specs.{Remapping.Mapped, Remapping.mapped_by, Report.bytes_of}
use Rattle.run_model.proofs.{Along.version-along, Ends.fates}
use Rattle.session_laws.proofs.SaidRuns.{said_start-two}
use Rattle.session_laws.proofs.StreamRuns.{changes-append, steps-two, steps_to_end-two, stream-append}

-- a first run stands after no delivery
pub first_stands : (start : Beginning) → IsFirst start → (replies : Replies) → StandsAfter (horizon_at start) replies [] start
first_stands start first replies = record { world = first.world; version = first.mapping }

pub first_counts : (start : Beginning) → IsFirst start → CountsQuestions [] start.numbered
first_counts start first = record { asks_are = ap (λ (n : Counts). n.asks) first.numbered; matches_are = ap (λ (n : Counts). n.matches) first.numbered }

pub first_patches : (start : Beginning) → IsFirst start → (replies : Replies) → start.numbered.patches ≡ changes (steps_of_play (horizon_at start) replies [])
first_patches start first replies = ap (λ (n : Counts). n.patches) first.numbered

-- where deliveries lead depends on the state alone
pub same_state : (replies : Replies) (c other : Checkpoint) → c.state ≡ other.state → (ds : List Delivery) → state_along replies c ds ≡ state_along replies other ds
same_state replies c other same [] = same
same_state replies c other same (d ∷ ds) = same_state replies (advanced replies c d) (advanced replies other d) (ap (λ w. delivered replies w d) same) ds

-- and so do the steps, with the version
pub steps_same : (replies : Replies) (c other : Checkpoint) → c.state ≡ other.state → c.version ≡ other.version → (ds : List Delivery) → along steps_of_delivery replies c ds ≡ along steps_of_delivery replies other ds
steps_same replies c other state version [] = refl
steps_same replies c other state version (d ∷ ds) = λ i.
    steps_at state version d i
    ++ steps_same replies (advanced replies c d) (advanced replies other d) (ap (λ w. delivered replies w d) state) (ap (λ v. version_after v d) version) ds i
  where
    steps_at : c.state ≡ other.state → c.version ≡ other.version → (d : Delivery) → steps_of_delivery replies c d ≡ steps_of_delivery replies other d
    steps_at state version (Told e) = refl
    steps_at state version (Watermark m) = λ i. steps_due (version i) replies (after_mark (state i) m)
    steps_at state version (Ask q) = refl
    steps_at state version (Match q) = refl
    steps_at state version (Mapping v) = λ i. steps_anew v (state i).played.records (all_by (version i) (state i).played.records)

-- without routes what is said from a checkpoint on is what a replay says from there on
answer_same : (c : Checkpoint) (question : Option Question) → answer_by None c question ≡ answer_at meaning c question
answer_same c None = refl
answer_same c (Some question) = refl

said_same : (replies : Replies) (c : Checkpoint) (ds : List Delivery) → said_by None replies c ds ≡ said_from meaning replies c ds
said_same replies c [] = refl
said_same replies c (d ∷ ds) = λ i. answer_same c (question_of d) i ++ said_same replies (advanced replies c d) ds i

pub asks-append : (a b : List Delivery) → asks (a ++ b) ≡ asks a + asks b
asks-append a b = ap length (filter_map-append pattern_of a b) ∙ length-append _ _

pub matches-append : (a b : List Delivery) → matches (a ++ b) ≡ matches a + matches b
matches-append a b = ap length (filter_map-append shapes_of a b) ∙ length-append _ _

pub state_ended-played : (closed : Bool) (h : Option ℕ) (replies : Replies) (ds : List Delivery) → played h closed replies ds ≡ (state_ended closed h replies ds).played
state_ended-played true h replies ds = refl
state_ended-played false h replies ds = refl

module _ (h : Option ℕ) (first : Replies) (a : List Delivery) (run : Run) (before now : Moment) (stands : StandsAfter h first a (start_of run before)) (ending : Ending run before now) where
  abbrev start : Beginning
  start = start_of run before

  abbrev b : List Delivery
  b = ending.replayed.deliveries

  abbrev second : Replies
  second = ending.replayed.replay.played.replies

  abbrev both : Replies
  both = replies_with first a ending

  led : led_to b start second ≡ following h both (a ++ b)
  led = same_state second (standing start) (checkpoint h first a) stands.world b ∙ sym (ap (λ (c : Checkpoint). c.state) (checkpoint-two h first second a b))

  led_ended : ended second (led_to b start second) ≡ following_to_end h both (a ++ b)
  led_ended = ap (ended second) (same_state second (standing start) (checkpoint h first a) stands.world b) ∙ sym (following_to_end-two h first second a b)

  state_is : (routes : Option (List Route)) (closed : Bool) → (course_ended routes closed b start).state second ≡ state_ended closed h both (a ++ b)
  state_is routes true = led_ended
  state_is routes false = led

  pub world_is : now.stage.world ≡ state_ended (closes run.choices) h both (a ++ b)
  world_is = ending.replayed.replay.played.is ∙ state_is run.environment.routes (closes run.choices)

  version_is : version_at b start ≡ version_in_force (a ++ b)
  version_is =
      ap (λ v. version_since v b) stands.version
      ∙ sym (version-along second (checkpoint h first a) b)
      ∙ sym (ap (λ (c : Checkpoint). c.version) (checkpoint-two h first second a b))

  pub mapped_is : now.stage.mapped ≡ mapped_by (version_in_force (a ++ b)) now.stage.world.played.records
  mapped_is = ending.replayed.replay.played.mapped ∙ ap (λ v. mapped_by v now.stage.world.played.records) version_is

  pub fates_are : HasFates (closes run.choices) h (a ++ b) now.stage.world
  fates_are = fates (closes run.choices) h (a ++ b) now.stage.world both (state_ended-played (closes run.choices) h both (a ++ b) ∙ sym (ap (λ (w : ReplayState). w.played) world_is))

  -- what is held and named
  pub holds_are : HoldsAndNames h (a ++ b) now.stage.world
  holds_are =
      let Held : Played → Type 0 = λ p. HoldsUnlessOpen p in
      let Late : Played → Type 0 = λ p. late_events p.side ≡ late h (a ++ b) in
      record {
        holds = subst Held whole (record {
          settled = settled-played h (closes run.choices) both (a ++ b);
          empty = λ x. (Tells-played h (closes run.choices) both (a ++ b) x).empty_unless_kept;
        });
        documents = ending.replayed.replay.played.documents;
        late_ones = subst Late whole (late-played h (closes run.choices) both (a ++ b));
      }
    where
      whole : played h (closes run.choices) both (a ++ b) ≡ now.stage.world.played
      whole = state_ended-played (closes run.choices) h both (a ++ b) ∙ sym (ap (λ (w : ReplayState). w.played) world_is)

  -- where it saves its world, a later run stands after all of them
  pub next_stands : closes run.choices ≡ false → StandsAfter h both (a ++ b) (start_in (numbers_saved ending) now.stage)
  next_stands open_still = record {
    world = subst (λ closed. now.stage.world ≡ state_ended closed h both (a ++ b)) open_still world_is;
    version = ap (λ (m : Mapped). m.version) mapped_is;
  }

  module _ (answers : run.environment.report ≡ Answers) (counts : CountsQuestions a run.numbered) where
    pub next_counts : CountsQuestions (a ++ b) (numbers_saved ending)
    next_counts = subst (λ report. CountsQuestions (a ++ b) (numbers_of report (course_of run b start).steps b start second)) (sym answers) (record {
      asks_are = omega (arith, counts.asks_are, asks-append a b);
      matches_are = omega (arith, counts.matches_are, matches-append a b);
    })

    stands_at : standing start ≡ checkpoint h first a
    stands_at = λ i. record { state = stands.world i; version = stands.version i; asked = counts.asks_are i; matched = counts.matches_are i }

    -- what is printed is what one replay prints after what it said at the earlier deliveries
    rest_is : said meaning h first a ++ all_said None (closes run.choices) (sections_of run.choices) b start second ≡ printed_in_all (closes run.choices) (sections_of run.choices) h both (a ++ b)
    rest_is =
        sym (append_assoc (said meaning h first a) (said_by None second (standing start) b) _)
        ∙ (λ i. (said_all i) ++ closing_text meaning (version_is i) (sections_of run.choices) (state_is None (closes run.choices) i).played)
      where
        said_all : said meaning h first a ++ said_by None second (standing start) b ≡ said meaning h both (a ++ b)
        said_all =
            ap (λ l. said meaning h first a ++ l) (said_same second (standing start) b ∙ ap (λ c. said_from meaning second c b) stands_at)
            ∙ sym (said-two h first second a meaning b)

    pub prints_rest : run.environment.routes ≡ None →
        (rest : List ℕ) × (now.stage.output.bytes ≡ after_known before.stage.output.bytes rest) × (said meaning h first a ++ rest ≡ printed_in_all (closes run.choices) (sections_of run.choices) h both (a ++ b))
    prints_rest none = (
      all_said None (closes run.choices) (sections_of run.choices) b start second,
      ending.replayed.replay.played.says
          ∙ ap (λ report. bytes_of report (course_of run b start) start second) answers
          ∙ ap (λ routes. after_known before.stage.output.bytes (all_said routes (closes run.choices) (sections_of run.choices) b start second)) none,
      rest_is,
    )

    -- the same, where pages are routed by any routes, or by none
    rest_by : (routes : Option (List Route)) → said_from_start routes h first a ++ all_said routes (closes run.choices) (sections_of run.choices) b start second ≡ printed_by routes (closes run.choices) (sections_of run.choices) h both (a ++ b)
    rest_by routes =
        sym (append_assoc (said_from_start routes h first a) (said_by routes second (standing start) b) _)
        ∙ (λ i. said_all i ++ closing_by routes (version_is i) (sections_of run.choices) (state_is routes (closes run.choices) i).played)
      where
        said_all : said_from_start routes h first a ++ said_by routes second (standing start) b ≡ said_from_start routes h both (a ++ b)
        said_all =
            ap (λ c. said_from_start routes h first a ++ said_by routes second c b) stands_at
            ∙ sym (said_start-two routes h first second a b)

    pub prints_by : (rest : List ℕ) × (now.stage.output.bytes ≡ after_known before.stage.output.bytes rest)
        × (said_from_start run.environment.routes h first a ++ rest ≡ printed_by run.environment.routes (closes run.choices) (sections_of run.choices) h both (a ++ b))
    prints_by = (
      all_said run.environment.routes (closes run.choices) (sections_of run.choices) b start second,
      ending.replayed.replay.played.says ∙ ap (λ report. bytes_of report (course_of run b start) start second) answers,
      rest_by run.environment.routes,
    )

  abbrev made : List Step
  made = (course_of run b start).steps second

  along_same : along steps_of_delivery second (standing start) b ≡ along steps_of_delivery second (checkpoint h first a) b
  along_same = steps_same second (standing start) (checkpoint h first a) stands.world stands.version b

  steps_are : (routes : Option (List Route)) (closed : Bool) → steps_of_play h first a ++ (course_ended routes closed b start).steps second ≡ steps_ended closed h both (a ++ b)
  steps_are routes false = ap (λ l. steps_of_play h first a ++ l) along_same ∙ sym (steps-two h first second a b)
  steps_are routes true =
      (λ i. steps_of_play h first a ++ (along_same i ++ steps_due (version_on i) second (after_end (same_state second (standing start) (checkpoint h first a) stands.world b i))))
      ∙ sym (steps_to_end-two h first second a b)
    where
      version_on : version_at b start ≡ (advanced_by second (checkpoint h first a) b).version
      version_on = version_is ∙ ap (λ (c : Checkpoint). c.version) (checkpoint-two h first second a b)

  -- the steps of the run come behind those of the play
  pub steps_together : steps_of_play h first a ++ made ≡ steps_ended (closes run.choices) h both (a ++ b)
  steps_together = steps_are run.environment.routes (closes run.choices)

  -- where changes are reported, the records are those of one stream
  module _ (told : run.environment.report ≡ Changes) (counts : run.numbered.patches ≡ changes (steps_of_play h first a)) where
    pub streams_rest : (rest : List ℕ) × (now.stage.output.bytes ≡ after_known before.stage.output.bytes rest)
        × (stream_text (steps_of_play h first a) ++ rest ≡ stream_text (steps_ended (closes run.choices) h both (a ++ b)))
    streams_rest = (
      stream_text_from run.numbered.patches made,
      ending.replayed.replay.played.says ∙ ap (λ report. bytes_of report (course_of run b start) start second) told,
      ap (λ n. stream_text (steps_of_play h first a) ++ stream_text_from n made) counts
          ∙ sym (stream-append (steps_of_play h first a) made)
          ∙ ap stream_text (steps_are run.environment.routes (closes run.choices)),
    )

    pub next_patches : (numbers_saved ending).patches ≡ changes (steps_ended (closes run.choices) h both (a ++ b))
    next_patches =
        ap (λ report. (numbers_of report (course_of run b start).steps b start second).patches) told
        ∙ ap (λ n. n + changes made) counts
        ∙ sym (changes-append (steps_of_play h first a) made)
        ∙ ap changes (steps_are run.environment.routes (closes run.choices))
