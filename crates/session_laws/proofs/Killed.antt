-- A run that was killed and went on, and one replay of all lines.
use Rattle.std.proofs.Common.{◌≡◌, sym, subst, ◌∙◌, ap, ℕ, List, ◌++◌, Option, Some, arith}
use Rattle.wq_io.specs.Streams.{after_known}
use Rattle.delivery.specs.declared.Delivery.{Delivery}
use Rattle.replay_model.specs.{Acceptance.version_in_force, Play.Replies}
use Rattle.replay_parts.specs.Checkpoint.{checkpoint}
use Rattle.patch_stream.specs.Stream.{changes, steps_of_play, stream_text}
use Rattle.snapshot.specs.{declared.counts.Counts.Counts, File.saved_in_bytes}
use Rattle.arguments.specs.Options.{closes}
use Rattle.run_model.specs.declared.report.Report.TheVariants.{Answers, Changes}
use Rattle.run_model.specs.{declared.status.Status.TheVariants.Ok as Ended, Course.course_after, Course.said_by, Course.stream_text_from}
use Rattle.run_model.specs.Headline.{Ending, HasFates, numbers_behind}
use Rattle.run_model.specs.Moment.{Beginning, Moment, Run, behind, numbers_of, saved_at, sections_of, standing, start_of}
use Rattle.run_model.specs.OneRun.{CountsQuestions, HoldsAndNames, StandsAfter, printed_by, said_from_start, state_ended, steps_ended}
use Rattle.run_model.specs.{Remapping.mapped_by, Report.bytes_of, Resuming.with_loaded}
use Rattle.session_laws.specs.Killed.{WasKilledAndWentOn, lines_with, replies_of_both, replies_up_to}
use Rattle.session_laws.specs.Live.{steps_behind}
use Rattle.session_laws.proofs.{Archived.snapshot_patches, Archived.snapshot_stands, Archived.snapshot_steps, GoesOn.begins_there}
use Rattle.session_laws.proofs.OneRun.{asks-append, fates_are, holds_are, mapped_is, matches-append, prints_by, streams_rest, world_is}
use Rattle.session_laws.proofs.{SaidRuns.said_start-two, StreamRuns.stream-append}

module _ (h : Option ℕ) (earlier : Replies) (ds : List Delivery) (run later : Run) (start : Beginning) (before now : Moment) (stands : StandsAfter h earlier ds start) (runs : WasKilledAndWentOn run later start before now)
    (read : saved_in_bytes runs.text ≡ Some (saved_at runs.kept.stage (numbers_behind runs.kept))) where
  abbrev up_to : List Delivery
  up_to = ds ++ runs.taken

  abbrev replies : Replies
  replies = replies_up_to earlier ds runs

  abbrev second : Run
  second = behind runs.resumed.numbers later

  abbrev loaded : Moment
  loaded = with_loaded before runs.resumed.rest runs.resumed.world

  abbrev outcome : Ending second loaded now
  outcome = runs.resumed.ending.outcome

  begins : StandsAfter h replies up_to (start_of second loaded) × (runs.resumed.numbers ≡ numbers_behind runs.kept)
  begins = begins_there Ended later before now runs.kept.stage (numbers_behind runs.kept) runs.text runs.resumed runs.same read h replies up_to
      (snapshot_stands h earlier ds run start stands runs.taken runs.text runs.kept)

  pub world_of_all : now.stage.world ≡ state_ended (closes later.choices) h (replies_of_both earlier ds runs) (lines_with ds runs)
  world_of_all = world_is h replies up_to second loaded now begins.0 outcome

  pub fates_of_all : HasFates (closes later.choices) h (lines_with ds runs) now.stage.world
  fates_of_all = fates_are h replies up_to second loaded now begins.0 outcome

  pub holds_of_all : HoldsAndNames h (lines_with ds runs) now.stage.world
  holds_of_all = holds_are h replies up_to second loaded now begins.0 outcome

  pub mapped_of_all : now.stage.mapped ≡ mapped_by (version_in_force (lines_with ds runs)) now.stage.world.played.records
  mapped_of_all = mapped_is h replies up_to second loaded now begins.0 outcome

  pub streamed_by_all : run.environment.report ≡ Changes → later.environment.report ≡ Changes → start.numbered.patches ≡ changes (steps_of_play h earlier ds) →
      (first rest : List ℕ) × (runs.kept.stage.output.bytes ≡ after_known start.output.bytes first) × (now.stage.output.bytes ≡ after_known before.stage.output.bytes rest)
      × ((stream_text (steps_of_play h earlier ds) ++ first) ++ rest ≡ stream_text (steps_ended (closes later.choices) h (replies_of_both earlier ds runs) (lines_with ds runs)))
  streamed_by_all one two counts =
      let behind_both = streams_rest h replies up_to second loaded now begins.0 outcome two
      (ap (λ (n : Counts). n.patches) begins.1 ∙ snapshot_patches h earlier ds run start stands runs.taken runs.text runs.kept one counts) in
      let first : List ℕ = stream_text_from start.numbered.patches (steps_behind runs.kept) in
      let there : stream_text (steps_of_play h earlier ds) ++ first ≡ stream_text (steps_of_play h replies up_to) =
      ap (λ n. stream_text (steps_of_play h earlier ds) ++ stream_text_from n (steps_behind runs.kept)) counts
      ∙ sym (stream-append (steps_of_play h earlier ds) (steps_behind runs.kept))
      ∙ ap stream_text (snapshot_steps h earlier ds run start stands runs.taken runs.text runs.kept) in (
        first,
        behind_both.0,
        runs.kept.played.says ∙ ap (λ report. bytes_of report (course_after run.environment.routes runs.taken start) start runs.kept.played.replies) one,
        behind_both.1,
        ap (λ l. l ++ behind_both.0) there ∙ behind_both.2,
      )

  module _ (one : run.environment.report ≡ Answers) (two : later.environment.report ≡ Answers) (counts : CountsQuestions ds start.numbered) where
    counts_behind : CountsQuestions up_to (numbers_behind runs.kept)
    counts_behind = subst (λ report. CountsQuestions up_to (numbers_of report (course_after run.environment.routes runs.taken start).steps runs.taken start runs.kept.played.replies)) (sym one) (record {
      asks_are = omega (arith, counts.asks_are, asks-append ds runs.taken);
      matches_are = omega (arith, counts.matches_are, matches-append ds runs.taken);
    })

    stands_at : standing start ≡ checkpoint h earlier ds
    stands_at = λ i. record { state = stands.world i; version = stands.version i; asked = counts.asks_are i; matched = counts.matches_are i }

    pub printed_by_all : run.environment.routes ≡ later.environment.routes →
        (first rest : List ℕ) × (runs.kept.stage.output.bytes ≡ after_known start.output.bytes first) × (now.stage.output.bytes ≡ after_known before.stage.output.bytes rest)
        × ((said_from_start later.environment.routes h earlier ds ++ first) ++ rest ≡ printed_by later.environment.routes (closes later.choices) (sections_of later.choices) h (replies_of_both earlier ds runs) (lines_with ds runs))
    printed_by_all same =
        let behind_both = prints_by h replies up_to second loaded now begins.0 outcome two (subst (λ n. CountsQuestions up_to n) (sym begins.1) counts_behind) in
        let first : List ℕ = said_by later.environment.routes runs.kept.played.replies (standing start) runs.taken in
        let there : said_from_start later.environment.routes h earlier ds ++ first ≡ said_from_start later.environment.routes h replies up_to =
        ap (λ c. said_from_start later.environment.routes h earlier ds ++ said_by later.environment.routes runs.kept.played.replies c runs.taken) stands_at
        ∙ sym (said_start-two later.environment.routes h earlier runs.kept.played.replies ds runs.taken) in (
          first,
          behind_both.0,
          runs.kept.played.says
              ∙ ap (λ report. bytes_of report (course_after run.environment.routes runs.taken start) start runs.kept.played.replies) one
              ∙ ap (λ routes. after_known start.output.bytes (said_by routes runs.kept.played.replies (standing start) runs.taken)) same,
          behind_both.1,
          ap (λ l. l ++ behind_both.0) there ∙ behind_both.2,
        )
