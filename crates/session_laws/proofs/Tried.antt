-- A patch stream that stopped, beside the one that was made again from the same snapshot.
use Rattle.std.proofs.Common.{◌≡◌, refl, sym, subst, ◌∙◌, ap, ℕ, Bool, List, [], Option, None, Some, IfSome, IsSome}
use Rattle.replay_model.specs.Records.{Bytes}
use Rattle.snapshot.specs.{File.saved_in_bytes, Whole.Saved, declared.counts.Counts.Counts}
use Rattle.text_output.specs.declared.write.Unwritten.{Unwritten}
use Rattle.patch_stream.specs.Stream.{Step, changes}
use Rattle.checkpoint.specs.Saved.{saved_of}
use Rattle.run_model.specs.{declared.report.Report.TheVariants.Changes, declared.stop.Stop.Stop, Headline.StandsAtPage, Headline.Stopped}
use Rattle.run_model.specs.Moment.{Moment, Run, Stage, behind, saved_at}
use Rattle.run_model.specs.Resuming.{IsResumed, with_loaded}
use Rattle.session_laws.specs.{Complete.steps_made, Live.GoOn, Reruns.AreTold, Reruns.BeginAlike, Reruns.WritesFirst, Reruns.records_from}
use Rattle.session_laws.proofs.{Begun.records_written, GoesOn.begins_at, Mirrored.counts_of}

module _ (closed : Bool) (stage : Stage) (numbers : Counts) (steps : List Step) (chain : GoOn closed stage numbers steps) (bytes lines : List ℕ) (saved : saved_in_bytes bytes ≡ Some (saved_at stage numbers))
    (run : Run) (before now again done : Moment) (stop : Stop) (contents : ℕ → Option Bytes) (left : before.resumed.left ≡ Some bytes) (left_again : again.resumed.left ≡ Some bytes)
    (tried : IsResumed (Some stop) run before now) (resumed : IsResumed None run again done) where
  abbrev loaded : Moment
  loaded = with_loaded before tried.rest tried.world

  abbrev loaded_again : Moment
  loaded_again = with_loaded again resumed.rest resumed.world

  abbrev Told : Option (List ℕ) → Type 0
  Told o = IfSome o (λ b. saved_in_bytes b ≡ Some (saved_at stage numbers))

  loads : (stopped : Option Stop) (m end : Moment) → m.resumed.left ≡ Some bytes → (x : IsResumed stopped run m end) → saved_of x.world x.numbers ≡ saved_at stage numbers
  loads stopped m end is x = begins_at stopped run m end stage numbers x (subst Told (sym is) saved) (subst (λ (o : Option (List ℕ)). IsSome o) (sym is) refl)

  one : saved_of tried.world tried.numbers ≡ saved_at stage numbers
  one = loads (Some stop) before now left tried

  two : saved_of resumed.world resumed.numbers ≡ saved_at stage numbers
  two = loads None again done left_again resumed

  same_numbers : tried.numbers ≡ resumed.numbers
  same_numbers = ap (λ (s : Saved). s.counts) (one ∙ sym two)

  pub tried_written : AreTold run contents lines loaded now loaded_again done → ((why : Unwritten) → StandsAtPage why (behind tried.numbers run) loaded now → ⊥) → run.environment.report ≡ Changes → again.stage.output.bytes ≡ Some [] →
      WritesFirst (records_from (changes steps) (steps_made (behind resumed.numbers run) loaded_again done resumed.ending.outcome)) before.stage.output.bytes now.stage.output.bytes
  tried_written told no_page reports empty =
      let stopped : Stopped stop (behind resumed.numbers run) loaded now = subst (λ n. Stopped stop (behind n run) loaded now) same_numbers tried.ending.outcome in
      let none : (why : Unwritten) → StandsAtPage why (behind resumed.numbers run) loaded now → ⊥ = subst (λ n. (why : Unwritten) → StandsAtPage why (behind n run) loaded now → ⊥) same_numbers no_page in
      let place : BeginAlike loaded loaded_again = record { world = ap (λ (s : Saved). s.state) (two ∙ sym one); version = ap (λ (s : Saved). s.version) (two ∙ sym one) } in
      let alike : AreTold (behind resumed.numbers run) contents lines loaded now loaded_again done = record {
        known = told.known;
        left = told.left;
        left_again = told.left_again;
        unfailed = told.unfailed;
        unfailed_again = told.unfailed_again;
      } in
      let counted : resumed.numbers.patches ≡ changes steps = ap (λ (s : Saved). s.counts.patches) two ∙ counts_of closed stage numbers steps chain in
      subst (λ n. WritesFirst (records_from n (steps_made (behind resumed.numbers run) loaded_again done resumed.ending.outcome)) before.stage.output.bytes now.stage.output.bytes) counted
      (records_written (behind resumed.numbers run) loaded now loaded_again done resumed.ending.outcome contents lines place alike stop stopped none [] empty reports)
