-- What the summary of a drill leaves that was printed, or was not printed wholly.
use Rattle.std.proofs.Common.{◌≡◌, ◌∙◌, refl, ap, ℕ, arith, List, [], ◌∷◌, ◌++◌, map, Result, Ok, Err, OnOk, IfErr, true}
use Rattle.std.specs.List.{flat_map}
use Rattle.replay_model.specs.ReplayState.{ReplayState}
use Rattle.wq_io.specs.declared.sink.Sink.{Ghosts as SinkOf}
use Rattle.text_output.specs.declared.write.Unwritten.{Unwritten}
use Rattle.text_output.specs.declared.write.Unwritten.TheVariants.{WriteFault as NotWritten, OutOfMemory}
use Rattle.text_output.specs.Printing.{Output, Prints, output}
use Rattle.text_output.proofs.Parts.{cut_short_at_once}
use Rattle.drill_replay.specs.{Playing.HasBegun, Summary.drilled, Summary.summary_lines, Summary.summary_of}
use Rattle.run_model.specs.Moment.{HasWrittenOn}
use Rattle.session.specs.Plans.{DrillStopped, HasDrilled, summary_text}

-- texts one after the other
joined : {X : Type 0} (f : X → List ℕ) (xs : List X) → flat_map f xs ≡ flat_map (λ text. text) (map f xs)
joined f [] = refl
joined f (x ∷ xs) = ap (λ l. f x ++ l) (joined f xs)

-- nothing was printed, since memory was refused
pub not_begun : (size : ℕ) (old new : Output) (world : ReplayState) → new ≡ old → HasBegun size world → DrillStopped OutOfMemory size old new world
not_begun size old new world same begun = rw same (record { has_come = begun; cut_short = (cut_short_at_once {handed = true} (summary_text size) old).outcome })

-- the lines of the summary of a drill that was run to its end were printed, or a prefix of them
module _ {X : Type 0} (f : X → List ℕ) (lines : List X) (size : ℕ) (old new : Output) (world : ReplayState) (are : map f lines ≡ summary_lines (summary_of size)) (is : world ≡ drilled size) where
  text : flat_map f lines ≡ summary_text size
  text = joined f lines ∙ ap (flat_map (λ line. line)) are

  pub all_printed : (result : Result (Unit {0}) Unwritten) → Prints (flat_map f lines) old new result → OnOk result (HasDrilled size old new world)
  all_printed (Ok done) printed = record { is = is; says = rw text at printed.outcome; handed = printed.leaves }
  all_printed (Err why) printed = tt

  pub printed_in_part : (result : Result (Unit {0}) Unwritten) → HasBegun size world → Prints (flat_map f lines) old new result → IfErr result (λ why. DrillStopped why size old new world)
  printed_in_part (Ok done) begun printed = tt
  printed_in_part (Err NotWritten) begun printed = record { has_come = is; cut_short = rw text at printed.outcome }
  printed_in_part (Err OutOfMemory) begun printed = record { has_come = begun; cut_short = rw text at printed.outcome }

-- where nothing was printed, the output went on
module _ {K : Type 0} (sink : SinkOf K) where
  pub silent_on : (old new : K) → output sink new ≡ output sink old → HasWrittenOn sink old new
  silent_on old new same =
      let faults : sink.faults new ≡ sink.faults old = ap (λ (o : Output). o.faults) same in
      record { faults = omega (arith, faults); most = ap (λ (o : Output). o.most_faults) same }

  -- and where something was printed behind that
  pub printed_on : {bytes : List ℕ} {result : Result (Unit {0}) Unwritten} (old between new : K) → output sink between ≡ output sink old → Prints bytes (output sink between) (output sink new) result → HasWrittenOn sink old new
  printed_on old between new same prints =
      let faults : sink.faults between ≡ sink.faults old = ap (λ (o : Output). o.faults) same in
      record { faults = omega (arith, faults, prints.later); most = prints.most ∙ ap (λ (o : Output). o.most_faults) same }
