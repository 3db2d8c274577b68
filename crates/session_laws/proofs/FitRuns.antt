-- What a first run over a told input saves can be read back.
use Rattle.std.proofs.Common.{◌≡◌, sym, subst, ap, ℕ, ◌+◌, ◌*◌, ◌≤◌, ◌^◌, Bool, true, false, cond, List, [], ◌∷◌, length, filter_map, nat_le, Option, None, Some, Ok, Err, arith}
use Rattle.std.specs.List.{cons_option}
use Rattle.sorted_sets.specs.Rising.{Each}
use Rattle.wq_io.specs.Lines.{lines, longest_line}
use Rattle.delivery.specs.declared.Delivery.{Delivery}
use Rattle.event_line.specs.{declared.faults.LineCause.TheVariants.LineLong, Line.delivery_of}
use Rattle.replay_model.specs.{Play.Replies, Transcript.pattern_of, Transcript.shapes_of}
use Rattle.patch_stream.specs.Stream.{Step, has_change, is_change}
use Rattle.written_laws.proofs.Bounds.{filter_few}
use Rattle.snapshot.specs.{declared.counts.Counts.Counts, Deliveries.IsFitDelivery}
use Rattle.checkpoint.specs.Saved.{AreWithin}
use Rattle.arguments.specs.Options.{closes, max_bytes_of}
use Rattle.run_model.specs.declared.report.Report.{Report}
use Rattle.run_model.specs.declared.report.Report.TheVariants.{Answers, Changes}
use Rattle.run_model.specs.Headline.{Ending, course_of, numbers_saved}
use Rattle.run_model.specs.Moment.{Beginning, IsFirst, Moment, Run, no_numbers, numbers_of, start_of}
use Rattle.run_model.specs.Reading.{AreDeliveries, deliveries_of, line_delivers}
use Rattle.run_model.proofs.Reading.{at_known}
use Rattle.session_laws.proofs.{Beginnings.onto_parts, FewLines.half_as_many, FewLines.steps_within, FitLines.line_fits}

-- ---- deliveries

line_delivers-fits : (line : List ℕ) (d : Delivery) → line_delivers line ≡ Ok d → IsFitDelivery d
line_delivers-fits line d is = by (nat_le (length line) longest_line) is
  where
    by : (b : Bool) → cond b (delivery_of line) (Err LineLong) ≡ Ok d → IsFitDelivery d
    by true there = line_fits line d there
    by false never = cc

lines_fit : (all : List (List ℕ)) (ds : List Delivery) → deliveries_of all ≡ Some ds → Each IsFitDelivery ds
lines_fit [] ds is = let none : [] ≡ ds = cc in subst (Each IsFitDelivery) none tt
lines_fit (line ∷ others) ds is =
    let parts = onto_parts (line_delivers line) (deliveries_of others) ds is in
    subst (Each IsFitDelivery) (sym parts.is) (line_delivers-fits line parts.head parts.line, lines_fit others parts.tail parts.others)

pub input_fits : (limit : ℕ) (bytes : List ℕ) (ds : List Delivery) → AreDeliveries limit bytes ds → Each IsFitDelivery ds
input_fits limit bytes ds are = lines_fit (lines bytes) ds are.delivered

-- ---- counts

mapped_few : {A B : Type 0} (f : A → Option B) (xs : List A) → length (filter_map f xs) ≤ length xs
mapped_few f [] = omega arith
mapped_few {B = B} f (x ∷ xs) = by (f x) (mapped_few f xs)
  where
    by : (o : Option B) → length (filter_map f xs) ≤ length xs → length (cons_option o (filter_map f xs)) ≤ length (x ∷ xs)
    by (Some y) few = omega (arith, few)
    by None few = omega (arith, few)

-- one number that is passed over
passed_over : (changed : Bool) (told : ℕ) → told ≡ 0 → cond changed (told + 1) told ≤ 2 ^ 63
passed_over true told none = omega (arith, none)
passed_over false told none = omega (arith, none)

-- the counts of a first run of few deliveries with few steps leave a number for each question and record to come
pub counts_within : (report : Report) (steps : Replies → List Step) (ds : List Delivery) (start : Beginning) (replies : Replies) → start.numbered ≡ no_numbers → 2 * length ds ≤ 4294967296 → length (steps replies) ≤ 2 ^ 63 → AreWithin (numbers_of report steps ds start replies)
counts_within report steps ds start replies none few small = by report
  where
    asked : start.numbered.asks ≡ 0
    asked = ap (λ (n : Counts). n.asks) none

    matched : start.numbered.matches ≡ 0
    matched = ap (λ (n : Counts). n.matches) none

    told : start.numbered.patches ≡ 0
    told = ap (λ (n : Counts). n.patches) none

    taken : start.numbered.lines ≡ 0
    taken = ap (λ (n : Counts). n.lines) none

    by : (r : Report) → AreWithin (numbers_of r steps ds start replies)
    by Answers = record {
      asks = omega (arith, asked, few, mapped_few pattern_of ds);
      matches = omega (arith, matched, few, mapped_few shapes_of ds);
      patches = passed_over (has_change (steps replies)) start.numbered.patches told;
      lines = omega (arith, taken, few);
    }
    by Changes = record {
      asks = omega (arith, asked);
      matches = omega (arith, matched);
      patches = omega (arith, told, small, filter_few is_change (steps replies));
      lines = omega (arith, taken, few);
    }

module _ (run : Run) (before now : Moment) (bytes : List ℕ) (first : IsFirst (start_of run before)) (ending : Ending run before now) (left : before.input.left ≡ Some bytes) (bounded : max_bytes_of run.choices ≤ 4294967295) where
  pub told_input : AreDeliveries (max_bytes_of run.choices) bytes ending.replayed.deliveries
  told_input = at_known before.input.left bytes (λ b. AreDeliveries (max_bytes_of run.choices) b ending.replayed.deliveries) left ending.replayed.are

  pub few_told : 2 * length ending.replayed.deliveries ≤ 4294967296
  few_told = omega (arith, half_as_many bytes ending.replayed.deliveries told_input.delivered, told_input.within, bounded)

  pub saved_within : AreWithin (numbers_saved ending)
  saved_within =
      counts_within run.environment.report (course_of run ending.replayed.deliveries (start_of run before)).steps ending.replayed.deliveries (start_of run before) ending.replayed.replay.played.replies first.numbered few_told
      (steps_within run.environment.routes (closes run.choices) ending.replayed.deliveries (start_of run before) first ending.replayed.replay.played.replies few_told)
