-- An input has at most half as many deliveries as bytes, so the counts of a first run leave a number for each question and record to come.
use Rattle.std.proofs.Common.{◌≡◌, refl, sym, subst, ◌∙◌, ℕ, ◌+◌, ◌*◌, ◌<◌, ◌≤◌, ◌^◌, ◌==◌, Bool, true, false, cond, List, [], ◌∷◌, length, length-append, Option, None, Some, Ok, Err, arith}
use Rattle.std.specs.Str.{is_utf8}
use Rattle.std.proofs.lemmas.Nat.{column_fits}
use Rattle.wq_io.specs.Lines.{line_feed, lines, onto_first_line}
use Rattle.json.specs.{Json.value, Lex.lex, Lex.punctuate}
use Rattle.serde_json.specs.Read.{read}
use Rattle.delivery.specs.declared.Delivery.{Delivery}
use Rattle.event_line.specs.{declared.faults.LineCause.TheVariants.NotJson, Line.delivery_in, Line.else_cause}
use Rattle.replay_model.specs.{Acceptance.version_in_force, Play.Replies, Play.newly_due, Play.play}
use Rattle.patch_stream.specs.Stream.{Step, steps_applied, steps_of_play, steps_to_end}
use Rattle.written_laws.proofs.Bounds.{steps_few}
use Rattle.graph_routes.specs.declared.routes.Route.{Route}
use Rattle.run_model.specs.{Course.course_ended, Moment.Beginning, Moment.IsFirst, Moment.horizon_at}
use Rattle.run_model.specs.Reading.{deliveries_of, line_delivers}
use Rattle.run_model.proofs.{FromNothing.steps_end_first, FromNothing.steps_first, Reading.as_many}
use Rattle.session_laws.proofs.Beginnings.{onto_parts}

-- ---- lines

-- the bytes of lines, with a line feed for each
all_bytes : List (List ℕ) → ℕ
all_bytes [] = 0
all_bytes (line ∷ others) = length line + 1 + all_bytes others

bytes_few : (bytes : List ℕ) → all_bytes (lines bytes) ≤ length bytes + 1
unfolding all_bytes
bytes_few [] = omega arith
bytes_few (b ∷ bs) = by (b == line_feed) (lines bs) (bytes_few bs)
  where
    by : (feed : Bool) (ls : List (List ℕ)) → all_bytes ls ≤ length bs + 1 → all_bytes (cond feed ([] ∷ ls) (onto_first_line b ls)) ≤ length (b ∷ bs) + 1
    by true ls few = omega (arith, few)
    by false [] few = omega arith
    by false (line ∷ others) few = omega (arith, few)

-- the empty line delivers nothing
nothing_read : (valid : Bool) → else_cause NotJson (cond valid (read []) None) delivery_in ≡ Err NotJson
unfolding value lex punctuate
nothing_read true = refl
nothing_read false = refl

some_bytes : (line : List ℕ) (d : Delivery) → line_delivers line ≡ Ok d → 0 < length line
some_bytes [] d is = let never : Err NotJson ≡ Ok d = sym (nothing_read (is_utf8 [])) ∙ is in cc
some_bytes (b ∷ bs) d is = omega arith

two_each : (ls : List (List ℕ)) (ds : List Delivery) → deliveries_of ls ≡ Some ds → 2 * length ls ≤ all_bytes ls
unfolding all_bytes
two_each [] ds is = omega arith
two_each (line ∷ others) ds is =
    let parts = onto_parts (line_delivers line) (deliveries_of others) ds is in
    omega (arith, some_bytes line parts.head parts.line, two_each others parts.tail parts.others)

pub half_as_many : (bytes : List ℕ) (ds : List Delivery) → deliveries_of (lines bytes) ≡ Some ds → 2 * length ds ≤ length bytes + 1
half_as_many bytes ds is = omega (arith, bytes_few bytes, two_each (lines bytes) ds is, as_many (lines bytes) ds is)

-- ---- steps

-- so few deliveries make so few steps
square_few : (n : ℕ) → 2 * n ≤ 4294967296 → n * n + n ≤ 2 ^ 63
square_few n few =
    let low : n ≤ 2147483648 = omega (arith, few) in
    let square : n * n + n ≤ 2147483648 * 2147483649 = column_fits n n 2147483648 2147483649 (omega (arith, low)) low in
    omega (arith, square)

module _ (h : Option ℕ) (replies : Replies) (ds : List Delivery) (few : 2 * length ds ≤ 4294967296) where
  to_end_few : length (steps_to_end h replies ds) ≤ 2 ^ 63
  to_end_few = omega (arith, steps_few h replies ds, square_few (length ds) few)

  so_far_few : length (steps_of_play h replies ds) ≤ 2 ^ 63
  so_far_few = omega (arith, to_end_few, length-append (steps_of_play h replies ds) (steps_applied (version_in_force ds) replies (play h replies ds) (newly_due h ds true ds)))

-- the steps of a first run
pub steps_within : (routes : Option (List Route)) (closed : Bool) (ds : List Delivery) (start : Beginning) → IsFirst start → (replies : Replies) → 2 * length ds ≤ 4294967296 → length ((course_ended routes closed ds start).steps replies) ≤ 2 ^ 63
steps_within routes true ds start first replies few = subst (λ (steps : List Step). length steps ≤ 2 ^ 63) (sym (steps_end_first start first replies ds routes)) (to_end_few (horizon_at start) replies ds few)
steps_within routes false ds start first replies few = subst (λ (steps : List Step). length steps ≤ 2 ^ 63) (sym (steps_first start first replies ds)) (so_far_few (horizon_at start) replies ds few)
