-- What one more step adds to a stream.
use Rattle.std.proofs.Common.{◌≡◌, refl, sym, ◌∙◌, ap, ℕ, ◌+◌, Bool, true, false, cond, List, [], ◌∷◌, ◌++◌, length, filter, flat_map, Option, append-nil, length-append, arith}
use Rattle.std.proofs.{lemmas.List.Elements.filter-append, lemmas.Grind.flat_map-append}
use Rattle.wq_io.specs.Streams.{after_known}
use Rattle.text_output.proofs.Parts.{after_twice}
use Rattle.delivery.specs.declared.Delivery.{Delivery}
use Rattle.replay_model.specs.{Acceptance.arrivals, Play.Replies}
use Rattle.replay_model.proofs.Arrivals.{arrivals-push}
use Rattle.replica.specs.Record.{record_text}
use Rattle.patch_stream.specs.Stream.{Step, changes, is_change, numbered_from, record_of_step, step_text, steps_at, steps_of_play, stream, stream_text, told_after}

pub numbered-append : (n : ℕ) (xs ys : List Step) → numbered_from n (xs ++ ys) ≡ numbered_from n xs ++ numbered_from (n + length xs) ys
numbered-append n [] ys =
    let start : n ≡ n + 0 = omega arith in
    ap (λ m. numbered_from m ys) start
numbered-append n (x ∷ xs) ys =
    let next : (n + 1) + length xs ≡ n + length (x ∷ xs) = omega arith in
    ap (λ l. record_of_step n x ∷ l) (numbered-append (n + 1) xs ys ∙ ap (λ m. numbered_from (n + 1) xs ++ numbered_from m ys) next)

-- the steps that change something, with one more step
changing-push : (steps : List Step) (s : Step) → filter is_change (steps ++ s ∷ []) ≡ filter is_change steps ++ cond (is_change s) (s ∷ []) []
changing-push steps s = filter-append is_change steps (s ∷ [])

-- so many records more
pub changes-push : (told : ℕ) (steps : List Step) (s : Step) → told ≡ changes steps → told_after told s ≡ changes (steps ++ s ∷ [])
changes-push told steps s is = by (is_change s) ∙ sym (ap length (changing-push steps s) ∙ length-append (filter is_change steps) (cond (is_change s) (s ∷ []) []))
  where
    by : (b : Bool) → cond b (told + 1) told ≡ changes steps + length (cond b (s ∷ []) [])
    by true = ap (λ n. n + 1) is
    by false = omega (arith, is)

-- and so much more text
pub text-push : (told : ℕ) (steps : List Step) (s : Step) → told ≡ changes steps → stream_text (steps ++ s ∷ []) ≡ stream_text steps ++ step_text told s
text-push told steps s is =
    ap (λ l. flat_map record_text (numbered_from 1 l)) (changing-push steps s)
    ∙ ap (flat_map record_text) (numbered-append 1 (filter is_change steps) (cond (is_change s) (s ∷ []) []))
    ∙ flat_map-append record_text (stream steps) (numbered_from (1 + changes steps) (cond (is_change s) (s ∷ []) []))
    ∙ ap (λ l. stream_text steps ++ l) (by (is_change s))
  where
    number : 1 + changes steps ≡ told + 1
    number = omega (arith, is)

    by : (b : Bool) → flat_map record_text (numbered_from (1 + changes steps) (cond b (s ∷ []) [])) ≡ cond b (record_text (record_of_step (told + 1) s)) []
    by true = append-nil (record_text (record_of_step (1 + changes steps) s)) ∙ ap (λ n. record_text (record_of_step n s)) number
    by false = refl

-- the output has the text of the stream with the step
pub told-push : (start old new : Option (List ℕ)) (told : ℕ) (steps : List Step) (s : Step) → told ≡ changes steps → old ≡ after_known start (stream_text steps) → new ≡ after_known old (step_text told s)
    → new ≡ after_known start (stream_text (steps ++ s ∷ []))
told-push start old new told steps s counted was is =
    is ∙ ap (λ b. after_known b (step_text told s)) was ∙ after_twice start (stream_text steps) (step_text told s) ∙ ap (after_known start) (sym (text-push told steps s counted))

-- what a further delivery adds to the steps of a play
pub steps-push : (hz : Option ℕ) (replies : Replies) (ds : List Delivery) (d : Delivery) →
    steps_of_play hz replies (ds ++ d ∷ []) ≡ steps_of_play hz replies ds ++ steps_at hz replies (record { before = ds; delivery = d })
steps-push hz replies ds d =
    ap (flat_map (steps_at hz replies)) (arrivals-push ds d)
    ∙ flat_map-append (steps_at hz replies) (arrivals ds) (record { before = ds; delivery = d } ∷ [])
    ∙ ap (λ l. steps_of_play hz replies ds ++ l) (append-nil (steps_at hz replies (record { before = ds; delivery = d })))
