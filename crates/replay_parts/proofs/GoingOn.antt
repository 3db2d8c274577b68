-- A replay goes on from a checkpoint: what one delivery does, over the later deliveries.
use Rattle.std.proofs.Common.{◌≡◌, ℕ, ◌+◌, List, [], ◌∷◌, ◌++◌, Option, None, Some, fold, filter_map, length, refl, sym, ◌∙◌, ap, append_assoc, append-nil, length-append}
use Rattle.std.proofs.lemmas.List.Elements.{filter_map-append}
use Rattle.rdf_term.specs.declared.triple.Triple.{Triple}
use Rattle.delivery.specs.declared.Delivery.{Delivery}
use Rattle.delivery.specs.declared.Delivery.TheVariants.{Event as Told, Watermark, Ask, Mapping, Match}
use Rattle.entity_model.specs.declared.mapping.MappingVersion.{MappingVersion}
use Rattle.replay_model.specs.Acceptance.{version_in_force}
use Rattle.replay_model.specs.Play.{Replies, fetches, fetches_to_end}
use Rattle.replay_model.specs.ReplayState.{after_end, delivered, ended, fetches_delivered, fetches_due, following, following_to_end}
use Rattle.replay_model.specs.Transcript.{Question, Sections, asks, matches, pattern_of, question_of, shapes_of, answer_said, said, closing_text, transcript}
use Rattle.replay_model.specs.Union.{Meaning}
use Rattle.replay_model.proofs.FetchCounts.{fetches-delivered, fetches-end}
use Rattle.replay_model.proofs.Following.{following-delivered, following-end}
use Rattle.replay_model.proofs.InForce.{version-mapping, version-kept}
use Rattle.replay_model.proofs.Printing.{said-push}
use Rattle.replay_parts.specs.Checkpoint.{checkpoint, version_after, advanced, advanced_by, fetches_from, fetches_to_end_from, answer_at, said_from, closing_at, transcript_from}

-- a function of lists that a step contains from each list to the list with one more element is a fold from any list on
pub folds_on : {A B : Type 0} (f : List A → B) (step : B → A → B) → ((xs : List A) (x : A) → f (xs ++ x ∷ []) ≡ step (f xs) x) → (xs ys : List A) → f (xs ++ ys) ≡ fold step (f xs) ys
folds_on f step h xs [] = ap f (append-nil xs)
folds_on f step h xs (y ∷ ys) =
    ap f (sym (append_assoc xs (y ∷ []) ys))
    ∙ folds_on f step h (xs ++ y ∷ []) ys
    ∙ ap (λ b. fold step b ys) (h xs y)

-- the state
pub following-append : (hz : Option ℕ) (replies : Replies) (a b : List Delivery) → following hz replies (a ++ b) ≡ fold (delivered replies) (following hz replies a) b
following-append hz replies = folds_on (following hz replies) (delivered replies) (following-delivered hz replies)

pub following_to_end-append : (hz : Option ℕ) (replies : Replies) (a b : List Delivery) → following_to_end hz replies (a ++ b) ≡ ended replies (fold (delivered replies) (following hz replies a) b)
following_to_end-append hz replies a b = following-end hz replies (a ++ b) ∙ ap (ended replies) (following-append hz replies a b)

-- the version in force
version-advanced : (ds : List Delivery) (d : Delivery) → version_in_force (ds ++ d ∷ []) ≡ version_after (version_in_force ds) d
version-advanced ds (Told e) = version-kept ds (Told e) refl
version-advanced ds (Watermark w) = version-kept ds (Watermark w) refl
version-advanced ds (Ask q) = version-kept ds (Ask q) refl
version-advanced ds (Mapping v) = version-mapping ds v
version-advanced ds (Match q) = version-kept ds (Match q) refl

-- the questions
asks-advanced : (ds : List Delivery) (d : Delivery) → asks (ds ++ d ∷ []) ≡ asks ds + asks (d ∷ [])
asks-advanced ds d = ap length (filter_map-append pattern_of ds (d ∷ [])) ∙ length-append (filter_map pattern_of ds) (filter_map pattern_of (d ∷ []))

matches-advanced : (ds : List Delivery) (d : Delivery) → matches (ds ++ d ∷ []) ≡ matches ds + matches (d ∷ [])
matches-advanced ds d = ap length (filter_map-append shapes_of ds (d ∷ [])) ∙ length-append (filter_map shapes_of ds) (filter_map shapes_of (d ∷ []))

-- all four
pub checkpoint-advanced : (hz : Option ℕ) (replies : Replies) (ds : List Delivery) (d : Delivery) → checkpoint hz replies (ds ++ d ∷ []) ≡ advanced replies (checkpoint hz replies ds) d
checkpoint-advanced hz replies ds d = λ i. record { state = following-delivered hz replies ds d i; version = version-advanced ds d i; asked = asks-advanced ds d i; matched = matches-advanced ds d i }

pub checkpoint-append : (hz : Option ℕ) (replies : Replies) (a b : List Delivery) → checkpoint hz replies (a ++ b) ≡ advanced_by replies (checkpoint hz replies a) b
checkpoint-append hz replies = folds_on (checkpoint hz replies) (advanced replies) (checkpoint-advanced hz replies)

-- ---- a function of lists that grows at its end by what the state there and the next element say

grows_on : {A C S : Type 0} (f : List A → List C) (state : List A → S) (says : S → A → List C) (step : S → A → S) (from : S → List A → List C)
    → ((s : S) → from s [] ≡ []) → ((s : S) (x : A) (xs : List A) → from s (x ∷ xs) ≡ says s x ++ from (step s x) xs)
    → ((xs : List A) (x : A) → f (xs ++ x ∷ []) ≡ f xs ++ says (state xs) x) → ((xs : List A) (x : A) → state (xs ++ x ∷ []) ≡ step (state xs) x)
    → (xs ys : List A) → f (xs ++ ys) ≡ f xs ++ from (state xs) ys
grows_on f state says step from none some grows steps xs [] = ap f (append-nil xs) ∙ sym (append-nil (f xs)) ∙ ap (λ l. f xs ++ l) (sym (none (state xs)))
grows_on f state says step from none some grows steps xs (y ∷ ys) =
    ap f (sym (append_assoc xs (y ∷ []) ys))
    ∙ grows_on f state says step from none some grows steps (xs ++ y ∷ []) ys
    ∙ (λ i. grows xs y i ++ from (steps xs y i) ys)
    ∙ append_assoc (f xs) (says (state xs) y) (from (step (state xs) y) ys)
    ∙ ap (λ l. f xs ++ l) (sym (some (state xs) y ys))

pub fetches-append : (hz : Option ℕ) (replies : Replies) (a b : List Delivery) → fetches hz replies (a ++ b) ≡ fetches hz replies a ++ fetches_from replies (following hz replies a) b
fetches-append hz replies =
    grows_on (fetches hz replies) (following hz replies) (fetches_delivered replies) (delivered replies) (fetches_from replies)
    (λ s. refl) (λ s d ds. refl) (fetches-delivered hz replies) (following-delivered hz replies)

pub fetches_to_end-append : (hz : Option ℕ) (replies : Replies) (a b : List Delivery) → fetches_to_end hz replies (a ++ b) ≡ fetches hz replies a ++ fetches_to_end_from replies (following hz replies a) b
fetches_to_end-append hz replies a b =
    fetches-end hz replies (a ++ b)
    ∙ (λ i. fetches-append hz replies a b i ++ fetches_due replies (after_end (following-append hz replies a b i)))
    ∙ append_assoc (fetches hz replies a) (fetches_from replies (following hz replies a) b) (fetches_due replies (after_end (fold (delivered replies) (following hz replies a) b)))

module _ (meaning : MappingVersion → Meaning Triple) where
  pub answer_at-said : (hz : Option ℕ) (replies : Replies) (ds : List Delivery) (question : Option Question) → answer_said meaning hz replies ds question ≡ answer_at meaning (checkpoint hz replies ds) question
  answer_at-said hz replies ds None = refl
  answer_at-said hz replies ds (Some q) = refl

  pub said-append : (hz : Option ℕ) (replies : Replies) (a b : List Delivery) → said meaning hz replies (a ++ b) ≡ said meaning hz replies a ++ said_from meaning replies (checkpoint hz replies a) b
  said-append hz replies =
      grows_on (said meaning hz replies) (checkpoint hz replies) (λ c d. answer_at meaning c (question_of d)) (advanced replies) (said_from meaning replies)
      (λ s. refl) (λ s d ds. refl)
      (λ ds d. said-push hz meaning replies ds d ∙ ap (λ l. said meaning hz replies ds ++ l) (answer_at-said hz replies ds (question_of d)))
      (checkpoint-advanced hz replies)

  pub transcript-append : (hz : Option ℕ) (sections : Sections) (replies : Replies) (a b : List Delivery) → transcript meaning hz sections replies (a ++ b) ≡ said meaning hz replies a ++ transcript_from meaning sections replies (checkpoint hz replies a) b
  transcript-append hz sections replies a b =
      let last = advanced_by replies (checkpoint hz replies a) b in
      ap (λ w. said meaning hz replies (a ++ b) ++ closing_text meaning (version_in_force (a ++ b)) sections w.played) (following-end hz replies (a ++ b))
      ∙ ap (λ c. said meaning hz replies (a ++ b) ++ closing_at meaning sections replies c) (checkpoint-append hz replies a b)
      ∙ ap (λ l. l ++ closing_at meaning sections replies last) (said-append hz replies a b)
      ∙ append_assoc (said meaning hz replies a) (said_from meaning replies (checkpoint hz replies a) b) (closing_at meaning sections replies last)
