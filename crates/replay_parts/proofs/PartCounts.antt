-- Of what passes a test the parts have as many entries, and make as many fetches, as the whole.
use Rattle.std.proofs.Common.{◌≡◌, ℕ, ◌+◌, Bool, cond, ◌&&◌, List, [], ◌∷◌, Option, filter, sum_by, count_by, refl, sym, ◌∙◌, ap}
use Rattle.std.proofs.lemmas.List.Sums.{sum_by-cons}
use Rattle.sorted_sets.specs.Rising.{Each}
use Rattle.delivery.specs.declared.Delivery.{Delivery}
use Rattle.entity_model.specs.declared.id.EntityId.{EntityId}
use Rattle.entity_state.specs.declared.entry.Entry.{Entry}
use Rattle.entity_state.specs.Entry.{entity_of}
use Rattle.replay_model.specs.Play.{Replies, Played, Fetch, fetches_to_end, played}
use Rattle.replay_parts.specs.Parts.{AgreeOnPart, IsPartition, Part, part_of_fetches, part_of_side, routed}
use Rattle.replay_parts.proofs.PartFetches.{fetches_to_end-routed}
use Rattle.replay_parts.proofs.PartRecords.{each_from}
use Rattle.replay_parts.proofs.PlayedParts.{played-routed}
use Rattle.replay_parts.proofs.UnionParts.{count-filter, count_with, sum_swap}

summed_same : (f g : Part → ℕ) (parts : List Part) → Each (λ (part : Part). f part ≡ g part) parts → sum_by f parts ≡ sum_by g parts
summed_same f g [] all = refl
summed_same f g (part ∷ parts) all = sum_by-cons f part parts ∙ (λ i. all.0 i + summed_same f g parts all.1 i) ∙ sym (sum_by-cons g part parts)

module _ (replies : Replies) (parts : List Part) (are : IsPartition replies parts) (hz : Option ℕ) where
  -- each element of a list is counted in one part
  count-parts : {A : Type 0} (entity : A → EntityId) (test : A → Bool) (xs : List A) → count_by test xs ≡ sum_by (λ (part : Part). count_by test (filter (λ x. part.contains (entity x)) xs)) parts
  count-parts entity test xs =
      (λ i. sum_by (λ x. sym (count_with (λ (part : Part). part.contains (entity x)) (test x) parts (are.one_each (entity x))) i) xs)
      ∙ sum_swap (λ x (part : Part). cond (part.contains (entity x) && test x) 1 0) xs parts
      ∙ (λ i. sum_by (λ (part : Part). sym (count-filter test (λ x. part.contains (entity x)) xs) i) parts)

  pub side-counted : (closed : Bool) (ds : List Delivery) (test : Entry → Bool) → count_by test (played hz closed replies ds).side ≡ sum_by (λ (part : Part). count_by test (played hz closed part.replies (routed part.contains ds)).side) parts
  side-counted closed ds test =
      count-parts entity_of test (played hz closed replies ds).side
      ∙ summed_same (λ (part : Part). count_by test (part_of_side part.contains (played hz closed replies ds).side)) _ parts
      (each_from (λ (part : Part). AgreeOnPart part.contains part.replies replies) _ (λ part agree. ap (λ (p : Played). count_by test p.side) (sym (played-routed part.contains part.replies replies agree hz closed ds))) parts are.agree)

  pub fetches-counted : (ds : List Delivery) (test : Fetch → Bool) → count_by test (fetches_to_end hz replies ds) ≡ sum_by (λ (part : Part). count_by test (fetches_to_end hz part.replies (routed part.contains ds))) parts
  fetches-counted ds test =
      count-parts (λ (f : Fetch). f.event.entity) test (fetches_to_end hz replies ds)
      ∙ summed_same (λ (part : Part). count_by test (part_of_fetches part.contains (fetches_to_end hz replies ds))) _ parts
      (each_from (λ (part : Part). AgreeOnPart part.contains part.replies replies) _ (λ part agree. ap (count_by test) (sym (fetches_to_end-routed part.contains part.replies replies agree hz ds))) parts are.agree)
