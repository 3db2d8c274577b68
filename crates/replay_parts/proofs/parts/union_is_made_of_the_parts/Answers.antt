-- An entry of the records is an entry of one part's, and the sums over entries and parts go in either order.
use Rattle.std.proofs.Common.{◌≡◌, Bool, true, false, not, ◌||◌, ◌∷◌, [], refl, ◌∙◌, ap}
use Rattle.sorted_sets.specs.Rising.{has}
use Rattle.sorted_sets.proofs.Bools.{or_none}
use Rattle.replay_parts.specs.Parts.{part_of_records}
use Rattle.replay_model.specs.Union.{union}
use Rattle.replay_parts.proofs.UnionParts.{has-parts, union-parts, owners-parts, has-numbered}
use Rattle.replay_parts.proofs.parts.union_is_made_of_the_parts.Goals as goal

pub returns-clause-has : goal.returns-clause-has
returns-clause-has g c order meaning o records parts cover = has-parts o meaning records (λ contains. contains) parts cover

pub returns-clause-union : goal.returns-clause-union
returns-clause-union g c order meaning o same records parts cover = union-parts o meaning records same (λ contains. contains) parts cover

pub returns-clause-owners : goal.returns-clause-owners
returns-clause-owners g c order meaning o records parts one = owners-parts o meaning records (λ contains. contains) parts one

one_of_two : (b : Bool) → (b || (not b || false)) ≡ true
one_of_two true = refl
one_of_two false = refl

pub returns-clause-two : goal.returns-clause-two
returns-clause-two g c order meaning o records contains t =
    has-parts o meaning records (λ contains. contains) (contains ∷ (λ x. not (contains x)) ∷ []) (λ x. one_of_two (contains x)) t
    ∙ ap (λ b. has order t (union order meaning (part_of_records contains records)) || b) (or_none (has order t (union order meaning (part_of_records (λ x. not (contains x)) records))))

pub returns-clause-numbered : goal.returns-clause-numbered
returns-clause-numbered g c order meaning o records number t = has-numbered o meaning records number t
