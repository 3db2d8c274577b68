-- As many blocks of a class are made as are in use at once at most.
use Rattle.std.proofs.Common.{◌≡◌, ℕ, ◌+◌, ◌≤◌, max, List, [], ◌∷◌, arith, ap, ◌∙◌, ⊎_elim}
use Rattle.std.specs.Prelude.{◌==◌, if◌then◌else◌}
use Rattle.std.proofs.lemmas.Bool.{cases_eq}
use Rattle.std.proofs.lemmas.Bool.Decides.{eqb_tells}
use Rattle.sorted_sets.specs.Counting.{one_if}
use Rattle.text_region.specs.Region.{Texts, live, made}
use Rattle.text_region.specs.Peak.{IsHistory, begins, goes_on, IsNext, placed, freed, refused, peak}

-- one more in use, and one more made where all were
step_up : (used made used_next made_next : ℕ) → used ≤ made → used_next ≡ used + 1 → made_next ≡ made + (if used == made then 1 else 0) → (made_next ≡ max used_next made) × (used_next ≤ made_next)
step_up used made used_next made_next le u m =
    ⊎_elim
    (λ t. let one = ap one_if t.0 in (omega (arith, one, t.1), omega (arith, one, t.1)))
    (λ f. let none = ap one_if f.0 in (omega (arith, none, f.1), omega (arith, none, f.1)))
    (eqb_tells used made)

-- one call: the blocks made are the greatest of those in use now and those made before, and are enough
next_peak : (old new : Texts) → IsNext old new → (class : ℕ) → live old class ≤ made old class → (made new class ≡ max (live new class) (made old class)) × (live new class ≤ made new class)
next_peak old new (placed _ changed h) class le =
    ⊎_elim
    (λ e. rw e (step_up (live old changed) (made old changed) (live new changed) (made new changed) (rw (← e) le) h.one_more h.one_made))
    (λ ne. (omega (arith, h.others_live class ne, h.others_made class ne), omega (arith, h.others_live class ne, h.others_made class ne)))
    (cases_eq class changed)
next_peak old new (freed _ changed h) class le =
    ⊎_elim
    (λ e. rw e (let was : live old changed ≤ made old changed = rw (← e) le in (omega (arith, was, h.one_less, h.none_made changed), omega (arith, was, h.one_less, h.none_made changed))))
    (λ ne. (omega (arith, h.others_live class ne, h.none_made class), omega (arith, h.others_live class ne, h.none_made class)))
    (cases_eq class changed)
next_peak old _ refused class le = (omega arith, omega arith)

both : (texts : Texts) (before : List Texts) → IsHistory (texts ∷ before) → (class : ℕ) → (made texts class ≡ peak (texts ∷ before) class) × (live texts class ≤ made texts class)
both texts [] (begins _ h) class = (omega (arith, h.none_live class, h.none_made class), omega (arith, h.none_live class, h.none_made class))
both new (old ∷ before) (goes_on _ _ _ next h) class =
    let was = both old before h class in
    let step = next_peak old new next class was.1 in
    (step.0 ∙ ap (max (live new class)) was.0, step.1)

pub made_peak : (texts : Texts) (before : List Texts) → IsHistory (texts ∷ before) → (class : ℕ) → made texts class ≡ peak (texts ∷ before) class
made_peak texts before h class = (both texts before h class).0
