-- How the numbers of blocks go along a list of calls.
use Rattle.std.specs.Prelude.{◌≡◌, ℕ, max, List, [], ◌∷◌}
use Rattle.text_region.specs.Region.{Texts, live, made, Places, Frees}

-- no block was made yet
pub record IsNew (texts : Texts) : Type 0 where
  pub none_live : (class : ℕ) → live texts class ≡ 0
  pub none_made : (class : ℕ) → made texts class ≡ 0

-- what a call leaves: a place, a free, or a place that was refused
pub data IsNext (old : Texts) : Texts → Type 0 where
  placed : (new : Texts) (class : ℕ) → Places old new class → IsNext old new
  freed : (new : Texts) (class : ℕ) → Frees old new class → IsNext old new
  refused : IsNext old old

-- the states of a region from its making on through a list of calls, the last of them first
pub data IsHistory : List Texts → Type 0 where
  begins : (texts : Texts) → IsNew texts → IsHistory (texts ∷ [])
  goes_on : (new old : Texts) (before : List Texts) → IsNext old new → IsHistory (old ∷ before) → IsHistory (new ∷ old ∷ before)

-- the greatest number of blocks of a class that were in use in one of these states
abbrev pub peak : List Texts → ℕ → ℕ
peak [] class = 0
peak (texts ∷ before) class = max (live texts class) (peak before class)
