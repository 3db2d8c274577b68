-- One step of a binary search, and a search of cells as one of the keys that they stand for.
use Rattle.std.proofs.Common.{◌≡◌, ◌∙◌, ℕ, ◌+◌, ◌-◌, ◌<◌, ◌≤◌, List, [], ◌∷◌, length, map, get_or, Ordering, Less, Equal, Greater, Result, Ok, Err, ap, sym, arith}
use Rattle.std.specs.List.{All}
use Rattle.std.proofs.lemmas.List.{get_or-map, length-map}
use Rattle.packed_keys.specs.Search.{EndsAt, IsAfter, IsBefore}

module _ {K : Type 0} (rank : K → Ordering) where
  pub before_here : (xs : List K) (m : ℕ) (x : K) → ((d : K) → x ≡ get_or xs m d) → rank x ≡ Less → IsBefore rank xs m
  before_here xs m x is e d within = ap rank (sym (is d)) ∙ e

  pub after_here : (xs : List K) (m : ℕ) (x : K) → ((d : K) → x ≡ get_or xs m d) → rank x ≡ Greater → IsAfter rank xs (m + 1)
  after_here xs m x is e d some =
      let same : m + 1 - 1 ≡ m = omega arith in
      ap (λ i. rank (get_or xs i d)) same ∙ ap rank (sym (is d)) ∙ e

module _ {C K : Type 0} (f : C → K) (of_cell : C → Ordering) (of_key : K → Ordering) where
  -- what a cell ranks as, its key does
  abbrev pub AreAlike : List C → Type 0
  AreAlike cells = All (λ cell. of_cell cell ≡ of_key (f cell)) cells

  to_cell : (cells : List C) (i : ℕ) (o : Ordering) → AreAlike cells → i < length cells → ((d : K) → of_key (get_or (map f cells) i d) ≡ o) → (d : C) → of_cell (get_or cells i d) ≡ o
  to_cell cells i o alike l h d = alike i d l ∙ ap of_key (sym (get_or-map f cells i d (f d) l)) ∙ h (f d)

  to_key : (cells : List C) (i : ℕ) (o : Ordering) → AreAlike cells → i < length cells → ((d : C) → of_cell (get_or cells i d) ≡ o) → (d : K) → of_key (get_or (map f cells) i d) ≡ o
  to_key [] i o alike l h d = absurd (omega arith)
  to_key (c ∷ cells) i o alike l h d = ap of_key (get_or-map f (c ∷ cells) i c d l) ∙ sym (alike i c l) ∙ h c

  pub cells_after : (cells : List C) (low : ℕ) → AreAlike cells → low ≤ length cells → IsAfter of_key (map f cells) low → IsAfter of_cell cells low
  cells_after cells low alike l h d some = to_cell cells (low - 1) Greater alike (omega arith) (λ e. h e some) d

  pub ends_as_keys : (cells : List C) (low : ℕ) (r : Result ℕ ℕ) → AreAlike cells → EndsAt of_cell cells low r → EndsAt of_key (map f cells) low r
  ends_as_keys cells low (Ok i) alike h =
      let long = length-map cells f in
      (omega (arith, h.0), to_key cells i Equal alike h.0 h.1)
  ends_as_keys cells low (Err i) alike h =
      let long = length-map cells f in (
        h.0,
        omega (arith, h.1),
        λ d some. to_key cells (i - 1) Greater alike (omega (arith, h.1)) (λ e. h.2 e some) d,
        λ d within. to_key cells i Less alike (omega arith) (λ e. h.3 e (omega arith)) d,
      )
