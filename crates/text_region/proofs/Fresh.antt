-- The shelves of a new region.
use Rattle.std.proofs.Common.{◌≡◌, ℕ, ◌+◌, ◌<◌, List, [], ◌∷◌, ◌++◌, length, get_or, Some, None, arith, refl, sym, ap, ◌∙◌, ⊎_elim}
use Rattle.std.specs.Prelude.{is_some, count_by}
use Rattle.std.proofs.lemmas.Bool.{cases_lt}
use Rattle.std.proofs.lemmas.List.{length_push, get_or_append_left, get_or_push, get_or_past, get_or-map, length-map}
use Rattle.text_region.specs.Class.{size_of}
use Rattle.text_region.specs.Blocks.{Shelf, block_at}
use Rattle.text_region.specs.Region.{blocks_of}
use Rattle.text_region.specs.Peak.{IsNew}
use Rattle.text_region.specs.Shelves.{AreShelves}
use Rattle.text_region.proofs.Steps.{texts_of}

-- the first shelves, without blocks
pub record AreFresh (shelves : List Shelf) (count : ℕ) : Type 0 where
  pub many : length shelves ≡ count
  pub sizes : (class : ℕ) (d : Shelf) → class < length shelves → (get_or shelves class d).size ≡ size_of class
  pub empty : (class : ℕ) (d : Shelf) → class < length shelves → (get_or shelves class d).blocks ≡ []

pub fresh_push : (shelves : List Shelf) (shelf : Shelf) (count : ℕ) → AreFresh shelves count → shelf.size ≡ size_of count → shelf.blocks ≡ [] → AreFresh (shelves ++ shelf ∷ []) (count + 1)
fresh_push shelves shelf count h size empty = record {
  many = length_push shelves shelf ∙ ap (λ n. n + 1) h.many;
  sizes = λ class d l. ⊎_elim
      (λ below. ap (λ (s : Shelf). s.size) (get_or_append_left shelves (shelf ∷ []) d class below) ∙ h.sizes class d below)
      (λ ge. let end : length shelves ≡ class = omega (arith, length_push shelves shelf) in
      ap (λ (s : Shelf). s.size) (get_or_push shelves shelf d class end) ∙ size ∙ ap size_of (sym h.many ∙ end))
      (cases_lt class (length shelves));
  empty = λ class d l. ⊎_elim
      (λ below. ap (λ (s : Shelf). s.blocks) (get_or_append_left shelves (shelf ∷ []) d class below) ∙ h.empty class d below)
      (λ ge. let end : length shelves ≡ class = omega (arith, length_push shelves shelf) in
      ap (λ (s : Shelf). s.blocks) (get_or_push shelves shelf d class end) ∙ empty)
      (cases_lt class (length shelves));
}

-- no class has a block
no_blocks : (shelves : List Shelf) (count : ℕ) → AreFresh shelves count → (class : ℕ) → blocks_of (texts_of shelves) class ≡ []
no_blocks shelves count h class = ⊎_elim
    (λ l. let d : Shelf = record { size = 0; blocks = [] } in get_or-map (λ (s : Shelf). s.blocks) shelves class d [] l ∙ h.empty class d l)
    (λ ge. get_or_past (texts_of shelves) class [] (omega (arith, length-map shelves (λ (s : Shelf). s.blocks))))
    (cases_lt class (length shelves))

pub fresh_shelves : (shelves : List Shelf) → AreFresh shelves 85 → AreShelves shelves
fresh_shelves shelves h = record {
  all = h.many;
  sizes = λ class d l. h.sizes class d (omega (arith, h.many));
  classes = λ piece text is. absurd (let none : None ≡ Some text = ap (λ b. block_at b piece.number) (sym (no_blocks shelves 85 h piece.class)) ∙ is in cc);
}

pub fresh_new : (shelves : List Shelf) → AreFresh shelves 85 → IsNew (texts_of shelves)
fresh_new shelves h = record {
  none_live = λ class. ap (count_by is_some) (no_blocks shelves 85 h class);
  none_made = λ class. ap length (no_blocks shelves 85 h class);
}

pub fresh_none : AreFresh [] 0
fresh_none = record { many = refl; sizes = λ class d l. absurd (omega (arith, l)); empty = λ class d l. absurd (omega (arith, l)) }
