-- What a place and a free leave among the blocks of a class and among those of all classes.
use Rattle.std.proofs.Common.{◌≡◌, ◌≢◌, ℕ, zero, suc, ◌+◌, ◌<◌, ◌⊎◌, List, [], ◌∷◌, ◌++◌, length, map, set, get_or, Option, Some, None, arith, refl, sym, ap, subst, ◌∙◌, ⊎_elim, inl, inr}
use Rattle.std.specs.Prelude.{is_some, count_by, cond, IsSome, ◌==◌, if◌then◌else◌}
use Rattle.std.proofs.lemmas.Bool.{cases_lt, cases_eq}
use Rattle.std.proofs.lemmas.List.{length-set, length_push, get_or-set_same, get_or-set_other, get_or_past, get_or-map, map-set, length-map}
use Rattle.std.proofs.lemmas.List.Sums.{sum_by-set, sum_by_push}
use Rattle.sorted_sets.proofs.Counting.{if_other, if_same}
use Rattle.text_region.specs.declared.piece.Piece.{Piece}
use Rattle.text_region.specs.Class.{IsClassOf, size_of}
use Rattle.text_region.specs.Blocks.{Blocks, Shelf, block_at, HasPut, HasFreed}
use Rattle.text_region.specs.Region.{Texts, blocks_of, bytes_of, live, made, Updates, Places, Frees}
use Rattle.text_region.specs.Shelves.{AreShelves}
use Rattle.text_region.proofs.Pieces.{one_piece}
use Rattle.text_region.proofs.Shelves.{one_used, unused}

-- one more block that is in no use changes no text
grown_same : (blocks : Blocks) (k : ℕ) → block_at (blocks ++ None ∷ []) k ≡ block_at blocks k
grown_same [] zero = refl
grown_same [] (suc k) = refl
grown_same (b ∷ bs) zero = refl
grown_same (b ∷ bs) (suc k) = grown_same bs k

in_use : (blocks : Blocks) (k : ℕ) → IsSome (block_at blocks k) → k < length blocks
in_use blocks k h = ⊎_elim (λ l. l) (λ ge. absurd (let past = get_or_past blocks k None ge in cc)) (cases_lt k (length blocks))

-- the number of blocks in use after one of them changes
used_set : (blocks : Blocks) (k : ℕ) (text : Option (List ℕ)) → k < length blocks → count_by is_some (set blocks k text) + cond (is_some (block_at blocks k)) 1 0 ≡ count_by is_some blocks + cond (is_some text) 1 0
used_set blocks k text l = sum_by-set (λ o. cond (is_some o) 1 0) blocks k text None l

-- a text is put into a block of those that there were
put_spare : (old : Blocks) (number : ℕ) (text : List ℕ) → number < length old → block_at old number ≡ None → count_by is_some old ≢ length old → HasPut old (set old number (Some text)) number text
put_spare old number text l vacant spare = record {
  vacant = vacant;
  there = get_or-set_same old number (Some text) None l;
  others = λ other ne. get_or-set_other old number other (Some text) None ne;
  one_more = omega (arith, unused vacant, used_set old number (Some text) l);
  one_made = omega (arith, length-set old number (Some text), if_other (count_by is_some old) (length old) spare);
}

-- a text is put into a block after a new one was made
put_new : (old : Blocks) (number : ℕ) (text : List ℕ) → number < length (old ++ None ∷ []) → block_at (old ++ None ∷ []) number ≡ None → count_by is_some old ≡ length old → HasPut old (set (old ++ None ∷ []) number (Some text)) number text
put_new old number text l vacant full = record {
  vacant = sym (grown_same old number) ∙ vacant;
  there = get_or-set_same (old ++ None ∷ []) number (Some text) None l;
  others = λ other ne. get_or-set_other (old ++ None ∷ []) number other (Some text) None ne ∙ grown_same old other;
  one_more = omega (arith, unused vacant, used_set (old ++ None ∷ []) number (Some text) l, sum_by_push (λ o. cond (is_some o) 1 0) old None);
  one_made = omega (arith, length-set (old ++ None ∷ []) number (Some text), length_push old None, if_same (count_by is_some old) (length old) full);
}

pub has_put : (old mid new : Blocks) (number : ℕ) (text : List ℕ) → ((mid ≡ old ++ None ∷ []) × (count_by is_some old ≡ length old)) ⊎ ((mid ≡ old) × (count_by is_some old ≢ length old))
    → number < length mid → block_at mid number ≡ None → new ≡ set mid number (Some text) → HasPut old new number text
has_put old mid new number text cases l vacant is =
    ⊎_elim
    (λ a. rw (is, a.0) (put_new old number text (subst (λ m. number < length m) a.0 l) (subst (λ m. block_at m number ≡ None) a.0 vacant) a.1))
    (λ a. rw (is, a.0) (put_spare old number text (subst (λ m. number < length m) a.0 l) (subst (λ m. block_at m number ≡ None) a.0 vacant) a.1))
    cases

pub has_freed : (old new : Blocks) (number : ℕ) → IsSome (block_at old number) → new ≡ set old number None → HasFreed old new number
has_freed old new number h is = rw is (record {
  gone = get_or-set_same old number None None (in_use old number h);
  others = λ other ne. get_or-set_other old number other None None ne;
  one_less = omega (arith, ap (λ b. one_used b) h, used_set old number None (in_use old number h));
  as_many = length-set old number None;
})

-- the blocks of all shelves
abbrev pub texts_of : List Shelf → Texts
texts_of shelves = map (λ s. s.blocks) shelves

-- the class of a live piece is one of those
pub class_there : (shelves : List Shelf) (piece : Piece) → IsSome (bytes_of (texts_of shelves) piece) → piece.class < length shelves
class_there shelves piece h = ⊎_elim (λ l. l)
    (λ ge. let past : blocks_of (texts_of shelves) piece.class ≡ [] = get_or_past (texts_of shelves) piece.class [] (omega (arith, length-map shelves (λ (s : Shelf). s.blocks))) in
    absurd (let none : IsSome (block_at [] piece.number) = subst (λ b. IsSome (block_at b piece.number)) past h in cc))
    (cases_lt piece.class (length shelves))

-- the shelf of one class is another one now
module _ (shelves : List Shelf) (class : ℕ) (was is : Shelf) (there : class < length shelves) (at : was ≡ get_or shelves class was) where
  before : blocks_of (texts_of shelves) class ≡ was.blocks
  before = get_or-map (λ (s : Shelf). s.blocks) shelves class was [] there ∙ ap (λ (s : Shelf). s.blocks) (sym at)

  after : blocks_of (texts_of (set shelves class is)) class ≡ is.blocks
  after = ap (λ t. blocks_of t class) (map-set (λ (s : Shelf). s.blocks) shelves class is) ∙ get_or-set_same (texts_of shelves) class is.blocks [] (omega (arith, length-map shelves (λ (s : Shelf). s.blocks)))

  elsewhere : (other : ℕ) → other ≢ class → blocks_of (texts_of (set shelves class is)) other ≡ blocks_of (texts_of shelves) other
  elsewhere other ne = ap (λ t. blocks_of t other) (map-set (λ (s : Shelf). s.blocks) shelves class is) ∙ get_or-set_other (texts_of shelves) class other is.blocks [] ne

  pub updates : (piece : Piece) (text : Option (List ℕ)) → piece.class ≡ class → block_at is.blocks piece.number ≡ text → ((other : ℕ) → other ≢ piece.number → block_at is.blocks other ≡ block_at was.blocks other)
      → Updates (texts_of shelves) (texts_of (set shelves class is)) piece text
  updates piece text same changed others = record {
    changed = ap (λ c. block_at (blocks_of (texts_of (set shelves class is)) c) piece.number) same ∙ ap (λ b. block_at b piece.number) after ∙ changed;
    others = λ other ne.
        ⊎_elim
        (λ e. ap (λ c. block_at (blocks_of (texts_of (set shelves class is)) c) other.number) e ∙ ap (λ b. block_at b other.number) after
        ∙ others other.number (λ n. ne (one_piece other piece (e ∙ sym same) n))
        ∙ ap (λ b. block_at b other.number) (sym before) ∙ ap (λ c. block_at (blocks_of (texts_of shelves) c) other.number) (sym e))
        (λ d. ap (λ b. block_at b other.number) (elsewhere other.class d))
        (cases_eq other.class class);
  }

  pub vacant_before : (number : ℕ) → block_at was.blocks number ≡ None → block_at (blocks_of (texts_of shelves) class) number ≡ None
  vacant_before number h = ap (λ b. block_at b number) before ∙ h

  pub live_before : (number : ℕ) → IsSome (block_at (blocks_of (texts_of shelves) class) number) → IsSome (block_at was.blocks number)
  live_before number h = subst (λ b. IsSome (block_at b number)) before h

  pub full_before : count_by is_some was.blocks ≡ length was.blocks → live (texts_of shelves) class ≡ made (texts_of shelves) class
  full_before h = ap (count_by is_some) before ∙ h ∙ ap length (sym before)

  pub places : (number : ℕ) (text : List ℕ) → HasPut was.blocks is.blocks number text → Places (texts_of shelves) (texts_of (set shelves class is)) class
  places number text h = record {
    one_more = ap (count_by is_some) after ∙ h.one_more ∙ ap (λ b. count_by is_some b + 1) (sym before);
    one_made = ap length after ∙ h.one_made ∙ ap (λ b. length b + (if count_by is_some b == length b then 1 else 0)) (sym before);
    others_live = λ other ne. ap (count_by is_some) (elsewhere other ne);
    others_made = λ other ne. ap length (elsewhere other ne);
  }

  pub frees : (number : ℕ) → HasFreed was.blocks is.blocks number → Frees (texts_of shelves) (texts_of (set shelves class is)) class
  frees number h = record {
    one_less = ap (λ b. count_by is_some b + 1) after ∙ h.one_less ∙ ap (count_by is_some) (sym before);
    others_live = λ other ne. ap (count_by is_some) (elsewhere other ne);
    none_made = λ other. ⊎_elim
        (λ e. rw e (ap length after ∙ h.as_many ∙ ap length (sym before)))
        (λ ne. ap length (elsewhere other ne)) (cases_eq other class);
  }

  pub are_shelves : AreShelves shelves → is.size ≡ was.size → ((piece : Piece) (text : List ℕ) → piece.class ≡ class → block_at is.blocks piece.number ≡ Some text → (block_at was.blocks piece.number ≡ Some text) ⊎ IsClassOf (length text) class)
      → AreShelves (set shelves class is)
  are_shelves h size new = record {
    all = length-set shelves class is ∙ h.all;
    sizes = λ c d l. ⊎_elim
        (λ e. ap (λ k. (get_or (set shelves class is) k d).size) e ∙ ap (λ (s : Shelf). s.size) (get_or-set_same shelves class is d there) ∙ size
        ∙ ap (λ (s : Shelf). s.size) at ∙ h.sizes class was (subst (λ k. k < 85) e l) ∙ ap size_of (sym e))
        (λ ne. ap (λ (s : Shelf). s.size) (get_or-set_other shelves class c is d ne) ∙ h.sizes c d l) (cases_eq c class);
    classes = λ piece text is_text. ⊎_elim
        (λ e. ⊎_elim
        (λ old. h.classes piece text (ap (λ c. block_at (blocks_of (texts_of shelves) c) piece.number) e ∙ ap (λ b. block_at b piece.number) before ∙ old))
        (λ class_is. subst (IsClassOf (length text)) (sym e) class_is)
        (new piece text e (ap (λ b. block_at b piece.number) (sym after) ∙ ap (λ c. block_at (blocks_of (texts_of (set shelves class is)) c) piece.number) (sym e) ∙ is_text)))
        (λ ne. h.classes piece text (ap (λ b. block_at b piece.number) (sym (elsewhere piece.class ne)) ∙ is_text))
        (cases_eq piece.class class);
  }

  pub shelves_put : AreShelves shelves → is.size ≡ was.size → (number : ℕ) (text : List ℕ) → HasPut was.blocks is.blocks number text → IsClassOf (length text) class → AreShelves (set shelves class is)
  shelves_put h size number text put class_is =
      are_shelves h size (λ piece other e at. ⊎_elim
      (λ same. inr (let one : Some text ≡ Some other = sym put.there ∙ ap (block_at is.blocks) (sym same) ∙ at in let eq : text ≡ other = cc in subst (λ t. IsClassOf (length t) class) eq class_is))
      (λ ne. inl (sym (put.others piece.number ne) ∙ at)) (cases_eq piece.number number))

  pub shelves_freed : AreShelves shelves → is.size ≡ was.size → (number : ℕ) → HasFreed was.blocks is.blocks number → AreShelves (set shelves class is)
  shelves_freed h size number freed =
      are_shelves h size (λ piece other e at. ⊎_elim
      (λ same. absurd (let one : None ≡ Some other = sym freed.gone ∙ ap (block_at is.blocks) (sym same) ∙ at in cc))
      (λ ne. inl (sym (freed.others piece.number ne) ∙ at)) (cases_eq piece.number number))
