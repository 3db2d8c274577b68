-- What the calls say that change no triple.
use Rattle.std.proofs.Common.{◌≡◌, ℕ, false, List, [], ◌∷◌, length, Option, Some, None, is_some, count_by, refl, sym, ◌∙◌, ap, arith, cond}
use Rattle.std.specs.Prelude.{map as mapped}
use Rattle.std.specs.FinMap as map
use Rattle.std.specs.List.{list_any}
use Rattle.std.proofs.lemmas.List.Sums.{sum_by-cons}
use Rattle.rdf_term.specs.{declared.triple.Triple.Triple, Order.triple_cmp}
use Rattle.text_region.specs.{declared.piece.Piece.Piece, Blocks.Blocks, Blocks.block_at, Peak.IsNew}
use Rattle.text_region.specs.Region.{Texts, blocks_of, bytes_of}
use Rattle.term_pool.specs.{declared.slots.Entry.Entry, declared.pool.Pool.Pool}
use Rattle.term_pool.specs.Pool.{LiesIn, count_at, beside as pool_beside, has_piece, terms}
use Rattle.term_pool.proofs.{Beside.MovesBeside, Lying.used_at}
use Rattle.slot_keys.specs.{declared.key.Key.Key, Keys.key_cmp}
use Rattle.slot_keys.proofs.Imaged.{pushed}
use Rattle.slot_index.specs.Counts.{KeyCounts}
use Rattle.triple_catalog.specs.{declared.catalog.Catalog.Catalog, Interning.KeepsTexts, Slots.triple_at}
use Rattle.triple_catalog.specs.Stored.{Changes, HasKey, IsStored, beside, counts_in, image}
use Rattle.triple_catalog.specs.Slots as slots
use Rattle.triple_catalog.proofs.{Distinct.as_many, Storing.counts_kept, Storing.keeps_triple, Storing.live_stored}

-- ---- no triples

none_long : {A : Type 0} (xs : List A) → length xs ≡ 0 → xs ≡ []
none_long [] e = refl
none_long (x ∷ xs) e = absurd (omega (arith, e))

no_entries : (c : KeyCounts) → map.len c ≡ 0 → map.entries c ≡ []
no_entries c e = none_long (map.entries c) (sym (map.len-entries c) ∙ e)

pub none_used : (c : KeyCounts) (slot : ℕ) → map.len c ≡ 0 → slots.used (map.keys c) slot ≡ 0
none_used c slot e = ap (λ (es : List (Key × ℕ)). slots.used (mapped (λ e. e.0) es) slot) (no_entries c e)

pub empty_len : (c : KeyCounts) → c ≡ map.empty → map.len c ≡ 0
empty_len c e = ap (λ m. map.len m) e ∙ map.len-empty key_cmp ℕ

pub none_counted : (p : Pool) (r : Texts) (c : KeyCounts) → c ≡ map.empty → image (triple_at p r) c ≡ map.empty
unfolding image
none_counted p r c e = ap (λ (es : List (Key × ℕ)). map.from_entries {R = triple_cmp} (pushed key_cmp triple_cmp (triple_at p r) es)) (no_entries c (empty_len c e))

no_piece : (piece : Piece) (slots : List (Option Entry)) → count_by is_some slots ≡ 0 → list_any (has_piece piece) slots ≡ false
no_piece piece [] e = refl
no_piece piece (None ∷ rest) e = no_piece piece rest (omega (arith, e, sum_by-cons (λ (o : Option Entry). cond (is_some o) 1 0) None rest))
no_piece piece (Some entry ∷ rest) e = absurd (omega (arith, e, sum_by-cons (λ (o : Option Entry). cond (is_some o) 1 0) (Some entry) rest))

pub all_beside : (p : Pool) (r : Texts) (piece : Piece) → terms p ≡ 0 → pool_beside p r piece ≡ bytes_of r piece
unfolding pool_beside
all_beside p r piece e = ap (λ b. cond b None (bytes_of r piece)) (no_piece piece p.slots.slots e)

no_blocks : (blocks : Blocks) (number : ℕ) → length blocks ≡ 0 → block_at blocks number ≡ None
no_blocks [] number none = refl
no_blocks (b ∷ blocks) number none = absurd (omega arith)

-- a new region has no text
pub vacant : (r : Texts) → IsNew r → (piece : Piece) → bytes_of r piece ≡ None
vacant r new piece = no_blocks (blocks_of r piece.class) piece.number (new.none_made piece.class)

-- ---- another limit

no_terms : (p : Pool) (r : Texts) → LiesIn p r → ((slot : ℕ) → count_at p slot ≡ 0) → terms p ≡ 0
no_terms p r lies none = omega (arith, as_many p r [] lies (record { each = λ x t e. absurd (omega (arith, none x, used_at p r lies x t e)) }))

pub limited : (st : Catalog) (r : Texts) (limit : ℕ) → map.len st.index ≡ 0 → IsStored st r → IsStored (record { alloc = st.alloc; pool = record st.pool { limit = limit }; index = st.index }) r
limited st r limit none h =
    let empty = no_terms st.pool r h.lies (λ slot. h.counted slot ∙ none_used st.index slot none) in
    record {
      lies = record { textual = h.lies.textual; once = h.lies.once; indexed = h.lies.indexed; few = omega (arith, empty) };
      counted = h.counted;
      owned = h.owned;
    }

pub limited_counts : (st : Catalog) (r : Texts) (limit : ℕ) → counts_in (record { alloc = st.alloc; pool = record st.pool { limit = limit }; index = st.index }) r ≡ counts_in st r
unfolding image triple_at
limited_counts st r limit = refl

pub limited_beside : (p : Pool) (r : Texts) (limit : ℕ) (piece : Piece) → pool_beside (record p { limit = limit }) r piece ≡ pool_beside p r piece
unfolding pool_beside
limited_beside p r limit piece = refl

-- ---- texts beside the store's

module _ (st : Catalog) (r s : Texts) (piece : Piece) (before after : Option (List ℕ)) (h : IsStored st r) (moves : MovesBeside st.pool r s piece before after) where
  keeps : KeepsTexts st.pool r st.pool s
  keeps = record { kept = λ x t e. moves.texts x ∙ e }

  pub moved_stored : IsStored st s
  moved_stored = record { lies = moves.lies; counted = h.counted; owned = h.owned }

  pub moved_counts : counts_in st s ≡ counts_in st r
  moved_counts = counts_kept st.pool st.pool r s st.index keeps (live_stored st r h)

  pub moved_keys : (key : Key) (triple : Triple) → HasKey st r key triple → HasKey st s key triple
  moved_keys key triple k = record { stored = k.stored; has = keeps_triple st.pool st.pool r s key triple keeps k.has }

  pub moved : Changes (beside st r) (beside st s) piece before after
  moved = record { was = moves.was; is = moves.is; others = moves.others }
