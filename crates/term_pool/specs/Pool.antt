-- What contracts say of a pool and the region that has its texts.
use Rattle.std.specs.Prelude.{◌≡◌, ◌≢◌, ℕ, ◌+◌, ◌<◌, ◌≤◌, ◌==◌, Bool, false, cond, List, Option, Some, None, ◌⊎◌}
use Rattle.std.specs.List.{list_any}
use Rattle.std.specs.HashMap.{get as map_get}
use Rattle.slab.specs.Slab.{get, slab_len}
pub use Rattle.sorted_sets.specs.Counting.{one_if}
use Rattle.rdf_term.specs.declared.term.Term.{Term}
use Rattle.rdf_term.specs.Fit.{IsFitAndShort}
use Rattle.term_reading.specs.Reader.{read}
use Rattle.rdf_term.specs.Text.{term_text}
use Rattle.text_region.specs.declared.piece.Piece.{Piece}
use Rattle.text_region.specs.Region.{Texts, bytes_of, same_piece}
use Rattle.term_pool.specs.declared.slots.Entry.{Entry}
use Rattle.term_pool.specs.declared.pool.Pool.{Pool}
use Rattle.term_pool.specs.Index.{IsIndexed}

-- the text is that of a fit and short term
pub record IsCanonical (text : List ℕ) : Type 0 where
  pub term : Term
  pub is : text ≡ term_text term
  pub fit : IsFitAndShort term

-- the text of what stands in a slot
abbrev pub live_text : Texts → Option Entry → Option (List ℕ)
live_text texts None = None
live_text texts (Some entry) = bytes_of texts entry.piece

-- the canonical text of the term in a slot: none where the slot is empty
abbrev pub text_in_slot : Pool → Texts → ℕ → Option (List ℕ)
text_in_slot pool texts slot = live_text texts (get pool.slots slot)

-- the term that a text reads as
abbrev pub readable_term : Option (List ℕ) → Option Term
readable_term None = None
readable_term (Some text) = read text

-- the term in a slot: none where the slot is empty
unfoldable pub term_at : Pool → Texts → ℕ → Option Term
term_at pool texts slot = readable_term (text_in_slot pool texts slot)

abbrev pub count_of : Option Entry → ℕ
count_of None = 0
count_of (Some entry) = entry.count

-- how often the term in a slot is used: 0 where the slot is empty
abbrev pub count_at : Pool → ℕ → ℕ
count_at pool slot = count_of (get pool.slots slot)

-- the most uses that are counted: a count has 48 bits
abbrev pub most_uses : ℕ
most_uses = 281474976710655

-- how many terms are there
abbrev pub terms : Pool → ℕ
terms pool = slab_len pool.slots

abbrev pub has_piece : Piece → Option Entry → Bool
has_piece piece None = false
has_piece piece (Some entry) = same_piece entry.piece piece

-- whether a piece of the region is the pool's
abbrev pub owns : Pool → Piece → Bool
owns pool piece = list_any (has_piece piece) pool.slots.slots

-- the text of a piece that isn't the pool's: none where it is, and where it isn't live
unfoldable pub beside : Pool → Texts → Piece → Option (List ℕ)
beside pool texts piece = cond (owns pool piece) None (bytes_of texts piece)

-- the piece of a slot has the text of a fit and short term, and the term is used
pub record IsTextual (texts : Texts) (entry : Entry) : Type 0 where
  pub text : List ℕ
  pub is : bytes_of texts entry.piece ≡ Some text
  pub canonical : IsCanonical text
  pub counted : 0 < entry.count

-- the pool's texts lie in the region: each of its pieces is live there with the text of its term, no text is there twice,
-- each is found, and there are no more terms than the limit says
pub record LiesIn (pool : Pool) (texts : Texts) : Type 0 where
  pub textual : (slot : ℕ) (entry : Entry) → get pool.slots slot ≡ Some entry → IsTextual texts entry
  pub once : (slot other : ℕ) (text : List ℕ) → text_in_slot pool texts slot ≡ Some text → text_in_slot pool texts other ≡ Some text → slot ≡ other
  pub indexed : IsIndexed pool.keys (text_in_slot pool texts) (map_get ◌==◌ pool.by_hash) pool.more.items
  pub few : terms pool ≤ pool.limit

-- no slot has this text
pub record IsNowhere (pool : Pool) (texts : Texts) (text : List ℕ) : Type 0 where
  pub nowhere : (slot : ℕ) → text_in_slot pool texts slot ≢ Some text

-- every slot has the term and the count that it had
pub record SameSlots (old : Pool) (before : Texts) (new : Pool) (after : Texts) : Type 0 where
  pub texts : (slot : ℕ) → text_in_slot new after slot ≡ text_in_slot old before slot
  pub counts : (slot : ℕ) → count_at new slot ≡ count_at old slot

-- the slot has this text, which it had or which was in no slot, and is used once more; the others have theirs
pub record Interned (old : Pool) (before : Texts) (new : Pool) (after : Texts) (slot : ℕ) (text : List ℕ) : Type 0 where
  pub there : text_in_slot new after slot ≡ Some text
  pub was : (text_in_slot old before slot ≡ Some text) ⊎ ((text_in_slot old before slot ≡ None) × IsNowhere old before text)
  pub others : (other : ℕ) → other ≢ slot → text_in_slot new after other ≡ text_in_slot old before other
  pub counts : (other : ℕ) → count_at new other ≡ count_at old other + one_if (slot == other)

-- the slot is used once less, and the slots that are still used have their terms
pub record Released (old : Pool) (before : Texts) (new : Pool) (after : Texts) (slot : ℕ) : Type 0 where
  pub counts : (other : ℕ) → count_at new other + one_if (slot == other) ≡ count_at old other
  pub texts : (other : ℕ) → 0 < count_at new other → text_in_slot new after other ≡ text_in_slot old before other

-- the region's pieces that aren't the pool's are as they were, and there are no others
abbrev pub KeepsBeside : Pool → Texts → Pool → Texts → Type 0
KeepsBeside old before new after = (piece : Piece) → beside new after piece ≡ beside old before piece
