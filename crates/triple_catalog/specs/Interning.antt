-- What it is to use the terms of a triple once more or once less.
use Rattle.std.specs.Prelude.{◌≡◌, ℕ, ◌+◌, ◌-◌, ◌<◌, true, List, Option, Some, IfSome, slice_get}
use Rattle.sorted_sets.specs.Rising.{has}
use Rattle.rdf_term.specs.{declared.term.Term.Term, Order.term_cmp, Undo.undo, declared.triple.Triple.Triple, Text.term_text}
use Rattle.text_region.specs.Region.{Texts}
use Rattle.term_pool.specs.{declared.pool.Pool.Pool, Pool.count_at, Pool.text_in_slot}
use Rattle.slot_keys.specs.declared.key.Key.{Key}
use Rattle.triple_texts.specs.declared.triple_text.TripleText.{TripleText}
use Rattle.triple_catalog.specs.{declared.interning.Hints.Hints, Slots.HasTexts, Slots.uses}

-- each slot keeps the text that it has
pub record KeepsTexts (old : Pool) (before : Texts) (new : Pool) (after : Texts) : Type 0 where
  pub kept : (slot : ℕ) (text : List ℕ) → text_in_slot old before slot ≡ Some text → text_in_slot new after slot ≡ Some text

-- the three slots have these texts, and are used once more for each place
pub record InternsTriple (old : Pool) (before : Texts) (new : Pool) (after : Texts) (key : Key) (of : TripleText) : Type 0 where
  pub has : HasTexts new after key of
  pub kept : KeepsTexts old before new after
  pub counts : (slot : ℕ) → count_at new slot ≡ count_at old slot + uses slot key

-- the three slots are used once less for each place, and the slots that are still used have their texts
pub record ReleasesTriple (old : Pool) (before : Texts) (new : Pool) (after : Texts) (key : Key) : Type 0 where
  pub counts : (slot : ℕ) → count_at new slot + uses slot key ≡ count_at old slot
  pub texts : (slot : ℕ) → 0 < count_at new slot → text_in_slot new after slot ≡ text_in_slot old before slot

-- the list has the term of each slot
pub record HasTermsOf (pool : Pool) (texts : Texts) (terms : List Term) : Type 0 where
  pub each : (slot : ℕ) (text : List ℕ) → text_in_slot pool texts slot ≡ Some text → has term_cmp (undo text) terms ≡ true

-- the slots that are known have the texts of the triple's terms
pub record AreHints (pool : Pool) (texts : Texts) (hints : Hints) (of : TripleText) : Type 0 where
  pub subject : IfSome hints.subject (λ slot. text_in_slot pool texts slot ≡ Some of.subject.now)
  pub predicate : IfSome hints.predicate (λ slot. text_in_slot pool texts slot ≡ Some of.predicate.now)
  pub object : IfSome hints.object (λ slot. text_in_slot pool texts slot ≡ Some of.object.now)

-- the first slot has the subject of the triple before an index
pub record IsOfTripleBefore (pool : Pool) (texts : Texts) (key : Key) (triples : List Triple) (index : ℕ) : Type 0 where
  pub has : (triple : Triple) → 0 < index → slice_get triples (index - 1) ≡ Some triple → text_in_slot pool texts key.first ≡ Some (term_text triple.subject)

-- the slot, where one is known, has the subject of the triple at an index
abbrev pub IsOfSubject : Pool → Texts → Option ℕ → List Triple → ℕ → Type 0
IsOfSubject pool texts known triples index = (triple : Triple) → slice_get triples index ≡ Some triple → IfSome known (λ slot. text_in_slot pool texts slot ≡ Some (term_text triple.subject))
