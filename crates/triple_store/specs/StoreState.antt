-- What contracts see of a store: its terms and triples, and the texts of its region.
use Rattle.std.specs.Prelude.{◌≡◌, ℕ, ◌⊎◌, Bool, true, List, Option, None, Some, is_some, refl}
use Rattle.std.specs.Coded.{Coded, code_by, coded×}
use Rattle.std.specs.FinMap as map
use Rattle.std.specs.List.{flat_map}
use Rattle.sorted_sets.specs.Rising.{has}
use Rattle.rdf_term.specs.{declared.term.Term.Term, declared.triple.Triple.Triple, Order.term_cmp, Text.term_text}
use Rattle.text_region.specs.{declared.piece.Piece.Piece, Region.Texts, Region.bytes_of, Region.texts_code}
use Rattle.slot_keys.specs.declared.key.Key.{Key}
use Rattle.triple_catalog.specs.{declared.catalog.Catalog.Catalog, Counts.Counts, Room.terms_of}
use Rattle.triple_catalog.specs.contracts.catalog.Catalog as catalog
use Rattle.triple_catalog.specs.Stored as lent

-- the terms and the triples of slots, and the texts of the region: those of the terms, and others beside them
pub record StoreState : Type 0 where
  pub catalog : Catalog
  pub texts : Texts

-- how a store is stored as a value
abbrev pub store_code : Coded StoreState
store_code = code_by (Catalog × Texts) (coded× (catalog.the_row).coded texts_code) (λ s. (s.catalog, s.texts)) (λ c. record { catalog = c.0; texts = c.1 }) (λ _. refl)

-- the stored triples, each with the number of its owners
abbrev pub counts_in : StoreState → Counts
counts_in store = lent.counts_in store.catalog store.texts

-- the text of a piece that lies beside the terms' texts: none where the piece is a term's, and where it isn't live
abbrev pub beside : StoreState → Piece → Option (List ℕ)
beside store = lent.beside store.catalog store.texts

-- how many terms there may be
abbrev pub limit_of : StoreState → ℕ
limit_of store = lent.limit_of store.catalog

-- whether a key is that of a stored triple
abbrev pub is_key : StoreState → Key → Bool
is_key store key = lent.is_key store.catalog key

-- the key is that of a stored triple
abbrev pub HasKey : StoreState → Key → Triple → Type 0
HasKey store key triple = lent.HasKey store.catalog store.texts key triple

-- the keys are those of the triples, each once and in order
abbrev pub AreKeysOf : StoreState → List Key → List Triple → Type 0
AreKeysOf store keys triples = lent.AreKeysOf store.catalog store.texts keys triples

-- the key of a triple that is still stored goes on being its key
abbrev pub KeepsKeys : StoreState → StoreState → Type 0
KeepsKeys old new = lent.KeepsKeys old.catalog old.texts new.catalog new.texts

-- each stored triple has an owner, each of their terms has one slot with its text, no other slot is used, and there are no more terms
-- than the limit says
abbrev pub IsSound : StoreState → Type 0
IsSound store = lent.IsStored store.catalog store.texts

-- the terms of the stored triples
abbrev pub terms_in : StoreState → List Term
terms_in store = flat_map terms_of (map.keys (counts_in store))

-- each of these terms has one slot, which has a piece of the region with its text; no two slots have the same piece; and each other live
-- piece lies beside them, with its text
pub record AreLaid (store : StoreState) : Type 0 where
  pub term : ℕ → Option Term
  pub text : ℕ → Option Piece
  pub stored : (slot : ℕ) (t : Term) → term slot ≡ Some t → has term_cmp t (terms_in store) ≡ true
  pub each : (t : Term) → has term_cmp t (terms_in store) ≡ true → (slot : ℕ) × (term slot ≡ Some t)
  pub once : (a b : ℕ) (t : Term) → term a ≡ Some t → term b ≡ Some t → a ≡ b
  pub texts : (slot : ℕ) (t : Term) → term slot ≡ Some t → (piece : Piece) × (text slot ≡ Some piece) × (bytes_of store.texts piece ≡ Some (term_text t))
  pub own : (a b : ℕ) (piece : Piece) → text a ≡ Some piece → text b ≡ Some piece → a ≡ b
  pub apart : (slot : ℕ) (piece : Piece) → text slot ≡ Some piece → beside store piece ≡ None
  pub live : (piece : Piece) → is_some (beside store piece) ≡ true → bytes_of store.texts piece ≡ beside store piece
  pub only : (piece : Piece) → is_some (bytes_of store.texts piece) ≡ true
      → ((slot : ℕ) × (t : Term) × (term slot ≡ Some t) × (text slot ≡ Some piece)) ⊎ (is_some (beside store piece) ≡ true)
