-- The way from texts to slots.
use Rattle.std.specs.Prelude.{◌≡◌, ◌≢◌, ℕ, List, Option, Some, IsSome, ◌⊎◌}
use Rattle.std.specs.List.{Contains}
use Rattle.std.specs.RandomState.{initial_hasher}
use Rattle.std.specs.Hash.DefaultHasher as sip
use Rattle.std.specs.declared.random_state.RandomState.{RandomState}

-- the hash of a text under these keys
unfoldable pub hash_of : RandomState → List ℕ → ℕ
hash_of keys text = sip.finish (sip.write (initial_hasher keys) text)

-- the text in each slot is found by its hash, or among the slots whose hash points at another one
pub record IsIndexed (keys : RandomState) (text_in : ℕ → Option (List ℕ)) (by_hash : ℕ → Option ℕ) (more : List ℕ) : Type 0 where
  pub found : (slot : ℕ) (text : List ℕ) → text_in slot ≡ Some text → (by_hash (hash_of keys text) ≡ Some slot) ⊎ Contains more slot
  pub pointed : (hash slot : ℕ) → by_hash hash ≡ Some slot → (text : List ℕ) × (text_in slot ≡ Some text) × (hash_of keys text ≡ hash)
  pub listed : (slot : ℕ) → Contains more slot → IsSome (text_in slot)

-- one more slot is found by a hash
pub record Points (old new : ℕ → Option ℕ) (more after : List ℕ) (hash number : ℕ) : Type 0 where
  pub there : (new hash ≡ Some number) ⊎ Contains after number
  pub kept : (h slot : ℕ) → old h ≡ Some slot → new h ≡ Some slot
  pub fresh : (h slot : ℕ) → new h ≡ Some slot → (old h ≡ Some slot) ⊎ ((h ≡ hash) × (slot ≡ number))
  pub still_listed : (slot : ℕ) → Contains more slot → Contains after slot
  pub now_listed : (slot : ℕ) → Contains after slot → Contains more slot ⊎ (slot ≡ number)

-- a hash doesn't point at a slot any more
pub record Forgets (old new : ℕ → Option ℕ) (hash number : ℕ) : Type 0 where
  pub gone : new hash ≢ Some number
  pub still : (h slot : ℕ) → new h ≡ Some slot → old h ≡ Some slot
  pub kept : (h slot : ℕ) → old h ≡ Some slot → slot ≢ number → new h ≡ Some slot
