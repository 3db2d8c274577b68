-- Room for one more term.
use Rattle.std.specs.Prelude.{◌≡◌, ℕ, ◌<◌, ◌==◌, None, vec_len, vec_capacity}
use Rattle.std.specs.HashMap.{get as map_get, spare}
use Rattle.slab.specs.Slab.{get, HasRoomFor}
use Rattle.term_pool.specs.declared.pool.Pool.{Pool}

-- the pool has the same slots and the same index
pub record HasSame (old new : Pool) : Type 0 where
  pub slots : new.slots ≡ record old.slots { capacity = new.slots.capacity }
  pub by_hash : (hash : ℕ) → map_get ◌==◌ new.by_hash hash ≡ map_get ◌==◌ old.by_hash hash
  pub more : new.more.items ≡ old.more.items
  pub keys : new.keys ≡ old.keys
  pub limit : new.limit ≡ old.limit

-- there is room for one more term, in this slot
pub record HasSpareSlot (pool : Pool) (number : ℕ) : Type 0 where
  pub slots : HasRoomFor pool.slots 1
  pub by_hash : 0 < spare pool.by_hash
  pub more : vec_len pool.more < vec_capacity pool.more
  pub next : number ≡ pool.slots.vacant_key
  pub vacant : get pool.slots number ≡ None
