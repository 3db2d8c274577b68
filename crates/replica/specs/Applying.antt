-- What a store has after triples got one owner more each.
use Rattle.std.specs.Prelude.{◌≡◌, ℕ, ◌+◌, ◌≤◌, List, []}
use Rattle.std.specs.FinMap as map
use Rattle.rdf_term.specs.declared.triple.Triple.{Triple}
use Rattle.slot_keys.specs.declared.key.Key.{Key}
use Rattle.triple_store.specs.{Counts.Exchanges, Counts.count_of, Room.room_for}
use Rattle.triple_store.specs.StoreState.{AreKeysOf, StoreState, counts_in, limit_of}

-- each triple has one owner more, so many of them weren't stored before, and the keys are theirs
pub record AreGained (old new : StoreState) (triples : List Triple) (fresh : ℕ) (keys : List Key) : Type 0 where
  pub owners : Exchanges (counts_in old) (counts_in new) [] triples
  pub keys_of : AreKeysOf new keys triples
  pub within : room_for (counts_in old) triples ≤ limit_of old
  pub fresh_are : map.len (counts_in new) ≡ map.len (counts_in old) + fresh

-- each triple has as many owners as before
abbrev pub KeepsCounts : StoreState → StoreState → Type 0
KeepsCounts old new = (triple : Triple) → count_of (counts_in new) triple ≡ count_of (counts_in old) triple
