-- The map to counts, kept as the set of its triples and the counts of the owners after the first.
use Rattle.std.specs.Prelude.{◌≡◌, ◌+◌, ◌<◌, true, List}
use Rattle.std.specs.Prelude.{map as mapped}
use Rattle.sorted_sets.specs.Rising.{has}
use Rattle.slot_keys.specs.declared.key.Key.{Key}
use Rattle.slot_keys.specs.Keys.{key_cmp}
use Rattle.slot_index.specs.Counts.{KeyCounts, HaveOwners, count_of, counts_of}

-- each triple of the list, with one owner and as many as are counted beside it
unfoldable pub with_more : List Key → KeyCounts → KeyCounts
with_more keys more = counts_of (mapped (λ k. (k, count_of more k + 1)) keys)

-- only triples of the list have further owners, fewer than 2^64 each
pub record IsCounted (keys : List Key) (more : KeyCounts) : Type 0 where
  pub owned : HaveOwners more
  pub stored : (k : Key) → 0 < count_of more k → has key_cmp k keys ≡ true
  pub few : (k : Key) → count_of more k < 18446744073709551615
