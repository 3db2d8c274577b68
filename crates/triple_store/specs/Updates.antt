-- What the calls of a store that change the owners of triples ask for, and what they do.
use Rattle.std.specs.Prelude.{◌≡◌, ℕ, ◌<◌, ◌≤◌, true, List, [], length, Result, Err, IfOk, IsOk, OnErr, OnOk}
use Rattle.std.specs.List.{AllByRecursion}
use Rattle.sorted_sets.specs.Rising.{IsRising, has}
use Rattle.base.specs.declared.memory.OutOfMemory.{OutOfMemory}
use Rattle.rdf_term.specs.{declared.triple.Triple.Triple, Fit.HasFitAndShortTerms, Order.triple_cmp}
use Rattle.text_region.specs.declared.piece.Piece.{Piece}
use Rattle.term_pool.specs.{declared.fault.PoolFault.PoolFault, declared.fault.PoolFault.TheVariants.Full}
use Rattle.slot_keys.specs.{declared.key.Key.Key, Keys.key_cmp}
use Rattle.triple_store.specs.{declared.telling.Telling.Telling, declared.telling.Told.Told}
use Rattle.triple_store.specs.{declared.telling.Telling.TheVariants.Change, declared.updates.Exchange.Exchange}
use Rattle.triple_store.specs.StoreState.{AreKeysOf, IsSound, KeepsKeys, StoreState, beside, counts_in, is_key, limit_of}
use Rattle.triple_store.specs.Telling.{TellsIf}
use Rattle.triple_catalog.specs.{Counts.Exchanges, Counts.count_of, Room.room_for}
use Rattle.triple_store.specs.Times as lent
pub use Rattle.triple_store.specs.Times.{Becomes, Exceeds, times}

-- the triples may come: their terms are fit and short, and no count of owners is saturated
pub record MayCome (store : StoreState) (triples : List Triple) : Type 0 where
  pub fit : AllByRecursion HasFitAndShortTerms triples
  pub countable : (triple : Triple) → has triple_cmp triple triples ≡ true → count_of (counts_in store) triple < 18446744073709551615

-- the keys are those of stored triples, in order
pub record AreStored (store : StoreState) (keys : List Key) : Type 0 where
  pub rising : IsRising key_cmp keys
  pub there : (key : Key) → has key_cmp key keys ≡ true → is_key store key ≡ true

-- the triples may go: each has an owner
abbrev pub MayGo : StoreState → List Triple → Type 0
MayGo store triples = (triple : Triple) → has triple_cmp triple triples ≡ true → 0 < count_of (counts_in store) triple

-- the keys of what is still stored stay, and so do the texts beside the terms', and the limit
pub record KeepsRest (old new : StoreState) : Type 0 where
  pub keeps : KeepsKeys old new
  pub beside : (piece : Piece) → beside new piece ≡ beside old piece
  pub limit : limit_of new ≡ limit_of old
  pub sound : IsSound new

-- the keys are those of the triples, and each count says how many times the triple of its key stands among these
abbrev pub AreTimesOf : StoreState → List Key → List ℕ → List Triple → Type 0
AreTimesOf store keys counts triples = lent.AreTimesOf store.catalog store.texts keys counts triples

-- the same where there are counts: an empty list says that they aren't known
abbrev pub AreTimesIfKnown : StoreState → List Key → List ℕ → List Triple → Type 0
AreTimesIfKnown store keys counts triples = 0 < length counts → AreTimesOf store keys counts triples

-- of the times of the keys so many are left after these triples are gone
abbrev pub AreLeft : StoreState → List Key → List ℕ → List ℕ → List Triple → Type 0
AreLeft store keys counts left gone = lent.AddTimes store.catalog store.texts keys left counts gone

-- each of the keys counts once, but not those of these triples
abbrev pub AreLeftWithout : StoreState → List Key → List ℕ → List Triple → Type 0
AreLeftWithout store keys left gone = lent.AreLeftWithout store.catalog store.texts keys left gone

-- an owner had some triples under these keys, and so many are left of each; with those that come it has the triples that it has now
abbrev pub ComesTo : StoreState → List Key → List ℕ → List Triple → List Triple → List Triple → Type 0
ComesTo store keys left come before after = lent.ComesTo store.catalog store.texts keys left come before after

-- an owner had some triples and has others from now on, of which there are the keys and the times; what is asked for is told
pub record HasExchanged (telling : Telling) (old new : StoreState) (before after : List Triple) (done : Exchange) : Type 0 where
  pub counts : Exchanges (counts_in old) (counts_in new) before after
  pub told : TellsIf telling (counts_in old) (counts_in new) done.change
  pub keys : AreKeysOf new done.keys.rising.items after
  pub times : AreTimesIfKnown new done.keys.rising.items done.times.items after
  pub within : room_for (counts_in old) after ≤ limit_of old

-- what is left of an owner's triples, and others that come, are in the place of those that it had, or a fault changed no count. `Full` is
-- said where there is no room for what the owner would have. Only what comes or stays takes memory, and to tell the change
pub record IsExchange (telling : Telling) (old new : StoreState) (keys : List Key) (left : List ℕ) (come : List Triple) (result : Result Exchange PoolFault) : Type 0 where
  pub done : IfOk result (λ done. (before after : List Triple) → ComesTo old keys left come before after → HasExchanged telling old new before after done)
  pub err : OnErr result (counts_in new ≡ counts_in old)
  pub full : result ≡ Err Full → (before after : List Triple) → ComesTo old keys left come before after → limit_of old < room_for (counts_in old) after
  pub free : (telling ≡ Change → ⊥) → left ≡ [] → come ≡ [] → IsOk result

-- a release that tells what is asked for, or nothing changed, since to tell the change takes memory
pub record IsRelease (telling : Telling) (old new : StoreState) (gone : List Key) (result : Result Told OutOfMemory) : Type 0 where
  pub ok : OnOk result ((triples : List Triple) → AreKeysOf old gone triples → Exchanges (counts_in old) (counts_in new) triples [])
  pub told : IfOk result (λ told. TellsIf telling (counts_in old) (counts_in new) told)
  pub err : OnErr result (new ≡ old)
  pub free : (telling ≡ Change → ⊥) → IsOk result

-- the triples that come have one owner more and those that go one less, or a fault changed no count
pub record IsPatched (old new : StoreState) (gone came : List Triple) (result : Result (Unit {0}) PoolFault) : Type 0 where
  pub ok : OnOk result (Exchanges (counts_in old) (counts_in new) gone came)
  pub err : OnErr result (counts_in new ≡ counts_in old)
  pub full : result ≡ Err Full → limit_of old < room_for (counts_in old) came
  pub within : OnOk result (room_for (counts_in old) came ≤ limit_of old)
  pub free : came ≡ [] → IsOk result
