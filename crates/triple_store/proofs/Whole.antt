-- All triples of an owner came in the place of those that it had.
use Rattle.std.proofs.Common.{◌<◌, ◌≤◌, List, []}
use Rattle.rdf_term.specs.declared.triple.Triple.{Triple}
use Rattle.slot_keys.specs.declared.key.Key.{Key}
use Rattle.triple_store.specs.{declared.telling.Telling.Telling, declared.updates.Exchange.Exchange}
use Rattle.triple_store.specs.StoreState.{AreKeysOf, IsSound, StoreState, counts_in, limit_of}
use Rattle.triple_store.specs.{Telling.TellsIf, Updates.AreStored, Updates.AreTimesIfKnown, Updates.ComesTo, Updates.HasExchanged}
use Rattle.triple_catalog.specs.{Counts.Exchanges, Moves.triples_at, Room.room_for}
use Rattle.triple_store.proofs.{Becoming.comes_whole, Parts.stand_themselves}

-- what is so where nothing is left of the triples that the owner had
pub record IsWhole (telling : Telling) (old new : StoreState) (keys : List Key) (came : List Triple) (done : Exchange) : Type 0 where
  pub counts : (triples : List Triple) → AreKeysOf old keys triples → Exchanges (counts_in old) (counts_in new) triples came
  pub told : TellsIf telling (counts_in old) (counts_in new) done.change
  pub keys_are : AreKeysOf new done.keys.rising.items came
  pub times : AreTimesIfKnown new done.keys.rising.items done.times.items came
  pub within : room_for (counts_in old) came ≤ limit_of old

-- keys of stored triples are those of some triples
keys_of : (s : StoreState) (keys : List Key) → IsSound s → AreStored s keys → AreKeysOf s keys (triples_at s.catalog s.texts keys)
keys_of s keys sound stored =
    let stand = stand_themselves s.catalog s.texts sound keys stored.there in
    record { rising = stored.rising; each = stand.each; all = stand.all }

module _ (old : StoreState) (keys : List Key) (came : List Triple) (sound : IsSound old) (stored : AreStored old keys) where
  pub whole : (telling : Telling) (new : StoreState) (done : Exchange) → ((before after : List Triple) → ComesTo old keys [] came before after → HasExchanged telling old new before after done) → IsWhole telling old new keys came done
  whole telling new done moved =
      let some = moved (triples_at old.catalog old.texts keys) came (comes_whole old.catalog old.texts keys came _ (keys_of old keys sound stored)) in
      record {
        counts = λ triples are. (moved triples came (comes_whole old.catalog old.texts keys came triples are)).counts;
        told = some.told;
        keys_are = some.keys;
        times = some.times;
        within = some.within;
      }

  pub whole_full : ((before after : List Triple) → ComesTo old keys [] came before after → limit_of old < room_for (counts_in old) after) → limit_of old < room_for (counts_in old) came
  whole_full full = full (triples_at old.catalog old.texts keys) came (comes_whole old.catalog old.texts keys came _ (keys_of old keys sound stored))
