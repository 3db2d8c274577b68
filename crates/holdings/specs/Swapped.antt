-- The triples of a page come in the place of those that its entity had.
use Rattle.std.specs.Prelude.{◌≡◌, ℕ, ◌<◌, ◌≤◌, ⊤, List, Option, Result, Err, IfOk, IfSome, OnErr, option_map}
use Rattle.rdf_term.specs.declared.triple.Triple.{Triple}
use Rattle.entity_model.specs.declared.entity.Entity.{Entity}
use Rattle.page_rdf.specs.declared.counts.Counts.{Counts}
use Rattle.entity_rdf.specs.Changing.{kept_list}
use Rattle.replay_model.specs.Records.{Bytes}
use Rattle.slot_keys.specs.declared.key.Key.{Key}
use Rattle.term_pool.specs.{declared.fault.PoolFault.PoolFault, declared.fault.PoolFault.TheVariants.Full}
use Rattle.triple_store.specs.{declared.updates.Exchange.Exchange, declared.telling.Telling.Telling, Counts.Exchanges}
use Rattle.triple_store.specs.{Updates.AreTimesIfKnown, Room.room_for}
use Rattle.triple_store.specs.{StoreState.AreKeysOf, StoreState.StoreState, StoreState.counts_in, StoreState.limit_of, Telling.TellsIf}
use Rattle.fetched_pages.specs.{declared.comparing.ChangedPage.ChangedPage, declared.fetching.FetchedPage.FetchedPage}
use Rattle.fetched_pages.specs.declared.fetching.FetchedPage.TheVariants.{Whole, Changed, Parted, Differing}
use Rattle.fetched_pages.specs.{declared.fetching.Wanted.Wanted, Compared.AreChanged, Fetched.IsPageOf, Meaning.meaning}
use Rattle.holdings.specs.{declared.swapping.PageExchange.PageExchange, Timed.IsTimed}

-- the keys and the times are those of the triples that are kept of an older page of x, if the times are known, and it is known what the
-- wanted page changes of that one
pub record MaySwapParts (store : StoreState) (keys : List Key) (times : List ℕ) (wanted : Wanted) (page : ChangedPage) : Type 0 where
  pub old_rev : ℕ
  pub old : Entity
  pub changed : AreChanged wanted.version wanted.id old_rev wanted.rev old page.bytes page.texts
  pub times_are : AreTimesIfKnown store keys times (kept_list wanted.version wanted.id old_rev old)

-- the page has all its triples, or those that it changes
abbrev pub MaySwap : StoreState → List Key → List ℕ → Wanted → FetchedPage → Type 0
MaySwap store keys times wanted (Whole page) = IsPageOf wanted.version wanted.id wanted.rev page
MaySwap store keys times wanted (Changed page) = MaySwapParts store keys times wanted page
MaySwap store keys times wanted (Parted page) = ⊤
MaySwap store keys times wanted (Differing page) = ⊤

-- what an exchange gives, with the counts of the page, if it has some: without these nothing is known of the times
abbrev pub with_counts : Option Counts → Exchange → PageExchange
with_counts counts done = record {
  keys = done.keys;
  times = option_map (λ (c : Counts). record { counts = c; times = done.times }) counts;
  change = done.change;
}

-- what the bytes of the wanted revision mean
abbrev pub wanted_meaning : Wanted → Bytes → List Triple
wanted_meaning wanted bytes = meaning wanted.version wanted.id wanted.rev bytes

-- an owner whose triples have these keys has the triples that the bytes mean from now on; the change is told where it is to be told
pub record HasSwapped (telling : Telling) (old new : StoreState) (gone : List Key) (wanted : Wanted) (bytes : Bytes) (done : PageExchange) : Type 0 where
  pub counts : (triples : List Triple) → AreKeysOf old gone triples → Exchanges (counts_in old) (counts_in new) triples (wanted_meaning wanted bytes)
  pub told : TellsIf telling (counts_in old) (counts_in new) done.change
  pub keys_are : AreKeysOf new done.keys.rising.items (wanted_meaning wanted bytes)
  pub timed : IfSome done.times (IsTimed wanted.version new wanted.id wanted.rev bytes done.keys.rising.items)
  pub within : room_for (counts_in old) (wanted_meaning wanted bytes) ≤ limit_of old

-- so it is, or a fault changed no count. `Full` is said where there is no room for the triples
pub record IsPageExchange (telling : Telling) (old new : StoreState) (gone : List Key) (wanted : Wanted) (bytes : Bytes) (result : Result PageExchange PoolFault) : Type 0 where
  pub done : IfOk result (HasSwapped telling old new gone wanted bytes)
  pub err : OnErr result (counts_in new ≡ counts_in old)
  pub full : result ≡ Err Full → limit_of old < room_for (counts_in old) (wanted_meaning wanted bytes)
