-- What a fault of the store at the least due event says of it.
use Rattle.std.proofs.Common.{◌≡◌, ℕ, true, List, Option, None, Some, Result, Ok, Err, IfOk, is_some, refl, sym, subst}
use Rattle.entity_model.specs.{declared.event.Event.Event, declared.mapping.MappingVersion.MappingVersion}
use Rattle.entity_state.specs.{Standing.standing_after, Standing.standing_of, Standing.standing_wants, State.state_after}
use Rattle.reorder_buffer.specs.Buffered.{Buffered, first_due}
use Rattle.revisions.specs.Revisions.{Contents}
use Rattle.entity_state.specs.declared.entry.{Cause.Cause, Entry.Entry}
use Rattle.replay_model.specs.Records.{Bytes, record_of}
use Rattle.entity_json.specs.Document.{unfit_of}
use Rattle.entity_model.specs.declared.id.EntityId.{EntityId}
use Rattle.term_pool.specs.declared.fault.PoolFault.{PoolFault}
use Rattle.term_pool.specs.declared.fault.PoolFault.TheVariants.{Full as StoreFull, OutOfMemory as StoreOutOfMemory}
use Rattle.fetched_pages.specs.{declared.fetching.FetchedPage.FetchedPage, Fetched.reply_or_any, Reply.IsReply}
use Rattle.world.specs.{Applying.fault_of_store, declared.applied.WorldFault.WorldFault, Roomed.IsOverfull, Roomed.Overfills}
use Rattle.world.specs.declared.applied.WorldFault.TheVariants.{Full, OutOfMemory}
use Rattle.world.specs.{Held.HeldState, Restoring.restore_fault_of, WorldState.played_of}
use Rattle.world.specs.declared.restoring.RestoreFault.{RestoreFault}
use Rattle.world.specs.declared.restoring.RestoreFault.TheVariants.{Full as RestoreFull}
use Rattle.lean_holdings.specs.declared.restoring.RestoreFault.{RestoreFault as LeanFault}
use Rattle.lean_holdings.specs.declared.restoring.RestoreFault.TheVariants.{Full as LeanFull, OutOfMemory as LeanOutOfMemory, Unsound as LeanUnsound}

pub store_full : {T : Type 0} (f : PoolFault) (r : Result T WorldFault) → r ≡ Err (fault_of_store f) → r ≡ Err Full → f ≡ StoreFull
store_full StoreFull r is full = refl
store_full StoreOutOfMemory r is full = cc

pub store_refused : {T : Type 0} (f : PoolFault) (r : Result T WorldFault) → r ≡ Err (fault_of_store f) → r ≡ Err OutOfMemory → f ≡ StoreOutOfMemory
store_refused StoreFull r is refused = cc
store_refused StoreOutOfMemory r is refused = refl

-- what there is no room for in a world, there isn't in its lean holdings
pub restore_full : {T : Type 0} (f : LeanFault) (r : Result T RestoreFault) → r ≡ Err (restore_fault_of f) → r ≡ Err RestoreFull → f ≡ LeanFull
restore_full LeanUnsound r is full = cc
restore_full LeanFull r is full = refl
restore_full LeanOutOfMemory r is full = cc

-- two results with the same fault have the same fault
pub alike_err : {T U : Type 0} (f g : PoolFault) (r : Result T PoolFault) (q : Result U PoolFault) → r ≡ Err f → q ≡ Err f → r ≡ Err g → q ≡ Err g
alike_err f g r q is also same = cc

-- a page that a source may give is a document
pub reply_judged : (known : Option Contents) (folder : List ℕ) (x : EntityId) (rev : ℕ) (reply : Result Bytes Cause) → IsReply known folder x rev reply → IfOk reply (λ bytes. unfit_of x bytes ≡ None)
reply_judged known folder x rev (Ok bytes) is = is.0
reply_judged known folder x rev (Err cause) is = tt

-- there is no room for the page that the event wants
pub overfull : (known : Option Contents) (folder : List ℕ) (h : HeldState) (b : Buffered) (side : List Entry) (version : MappingVersion) (e : Event) (reply : Option (Result FetchedPage Cause)) → first_due b ≡ Some e
    → is_some reply ≡ standing_wants (standing_after (standing_of (record_of h.records e.entity)) e)
    → IsReply known folder e.entity (state_after (record_of h.records e.entity).state e).rev (reply_or_any reply)
    → Overfills h version e.entity (standing_after (standing_of (record_of h.records e.entity)) e).state.rev (reply_or_any reply)
    → IsOverfull known folder (record { replay = record { buffer = b; played = played_of h side }; limit = h.limit; mapping = version; by_two = h.by_two })
overfull known folder h b side version e reply due wanted is_reply over = record {
  event = e;
  due = due;
  wanted = by reply wanted over.is;
  bytes = over.bytes;
  is_reply = subst (λ r. IsReply known folder e.entity (state_after (record_of h.records e.entity).state e).rev r) over.is is_reply;
  over = over.over;
}
  where
    by : (r : Option (Result FetchedPage Cause)) → is_some r ≡ standing_wants (standing_after (standing_of (record_of h.records e.entity)) e) → reply_or_any r ≡ Ok over.bytes
        → standing_wants (standing_after (standing_of (record_of h.records e.entity)) e) ≡ true
    by None there is = cc
    by (Some r) there is = sym there
