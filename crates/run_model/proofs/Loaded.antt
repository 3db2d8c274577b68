-- What follows of a snapshot that is loaded, and of one that isn't.
use Rattle.std.proofs.Common.{◌≡◌, subst, ap, ℕ, List, true, Option, Some, IfSome}
use Rattle.sorted_sets.specs.Rising.{has}
use Rattle.entity_model.specs.{declared.event.Event.Event, declared.id.EntityId.EntityId, Event.event_cmp}
use Rattle.replay_model.specs.{Explained.is_applied, Replies.failed_events}
use Rattle.snapshot.specs.{File.saved_in_bytes, declared.counts.Counts.Counts}
use Rattle.world.specs.{Limit.Limit, WorldState.WorldState}
use Rattle.checkpoint.specs.{Loading.HoldsDocuments as AreDocuments, Loading.IsResting, Saved.AreWithin, Saved.saved_of, Saved.world_of}
use Rattle.run_model.specs.{Remapping.HoldsWithin, Remapping.mapped_in, Resuming.IsSnapshotOf, Taking.IsStanding}

-- a world that is loaded stands between two deliveries
loaded_stands : (limit : Limit) (world : WorldState) (numbers : Counts) → world ≡ world_of limit (saved_of world numbers) → IsResting world.replay.buffer → AreDocuments world.replay.played.records →
    ((e : Event) → has event_cmp e (failed_events world.replay.played.side) ≡ true → is_applied world.replay e ≡ true) → IsStanding world.replay (mapped_in world)
loaded_stands limit world numbers is rests documents applied = record {
  open_still = rests.open_still;
  rests = rests.none_due;
  rises = rests.rises;
  by_one = ap (λ (xs : List EntityId). record { version = world.mapping; by_two = xs }) (ap (λ (w : WorldState). w.by_two) is);
  documents = documents;
  applied = applied;
}

pub is_snapshot : (left : Option (List ℕ)) (limit : Limit) (world : WorldState) (numbers : Counts) → IfSome left (λ bytes. saved_in_bytes bytes ≡ Some (saved_of world numbers)) → world ≡ world_of limit (saved_of world numbers) →
    IsResting world.replay.buffer → AreDocuments world.replay.played.records → ((e : Event) → has event_cmp e (failed_events world.replay.played.side) ≡ true → is_applied world.replay e ≡ true) →
    AreWithin numbers → HoldsWithin world.limit world → IsSnapshotOf left limit world numbers
is_snapshot left limit world numbers saved is rests documents applied within held = record {
  saved = saved;
  is = is;
  stands = loaded_stands limit world numbers is rests documents applied;
  held = subst (λ l. HoldsWithin l world) (ap (λ (w : WorldState). w.limit) is) held;
  within = within;
}
