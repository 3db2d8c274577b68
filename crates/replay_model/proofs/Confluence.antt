-- Closed lists of deliveries with the same accepted events give the same records, and with the same version of the mapping in force the
-- same union and owners.
use Rattle.std.proofs.Common.{◌≡◌, true, List, sym, ◌∙◌, ap, refl, Option, ℕ}
use Rattle.std.specs.declared.cmp.Ordering.{Ordering}
use Rattle.entity_model.specs.declared.event.Event.{Event}
use Rattle.entity_model.specs.Event.{event_cmp, event_cmp_total, event_cmp_same}
use Rattle.delivery.specs.declared.Delivery.{Delivery}
use Rattle.entity_model.specs.declared.mapping.MappingVersion.{MappingVersion}
use Rattle.reorder_buffer.specs.Watermarks.{is_due}
use Rattle.sorted_sets.specs.Rising.{has}
use Rattle.sorted_sets.proofs.Rising.{sorted_same}
use Rattle.sorted_sets.proofs.Filtering.{filter_all}
use Rattle.replay_model.specs.Acceptance.{mark, accepted, due, version_in_force}
use Rattle.replay_model.specs.Play.{Replies, play_to_end}
use Rattle.replay_model.specs.Union.{Meaning, union, owners}
use Rattle.replay_model.proofs.PlayedRecords.{records_of, records-played}

-- at the end all accepted events are due
pub due-closed : (hz : Option ℕ) (ds : List Delivery) → due hz true ds ≡ accepted hz ds
due-closed hz ds = filter_all (is_due true (mark ds)) (accepted hz ds) (λ e. refl)

pub records-confluent : (hz : Option ℕ) (replies : Replies) (ds es : List Delivery) → ((e : Event) → has event_cmp e (accepted hz ds) ≡ has event_cmp e (accepted hz es)) → (play_to_end hz replies ds).records ≡ (play_to_end hz replies es).records
records-confluent hz replies ds es same =
    records-played hz true replies ds
    ∙ ap (records_of replies) (sorted_same event_cmp_total event_cmp_same (due hz true ds) (due hz true es) (λ e. ap (has event_cmp e) (due-closed hz ds) ∙ same e ∙ sym (ap (has event_cmp e) (due-closed hz es))))
    ∙ sym (records-played hz true replies es)

module _ {Triple : Type 0} (order : Triple → Triple → Ordering) (meaning : MappingVersion → Meaning Triple) where
  pub union-confluent : (hz : Option ℕ) (replies : Replies) (ds es : List Delivery) → ((e : Event) → has event_cmp e (accepted hz ds) ≡ has event_cmp e (accepted hz es)) → version_in_force ds ≡ version_in_force es
      → union order (meaning (version_in_force ds)) (play_to_end hz replies ds).records ≡ union order (meaning (version_in_force es)) (play_to_end hz replies es).records
  union-confluent hz replies ds es same version = λ i. union order (meaning (version i)) (records-confluent hz replies ds es same i)

  pub owners-confluent : (hz : Option ℕ) (replies : Replies) (ds es : List Delivery) → ((e : Event) → has event_cmp e (accepted hz ds) ≡ has event_cmp e (accepted hz es)) → version_in_force ds ≡ version_in_force es
      → (t : Triple) → owners order (meaning (version_in_force ds)) (play_to_end hz replies ds).records t ≡ owners order (meaning (version_in_force es)) (play_to_end hz replies es).records t
  owners-confluent hz replies ds es same version t = λ i. owners order (meaning (version i)) (records-confluent hz replies ds es same i) t
