-- Which entities hold by version Two of the mapping as deliveries are played: what is fetched is mapped by the version in force then,
-- and a delivery that brings a version maps all that is held by it.
use Rattle.std.specs.Prelude.{ℕ, Bool, false, true, cond, ◌&&◌, List, [], ◌∷◌, ◌++◌, Option, fold, is_ok, is_some}
use Rattle.entity_model.specs.declared.id.EntityId.{EntityId}
use Rattle.entity_model.specs.declared.event.Event.{Event}
use Rattle.delivery.specs.declared.Delivery.{Delivery}
use Rattle.delivery.specs.declared.Delivery.TheVariants.{Event as Told, Watermark, Ask, Mapping, Match}
use Rattle.entity_model.specs.declared.mapping.MappingVersion.{MappingVersion}
use Rattle.entity_model.specs.declared.mapping.MappingVersion.TheVariants.{One}
use Rattle.entity_state.specs.declared.record.Record.{Record}
use Rattle.entity_state.specs.State.{state_after}
use Rattle.entity_state.specs.Record.{held_revision, wants}
use Rattle.replay_model.specs.Acceptance.{Arrival, arrivals, version_in_force}
use Rattle.replay_model.specs.Play.{Replies, Played, apply, newly_due, play, record_after}
use Rattle.replay_model.specs.Records.{Bytes, Records, record_of}
use Rattle.replay_model.specs.Versions.{holders, with_version}

-- whether the application of the event fetches a document
abbrev pub gets_document : Replies → Event → Record Bytes → Bool
gets_document replies e r = wants (state_after r.state e) (held_revision r.held) && is_ok (replies e (state_after r.state e).rev)

-- after the event is applied to the record of its entity: a document that it fetches is mapped by this version, what is held still stays
-- mapped as it was, and an entity that holds nothing is named no longer
abbrev pub by_two_after_event : MappingVersion → Replies → Event → Record Bytes → List EntityId → List EntityId
by_two_after_event version replies e r by_two =
    cond (gets_document replies e r) (with_version version e.entity by_two)
    (cond (is_some (record_after replies e r).held) by_two (with_version One e.entity by_two))

-- after the events are applied, one after the other
abbrev pub by_two_after_events : MappingVersion → Replies → Played → List Event → List EntityId → List EntityId
by_two_after_events version replies p [] by_two = by_two
by_two_after_events version replies p (e ∷ es) by_two =
    by_two_after_events version replies (apply replies p e) es (by_two_after_event version replies e (record_of p.records e.entity) by_two)

-- after each document that is held is mapped by this version, one after the other
abbrev pub by_two_remapped : MappingVersion → Records → List EntityId → List EntityId
by_two_remapped version records by_two = fold (λ others x. with_version version x others) by_two (holders records)

-- after a delivery: a watermark applies what is due now, and a line that brings a version maps what is held by it
abbrev pub by_two_at : Option ℕ → Replies → List Delivery → Delivery → List EntityId → List EntityId
by_two_at h replies before (Told e) by_two = by_two
by_two_at h replies before (Watermark w) by_two =
    by_two_after_events (version_in_force before) replies (play h replies before) (newly_due h before false (before ++ Watermark w ∷ [])) by_two
by_two_at h replies before (Ask q) by_two = by_two
by_two_at h replies before (Mapping v) by_two = by_two_remapped v (play h replies before).records by_two
by_two_at h replies before (Match q) by_two = by_two

-- after the deliveries
abbrev pub by_two_of_play : Option ℕ → Replies → List Delivery → List EntityId
by_two_of_play h replies ds = fold (λ by_two (a : Arrival). by_two_at h replies a.before a.delivery by_two) [] (arrivals ds)

-- after the deliveries, and perhaps the end of the input, which applies all that waits
abbrev pub by_two_played : Option ℕ → Bool → Replies → List Delivery → List EntityId
by_two_played h false replies ds = by_two_of_play h replies ds
by_two_played h true replies ds =
    by_two_after_events (version_in_force ds) replies (play h replies ds) (newly_due h ds true ds) (by_two_of_play h replies ds)
