-- The pages that deliveries may bring, and their terms.
use Rattle.std.specs.Prelude.{ℕ, Bool, true, false, List, [], ◌∷◌, Option, filter, filter_map, unwrap_or}
use Rattle.std.specs.{List.flat_map, Option.option_map}
use Rattle.rdf_term.specs.declared.term.Term.{Term}
use Rattle.entity_model.specs.{declared.id.EntityId.EntityId, declared.event.Event.Event, declared.event.Kind.Kind}
use Rattle.entity_model.specs.declared.event.Kind.TheVariants.{Edit, Delete, Undelete, ReconcileDeleted, ReconcileKept}
use Rattle.entity_model.specs.{declared.mapping.MappingVersion.MappingVersion, declared.mapping.MappingVersion.TheVariants.One}
use Rattle.delivery.specs.declared.Delivery.{Delivery}
use Rattle.replay_model.specs.{Acceptance.events, Acceptance.mapping_of, Records.Bytes, Union.Meaning}
use Rattle.triple_store.specs.Room.{terms_of}
use Rattle.fetched_pages.specs.Meaning.{meaning}

-- whether an event of this kind may say that its page is there
abbrev pub keeps_page : Kind → Bool
keeps_page Edit = true
keeps_page Delete = false
keeps_page Undelete = true
keeps_page ReconcileDeleted = false
keeps_page ReconcileKept = true

-- the triples that what is there at a revision means
abbrev pub triples_there : {Triple : Type 0} → Meaning Triple → (ℕ → Option Bytes) → EntityId → ℕ → List Triple
triples_there meaning contents x r = unwrap_or (option_map (meaning x r) (contents r)) []

-- the versions of the mapping that these deliveries bring, and the first
abbrev pub versions_told : List Delivery → List MappingVersion
versions_told ds = One ∷ filter_map mapping_of ds

-- the delivered events that may say that their pages are there
abbrev pub page_events : List Delivery → List Event
page_events ds = filter (λ e. keeps_page e.kind) (events ds)

-- the terms, by a version of the mapping, of what is there at the revisions of these events; bytes that are no document have none
abbrev pub terms_by : (ℕ → Option Bytes) → List Event → MappingVersion → List Term
terms_by contents es version = flat_map (λ e. flat_map terms_of (triples_there (meaning version) contents e.entity e.rev)) es

-- the terms of all pages that these deliveries may bring, by each version of the mapping that may be in force
abbrev pub terms_there : (ℕ → Option Bytes) → List Delivery → List Term
terms_there contents ds = flat_map (terms_by contents (page_events ds)) (versions_told ds)
