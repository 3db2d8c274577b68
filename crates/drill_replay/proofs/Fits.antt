-- The terms of what is held and of a page that comes are among those of the pages that the deliveries may bring.
use Rattle.std.proofs.Common.{◌≡◌, refl, sym, subst, ◌∙◌, ap, inl, ⊎_elim, ℕ, ◌≤◌, Bool, true, false, cond, List, [], ◌++◌, Option, None, Some, unwrap_or}
use Rattle.std.specs.FinMap as map
use Rattle.std.specs.{List.flat_map, Option.option_map}
use Rattle.sorted_sets.specs.Rising.{In, has}
use Rattle.sorted_sets.proofs.{Members.has-member, Members.member-has, Rising.has-sorted}
use Rattle.rdf_term.specs.{declared.term.Term.Term, declared.triple.Triple.Triple}
use Rattle.rdf_term.specs.Order.{term_cmp, term_cmp-total, triple_cmp, triple_cmp-total}
use Rattle.rdf_term.proofs.Texts.{term_cmp-IsAntisymmetric, triple_cmp-IsAntisymmetric}
use Rattle.delivery.specs.declared.Delivery.{Delivery}
use Rattle.entity_model.specs.{declared.event.Event.Event, declared.id.EntityId.EntityId, declared.mapping.MappingVersion.MappingVersion}
use Rattle.entity_model.specs.declared.mapping.MappingVersion.TheVariants.{One, Two}
use Rattle.entity_model.specs.{EntityId.entity_cmp, Event.event_cmp, Event.event_cmp_same}
use Rattle.entity_state.specs.{declared.record.Held.Held, Record.blank}
use Rattle.replay_model.specs.{Acceptance.events, Records.Bytes, Records.Records, Records.record_of}
use Rattle.replay_model.specs.{Union.Meaning, Union.triples_at, Union.triples_held, Union.union, Versions.meaning_by, Versions.version_at}
use Rattle.triple_store.specs.Room.{distinct, terms_of}
use Rattle.triple_store.proofs.Distinct.{fewer}
use Rattle.fetched_pages.specs.Meaning.{meaning}
use Rattle.holders.specs.Roomed.{room_with}
use Rattle.world.proofs.Entries.{over_ids}
use Rattle.drill_replay.specs.Told.{keeps_page, page_events, terms_by, terms_there, triples_there, versions_told}
use Rattle.drill_replay.proofs.Gathered.{gathered, giver_of, in_either, in_filter}
use Rattle.drill_replay.proofs.Named.{HoldsNamed, IsNamed}

module _ (ds : List Delivery) where
  -- where an entity holds by version Two, this version is told
  abbrev pub ByTwoTold : List EntityId → Type 0
  ByTwoTold by_two = (x : EntityId) → has entity_cmp x by_two ≡ true → In Two (versions_told ds)

  version_told : (by_two : List EntityId) → ByTwoTold by_two → (x : EntityId) → In (version_at by_two x) (versions_told ds)
  version_told by_two told x = by (has entity_cmp x by_two) refl
    where
      by : (b : Bool) → has entity_cmp x by_two ≡ b → In (cond b Two One) (versions_told ds)
      by true is = told x is
      by false is = inl refl

module _ (contents : ℕ → Option Bytes) (ds : List Delivery) where
  -- the terms of a page that an event names, by a version that is told
  page_terms : (v : MappingVersion) (x : EntityId) (rev : ℕ) (bytes : Bytes) → In v (versions_told ds) → IsNamed (events ds) x rev → contents rev ≡ Some bytes →
      (t : Triple) (k : Term) → In t (meaning v x rev bytes) → In k (terms_of t) → In k (terms_there contents ds)
  page_terms v x rev bytes told named there t k means is_of =
      let e : Event = named.event in
      let same : triples_there (meaning v) contents e.entity e.rev ≡ meaning v x rev bytes =
      ap (λ o. unwrap_or (option_map (meaning v e.entity e.rev) o) []) (ap contents named.at ∙ there) ∙ (λ i. meaning v (named.entity i) (named.at i) bytes) in
      let of_event : In k (flat_map terms_of (triples_there (meaning v) contents e.entity e.rev)) =
      gathered terms_of t k (triples_there (meaning v) contents e.entity e.rev) (subst (In t) (sym same) means) is_of in
      let is_page : In e (page_events ds) = in_filter (λ (q : Event). keeps_page q.kind) e (events ds) named.keeps (member-has event_cmp_same e (events ds) named.there) in
      gathered (terms_by contents (page_events ds)) v k (versions_told ds) told
      (gathered (λ (q : Event). flat_map terms_of (triples_there (meaning v) contents q.entity q.rev)) e k (page_events ds) is_page of_event)

  module _ (records : Records) (version : MappingVersion) (by_two : List EntityId) (told : In version (versions_told ds)) (by_two_told : ByTwoTold ds by_two)
      (named : (x : EntityId) → HoldsNamed contents (events ds) x (record_of records x).held) where
    abbrev held_meaning : Meaning Triple
    held_meaning = meaning_by meaning by_two

    held_terms : (x : EntityId) (held : Option (Held Bytes)) → HoldsNamed contents (events ds) x held → (t : Triple) (k : Term) → In t (triples_held held_meaning x held) → In k (terms_of t) → In k (terms_there contents ds)
    held_terms x None is t k means is_of = absurd means
    held_terms x (Some h) is t k means is_of = page_terms (version_at by_two x) x h.revision h.content (version_told ds by_two by_two_told x) is.0 is.1 t k means is_of

    union_terms : (t : Triple) (k : Term) → In t (union triple_cmp held_meaning records) → In k (terms_of t) → In k (terms_there contents ds)
    union_terms t k there is_of =
        let entries : has triple_cmp t (flat_map (triples_at held_meaning) (map.entries records)) ≡ true =
        sym (has-sorted triple_cmp-total t (flat_map (triples_at held_meaning) (map.entries records))) ∙ has-member triple_cmp-total t (union triple_cmp held_meaning records) there in
        let keys : flat_map (λ x. triples_held held_meaning x (record_of records x).held) (map.keys records) ≡ flat_map (triples_at held_meaning) (map.entries records) =
        over_ids (λ x r. triples_held held_meaning x (unwrap_or r blank).held) records in
        let g = giver_of (λ x. triples_held held_meaning x (record_of records x).held) t (map.keys records) (subst (In t) (sym keys) (member-has triple_cmp-IsAntisymmetric t _ entries)) in
        held_terms g.giver (record_of records g.giver).held (named g.giver) t k g.gives is_of

    -- all these terms are no more than those of the pages that the input may bring
    pub fits : (x : EntityId) (rev : ℕ) (bytes : Bytes) → IsNamed (events ds) x rev → contents rev ≡ Some bytes → room_with held_meaning records (meaning version x rev bytes) ≤ distinct (terms_there contents ds)
    fits x rev bytes is_named there =
        fewer term_cmp-total term_cmp-IsAntisymmetric (flat_map terms_of all) (terms_there contents ds)
        (λ k h. has-member term_cmp-total k (terms_there contents ds) (among k (member-has term_cmp-IsAntisymmetric k (flat_map terms_of all) h)))
      where
        all : List Triple
        all = union triple_cmp held_meaning records ++ meaning version x rev bytes

        among : (k : Term) → In k (flat_map terms_of all) → In k (terms_there contents ds)
        among k h =
            let g = giver_of terms_of k all h in
            ⊎_elim (λ held. union_terms g.giver k held g.gives) (λ new. page_terms version x rev bytes told is_named there g.giver k new g.gives)
            (in_either g.giver (union triple_cmp held_meaning records) (meaning version x rev bytes) g.there)
