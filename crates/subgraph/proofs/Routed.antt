-- The graphs to which records are routed.
use Rattle.std.proofs.Common.{◌≡◌, ℕ, ◌<◌, ◌≤◌, ◌==◌, Bool, true, false, cond, List, [], ◌∷◌, ◌++◌, Option, None, Some, is_some, unwrap_or, refl, sym, ◌∙◌, ap, true≢false, ⊎_elim}
use Rattle.std.specs.FinMap as map
use Rattle.std.specs.{List.flat_map, Ordering.eq_by_cmp}
use Rattle.std.proofs.lemmas.Bool.Decides.{eqb_tells}
use Rattle.sorted_sets.specs.Rising.{has}
use Rattle.sorted_sets.proofs.{Bools.or_true, Rising.has-append, Rising.has_itself}
use Rattle.rdf_term.specs.{declared.term.Term.Term, declared.triple.Triple.Triple}
use Rattle.rdf_term.specs.Order.{term_cmp, term_cmp-total, triple_cmp, triple_cmp-total}
use Rattle.rdf_term.proofs.Texts.{term_cmp-IsAntisymmetric}
use Rattle.entity_model.specs.declared.id.EntityId.{EntityId}
use Rattle.entity_state.specs.{declared.record.Held.Held, declared.record.Record.Record, Record.blank}
use Rattle.triple_store.specs.Room.{distinct, terms_of}
use Rattle.triple_store.proofs.{Distinct.fewer, Rooming.terms_among}
use Rattle.slot_keys.proofs.Lists.{one_of, or_left}
use Rattle.replay_model.specs.{Records.Bytes, Records.Records, Records.record_of, Union.Meaning, Union.triples_held, Union.union}
use Rattle.subgraph.specs.Entries.{Entry, graph_triples, triples_in}
use Rattle.subgraph.specs.Laws.{GraphsAreTheUnion, GraphsFollowTheRecords, GraphsNeedNoMoreRoom, Routing, entry_held, routed_union, triples_routed}
use Rattle.subgraph.specs.Split.{entry}
use Rattle.subgraph.proofs.Owning.{gathered_from, gathered_if, same_gathered}

none_there : (t : Triple) → has triple_cmp t [] ≡ true → ⊥
none_there t h = true≢false (sym h)

-- a triple of what is held is one of those that are routed to its graph
routed_there : (routing : Routing) (meaning : Meaning Triple) (x : EntityId) (h : Held Bytes) (t : Triple) → has triple_cmp t (meaning x h.revision h.content) ≡ true
    → has triple_cmp t (triples_routed routing meaning (routing x h.revision h.content) x (Some h)) ≡ true
routed_there routing meaning x h t there = ⊎_elim
    (λ same. ap (λ b. has triple_cmp t (cond b (meaning x h.revision h.content) [])) same.0 ∙ there)
    (λ other. absurd (other.1 refl))
    (eqb_tells (routing x h.revision h.content) (routing x h.revision h.content))

-- what is routed to a graph is held
held_there : (routing : Routing) (meaning : Meaning Triple) (graph : ℕ) (x : EntityId) (held : Option (Held Bytes)) (t : Triple) → has triple_cmp t (triples_routed routing meaning graph x held) ≡ true
    → has triple_cmp t (triples_held meaning x held) ≡ true
held_there routing meaning graph x None t there = there
held_there routing meaning graph x (Some h) t there = by (routing x h.revision h.content == graph) there
  where
    by : (b : Bool) → has triple_cmp t (cond b (meaning x h.revision h.content) []) ≡ true → has triple_cmp t (meaning x h.revision h.content) ≡ true
    by true is = is
    by false is = absurd (none_there t is)

routed_held : (routing : Routing) (meaning : Meaning Triple) (records : Records) (graph : ℕ) (t : Triple) → has triple_cmp t (routed_union routing meaning records graph) ≡ true → has triple_cmp t (union triple_cmp meaning records) ≡ true
routed_held routing meaning records graph t there =
    let one = gathered_from (λ (e : EntityId × Record Bytes). triples_routed routing meaning graph e.0 e.1.held) records t there in
    gathered_if (λ (e : EntityId × Record Bytes). triples_held meaning e.0 e.1.held) records one.0 one.1 t one.2 (held_there routing meaning graph one.0 one.1.held t one.3)

pub are_the_union : GraphsAreTheUnion
are_the_union routing meaning records n below t = (there, back)
  where
    held : (EntityId × Record Bytes) → List Triple
    held e = triples_held meaning e.0 e.1.held

    by : (x : EntityId) (r : Record Bytes) (o : Option (Held Bytes)) → r.held ≡ o → map.get records x ≡ Some r → has triple_cmp t (triples_held meaning x o) ≡ true
        → (graph : ℕ) × (graph < n) × (has triple_cmp t (routed_union routing meaning records graph) ≡ true)
    by x r None is at there = absurd (none_there t there)
    by x r (Some h) is at there = (
      routing x h.revision h.content,
      below x h.revision h.content,
      gathered_if (λ (e : EntityId × Record Bytes). triples_routed routing meaning (routing x h.revision h.content) e.0 e.1.held) records x r t at
          (ap (λ o. has triple_cmp t (triples_routed routing meaning (routing x h.revision h.content) x o)) is ∙ routed_there routing meaning x h t there),
    )

    there : has triple_cmp t (union triple_cmp meaning records) ≡ true → (graph : ℕ) × (graph < n) × (has triple_cmp t (routed_union routing meaning records graph) ≡ true)
    there h =
        let one = gathered_from (λ (e : EntityId × Record Bytes). triples_held meaning e.0 e.1.held) records t h in
        by one.0 one.1 one.1.held refl one.2 one.3

    back : ((graph : ℕ) × (graph < n) × (has triple_cmp t (routed_union routing meaning records graph) ≡ true)) → has triple_cmp t (union triple_cmp meaning records) ≡ true
    back h = routed_held routing meaning records h.0 t h.2

pub follow_the_records : GraphsFollowTheRecords
follow_the_records routing meaning entries records split graph =
    same_gathered (λ (e : EntityId × Entry). triples_in graph e.1) (λ (e : EntityId × Record Bytes). triples_routed routing meaning graph e.0 e.1.held) entries records
    (λ x v t at there. there_by x v t (map.get records x) refl (sym at ∙ split.entry_is x) there)
    (λ x r t at there. back_by x r t r.held refl at there)
  where
    inside : (a b : Entry) → Some a ≡ Some b → a ≡ b
    inside a b e = cc

    held_by : (x : EntityId) (v : Entry) (t : Triple) (r : Record Bytes) (o : Option (Held Bytes)) → r.held ≡ o → map.get records x ≡ Some r → Some v ≡ entry_held routing meaning x o → has triple_cmp t (triples_in graph v) ≡ true
        → has triple_cmp t (routed_union routing meaning records graph) ≡ true
    held_by x v t r None is at entry there = absurd (true≢false (ap is_some entry))
    held_by x v t r (Some h) is at entry there =
        let same : v ≡ record { graph = routing x h.revision h.content; triples = meaning x h.revision h.content } = inside _ _ entry in
        gathered_if (λ (e : EntityId × Record Bytes). triples_routed routing meaning graph e.0 e.1.held) records x r t at
        (ap (λ o. has triple_cmp t (triples_routed routing meaning graph x o)) is ∙ ap (λ (u : Entry). has triple_cmp t (triples_in graph u)) (sym same) ∙ there)

    there_by : (x : EntityId) (v : Entry) (t : Triple) (o : Option (Record Bytes)) → map.get records x ≡ o → Some v ≡ entry_held routing meaning x (record_of records x).held → has triple_cmp t (triples_in graph v) ≡ true
        → has triple_cmp t (routed_union routing meaning records graph) ≡ true
    there_by x v t None is entry there =
        absurd (true≢false (ap is_some (entry ∙ ap (λ (o : Option (Record Bytes)). entry_held routing meaning x (unwrap_or o blank).held) is)))
    there_by x v t (Some r) is entry there =
        held_by x v t r r.held refl is (entry ∙ ap (λ (o : Option (Record Bytes)). entry_held routing meaning x (unwrap_or o blank).held) is) there

    back_by : (x : EntityId) (r : Record Bytes) (t : Triple) (o : Option (Held Bytes)) → r.held ≡ o → map.get records x ≡ Some r → has triple_cmp t (triples_routed routing meaning graph x r.held) ≡ true
        → has triple_cmp t (graph_triples entries graph) ≡ true
    back_by x r t None is at there = absurd (none_there t (sym (ap (λ o. has triple_cmp t (triples_routed routing meaning graph x o)) is) ∙ there))
    back_by x r t (Some h) is at there =
        let found : map.get entries x ≡ Some (entry (routing x h.revision h.content) (meaning x h.revision h.content)) =
        split.entry_is x ∙ ap (λ (o : Option (Record Bytes)). entry_held routing meaning x (unwrap_or o blank).held) at ∙ ap (entry_held routing meaning x) is in
        gathered_if (λ (e : EntityId × Entry). triples_in graph e.1) entries x (entry (routing x h.revision h.content) (meaning x h.revision h.content)) t found
        (sym (ap (λ o. has triple_cmp t (triples_routed routing meaning graph x o)) is) ∙ there)

-- ---- room

-- the terms of some triples are among those of more
terms_within : (ts us : List Triple) → ((t : Triple) → has triple_cmp t ts ≡ true → has triple_cmp t us ≡ true) → (x : Term) → has term_cmp x (flat_map terms_of ts) ≡ true → has term_cmp x (flat_map terms_of us) ≡ true
terms_within [] us within x h = absurd (true≢false (sym h))
terms_within (t ∷ ts) us within x h = ⊎_elim
    (λ here. (terms_among us t (within t (has_itself triple_cmp-total t ts))).each x here)
    (λ later. terms_within ts us (λ u there. within u (or_true (eq_by_cmp triple_cmp u t) _ there)) x later)
    (one_of (has term_cmp x (terms_of t)) (has term_cmp x (flat_map terms_of ts)) (sym (has-append term_cmp x (terms_of t) (flat_map terms_of ts)) ∙ h))

-- and are no more than those
pub fewer_terms : (ts us : List Triple) → ((t : Triple) → has triple_cmp t ts ≡ true → has triple_cmp t us ≡ true) → distinct (flat_map terms_of ts) ≤ distinct (flat_map terms_of us)
fewer_terms ts us within = fewer term_cmp-total term_cmp-IsAntisymmetric (flat_map terms_of ts) (flat_map terms_of us) (terms_within ts us within)

pub need_no_more_room : GraphsNeedNoMoreRoom
need_no_more_room routing meaning entries records split graph triples =
    let all = union triple_cmp meaning records in
    fewer_terms (graph_triples entries graph ++ triples) (all ++ triples) (λ t there. ⊎_elim
    (λ own. has-append triple_cmp t all triples ∙ or_left _ _ (routed_held routing meaning records graph t (sym (ap (has triple_cmp t) (follow_the_records routing meaning entries records split graph)) ∙ own)))
    (λ other. has-append triple_cmp t all triples ∙ or_true (has triple_cmp t all) _ other)
    (one_of (has triple_cmp t (graph_triples entries graph)) (has triple_cmp t triples) (sym (has-append triple_cmp t (graph_triples entries graph) triples) ∙ there)))
