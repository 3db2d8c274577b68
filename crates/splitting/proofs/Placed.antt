-- Graphs that are filled with what a world holds, an entity after the other.
use Rattle.std.proofs.Common.{◌≡◌, refl, sym, ◌∙◌, ap, ap₂, subst, ℕ, ◌≤◌, ◌==◌, Bool, true, false, cond, ◌||◌, List, [], ◌∷◌, ◌++◌, Option, None, Some, Result, Ok, Err, OnOk, is_some, unwrap_or, true≢false, ⊎_elim, arith}
use Rattle.std.specs.FinMap as map
use Rattle.std.specs.{Cmp.eq_by_cmp_equiv, List.AllByRecursion, Ordering.eq_by_cmp}
use Rattle.sorted_sets.specs.Rising.{has, sorted}
use Rattle.sorted_sets.proofs.Rising.{has-append, has-sorted}
use Rattle.rdf_term.specs.{declared.triple.Triple.Triple, Fit.HasFitAndShortTerms, Order.triple_cmp, Order.triple_cmp-total}
use Rattle.entity_json.specs.Document.{document_of}
use Rattle.entity_model.specs.{declared.document.Document.Document, declared.id.EntityId.EntityId}
use Rattle.entity_model.specs.declared.mapping.MappingVersion.{MappingVersion}
use Rattle.entity_model.specs.declared.mapping.MappingVersion.TheVariants.{One, Two}
use Rattle.entity_model.specs.EntityId.{entity_cmp, entity_cmp_total}
use Rattle.entity_state.specs.{declared.record.Held.Held, declared.record.Record.Record, Record.blank}
use Rattle.slot_keys.proofs.Lists.{one_of, or_left}
use Rattle.replay_model.specs.{Records.Bytes, Records.Records, Union.Meaning, Union.triples_held, Union.union}
use Rattle.replay_model.specs.Versions.{all_by, meaning_by, version_at}
use Rattle.replay_model.proofs.Versions.{has-holders, holders-rise, version-all}
use Rattle.graph_routes.specs.declared.routes.Route.{Route}
use Rattle.subgraph.specs.{Entries.Entries, Entries.Entry, Entries.graph_triples, Entries.terms_with, Entries.triples_in, Laws.entry_held}
use Rattle.subgraph.specs.Split.{entry}
use Rattle.subgraph.proofs.{Owning.gathered_from, Owning.gathered_if, Routed.fewer_terms}
use Rattle.holders.specs.Roomed.{HasRoom}
use Rattle.world.specs.{declared.applied.RoutedPage.RoutedPage, Limit.HasRoomBy, Limit.Limit, Limit.whole, Routed.IsRouted, Routed.routing_by}
use Rattle.holders.specs.Holding.{AreHolders}
use Rattle.world.specs.WorldState.{WorldState}
use Rattle.fetched_pages.specs.{Meaning.document_triples, Meaning.meaning, Meaning.triples_if, Routing.route_if, Routing.route_of_page}
use Rattle.holders.proofs.Records.{id_tells}
use Rattle.splitting.specs.Filling.{AreAmong, HaveEntries, IsReadyFor, entry_in, with_entry}
use Rattle.splitting.specs.Graphs.{AreEntriesOf}
use Rattle.splitting.proofs.Following.{get-inserted, held_in}

or_either : (b : Bool) → (b || true) ≡ true
or_either true = refl
or_either false = refl

or_neither : (b : Bool) → (b || false) ≡ b
or_neither true = refl
or_neither false = refl

none_either : (b : Bool) (o : Option Entry) → o ≡ None → cond b o None ≡ None
none_either true o is = is
none_either false o is = refl

-- where all hold by one version, those that are named hold
holders_by_one : (version : MappingVersion) (records : Records) → AreHolders (all_by version records) records
holders_by_one One records = record { rising = tt; holding = λ x there. absurd (true≢false (sym there)) }
holders_by_one Two records = record { rising = holders-rise records; holding = λ x there. sym (has-holders records x) ∙ there }

module _ (routes : List Route) (world : WorldState) where
  abbrev by_each : Meaning Triple
  by_each = meaning_by meaning world.by_two

  abbrev records : Records
  records = world.replay.played.records

  -- ---- room

  -- the triples of an entity's entry are among those of all that is held
  in_union : (x : EntityId) (e : Entry) (t : Triple) → entry_in routes world x ≡ Some e → has triple_cmp t e.triples ≡ true → has triple_cmp t (union triple_cmp by_each records) ≡ true
  in_union x e t is there = by_record (map.get records x) refl is
    where
      by_held : (r : Record Bytes) (o : Option (Held Bytes)) → map.get records x ≡ Some r → r.held ≡ o → entry_held (routing_by routes) by_each x o ≡ Some e → has triple_cmp t (union triple_cmp by_each records) ≡ true
      by_held r None at held is = absurd (true≢false (sym (ap is_some is)))
      by_held r (Some h) at held is =
          let same : entry (route_of_page routes x h.content) (by_each x h.revision h.content) ≡ e = cc in
          gathered_if (λ (a : EntityId × Record Bytes). triples_held by_each a.0 a.1.held) records x r t at
          (ap (λ o. has triple_cmp t (triples_held by_each x o)) held ∙ ap (λ (u : Entry). has triple_cmp t u.triples) same ∙ there)

      by_record : (o : Option (Record Bytes)) → map.get records x ≡ o → entry_held (routing_by routes) by_each x (unwrap_or o blank).held ≡ Some e → has triple_cmp t (union triple_cmp by_each records) ≡ true
      by_record None at is = absurd (true≢false (sym (ap is_some is)))
      by_record (Some r) at is = by_held r r.held at refl is

  -- and so are those of a graph
  graph_in_union : (entries : Entries) → AreAmong routes world entries → (graph : ℕ) (t : Triple) → has triple_cmp t (graph_triples entries graph) ≡ true → has triple_cmp t (union triple_cmp by_each records) ≡ true
  graph_in_union entries among graph t there =
      let one = gathered_from (λ (a : EntityId × Entry). triples_in graph a.1) entries t there in
      by one.0 one.1 (among one.0 one.1 one.2) (one.1.graph == graph) one.3
    where
      by : (x : EntityId) (e : Entry) → entry_in routes world x ≡ Some e → (b : Bool) → has triple_cmp t (cond b e.triples []) ≡ true → has triple_cmp t (union triple_cmp by_each records) ≡ true
      by x e is true there = in_union x e t is there
      by x e is false there = absurd (true≢false (sym there))

  -- a graph has room for the triples of an entity's page
  room_in : (entries : Entries) → AreAmong routes world entries → (x : EntityId) (e : Entry) → entry_in routes world x ≡ Some e → (triples : List Triple) → sorted triple_cmp triples ≡ e.triples
      → (limit : ℕ) → HasRoom by_each limit records → (graph : ℕ) → terms_with (graph_triples entries graph) triples ≤ limit
  room_in entries among x e is triples meant limit room graph =
      let all = union triple_cmp by_each records in
      let few = fewer_terms (graph_triples entries graph ++ triples) (all ++ []) (λ t there. has-append triple_cmp t all [] ∙ or_left (has triple_cmp t all) false (⊎_elim
      (λ own. graph_in_union entries among graph t own)
      (λ other. in_union x e t is (ap (has triple_cmp t) (sym meant) ∙ has-sorted triple_cmp-total t triples ∙ other))
      (one_of (has triple_cmp t (graph_triples entries graph)) (has triple_cmp t triples) (sym (has-append triple_cmp t (graph_triples entries graph) triples) ∙ there)))) in
      omega (arith, few, room)

  -- ---- one entity

  -- the page that an entity holds, as it is routed, is its entry
  pub page_placed : IsReadyFor world → (x : EntityId) (h : Held Bytes) → held_in world x ≡ Some h → (page : RoutedPage) → IsRouted routes world.mapping x h page
      → entry_in routes world x ≡ Some (entry page.graph (sorted triple_cmp page.triples))
  page_placed ready x h held page is =
      let version : version_at world.by_two x ≡ world.mapping = ap (λ ids. version_at ids x) ready.by_one ∙ version-all world.mapping records x (ap is_some held) in
      ap (entry_held (routing_by routes) by_each x) held
      ∙ ap₂ (λ graph triples. Some (entry graph triples)) (sym is.graph) (ap (λ v. meaning v x h.revision h.content) version ∙ sym is.triples_are.meant)

  pub page_has_room : IsReadyFor world → (limit : ℕ) → world.limit ≡ whole limit → (entries : Entries) → AreAmong routes world entries → (x : EntityId) (h : Held Bytes) → held_in world x ≡ Some h → (page : RoutedPage) → IsRouted routes world.mapping x h page
      → terms_with (graph_triples entries page.graph) page.triples ≤ limit
  page_has_room ready limit same entries among x h held page is =
      let room : HasRoom by_each limit records = subst (λ (l : Limit). HasRoomBy l by_each records) same ready.room in
      room_in entries among x (entry page.graph (sorted triple_cmp page.triples)) (page_placed ready x h held page is) page.triples refl limit room page.graph

  -- ---- one entity after the other

  pub are_among : (ids : List EntityId) (entries : Entries) → HaveEntries routes world ids entries → AreAmong routes world entries
  are_among ids entries have x e is = by (has entity_cmp x ids) (sym (have x) ∙ is)
    where
      by : (b : Bool) → cond b (entry_in routes world x) None ≡ Some e → entry_in routes world x ≡ Some e
      by true is = is
      by false is = absurd (true≢false (sym (ap is_some is)))

  pub none_yet : (entries : Entries) → entries ≡ map.empty → HaveEntries routes world [] entries
  none_yet entries none x = ap (λ (m : Entries). map.get m x) none ∙ map.get-empty _ x

  pub one_more : (ids : List EntityId) (x : EntityId) (entries entries_now : Entries) → HaveEntries routes world ids entries → entries_now ≡ with_entry x (entry_in routes world x) entries → HaveEntries routes world (ids ++ x ∷ []) entries_now
  one_more ids x entries entries_now have is y = ⊎_elim
      (λ own. ap (λ (m : Entries). map.get m y) is
      ∙ subst (λ z. map.get (with_entry x (entry_in routes world x) entries) z ≡ entry_in routes world z) (sym own.1) (here (entry_in routes world x) refl)
      ∙ sym (ap (λ b. cond b (entry_in routes world y) None) (has-append entity_cmp y ids (x ∷ []) ∙ ap (λ b. has entity_cmp y ids || (b || false)) own.0 ∙ or_either (has entity_cmp y ids))))
      (λ other. ap (λ (m : Entries). map.get m y) is
      ∙ elsewhere (entry_in routes world x) other.0
      ∙ have y
      ∙ sym (ap (λ b. cond b (entry_in routes world y) None) (has-append entity_cmp y ids (x ∷ []) ∙ ap (λ b. has entity_cmp y ids || (b || false)) other.0 ∙ or_neither (has entity_cmp y ids))))
      (id_tells y x)
    where
      here : (o : Option Entry) → entry_in routes world x ≡ o → map.get (with_entry x o entries) x ≡ o
      here None none = have x ∙ none_either (has entity_cmp x ids) (entry_in routes world x) none
      here (Some e) some = get-inserted entries x x e true ((eq_by_cmp_equiv entity_cmp_total).refl x)

      elsewhere : (o : Option Entry) → eq_by_cmp entity_cmp y x ≡ false → map.get (with_entry x o entries) y ≡ map.get entries y
      elsewhere None apart = refl
      elsewhere (Some e) apart = get-inserted entries x y e false apart

  -- all entities have their entries
  pub all_placed : IsReadyFor world → (limit : ℕ) → world.limit ≡ whole limit → (entries : Entries) → HaveEntries routes world (map.keys records) entries → AreEntriesOf routes limit world entries
  all_placed ready limit same entries have = record {
    split = record { entry_is = λ x. have x ∙ ap (λ b. cond b (entry_in routes world x) None) (sym (map.contains_key-keys records x)) ∙ there x (map.get records x) refl };
    holders = subst (λ ids. AreHolders ids records) (sym ready.by_one) (holders_by_one world.mapping records);
    limit_is = same;
  }
    where
      there : (x : EntityId) (o : Option (Record Bytes)) → map.get records x ≡ o → cond (is_some o) (entry_in routes world x) None ≡ entry_in routes world x
      there x None at = sym (ap (λ (o : Option (Record Bytes)). entry_held (routing_by routes) by_each x (unwrap_or o blank).held) at)
      there x (Some r) at = refl

-- ---- the page of a document

pub page_routed : (routes : List Route) (version : MappingVersion) (x : EntityId) (h : Held Bytes) (document : Document) (page : RoutedPage) → document_of x h.content ≡ Some document
    → page.graph ≡ route_if routes (Some document) → sorted triple_cmp page.triples ≡ document_triples version x h.revision document → AllByRecursion HasFitAndShortTerms page.triples → IsRouted routes version x h page
page_routed routes version x h document page is graph meant fit = record {
  graph = graph ∙ ap (route_if routes) (sym is);
  triples_are = record { meant = meant ∙ ap (triples_if version x h.revision) (sym is); fit = fit };
}

-- where no memory was refused
pub placed_if : (routes : List Route) (world : WorldState) → IsReadyFor world → (limit : ℕ) → world.limit ≡ whole limit → (entries : Entries) (ids : List EntityId) → ids ≡ map.keys world.replay.played.records → {E : Type 0} (r : Result (Unit {0}) E)
    → OnOk r (HaveEntries routes world ids entries) → OnOk r (AreEntriesOf routes limit world entries)
placed_if routes world ready limit same entries ids all (Err e) have = tt
placed_if routes world ready limit same entries ids all (Ok done) have = all_placed routes world ready limit same entries (subst (λ xs. HaveEntries routes world xs entries) all have)
