-- Graphs follow each step of a world.
use Rattle.std.proofs.Common.{◌≡◌, ◌≢◌, refl, sym, ◌∙◌, ap, subst, ℕ, ◌≤◌, Bool, true, false, not, cond, List, length, Option, None, Some, IfSome, Result, Ok, Err, option_map, ⊎_elim, unwrap_or, arith}
use Rattle.std.specs.FinMap as map
use Rattle.std.specs.{Cmp.eq_by_cmp_equiv, List.AllByRecursion, Ordering.eq_by_cmp}
use Rattle.std.proofs.lemmas.List.Sums.{prefix_len-le-length}
use Rattle.rdf_term.specs.{declared.triple.Triple.Triple, Fit.HasFitAndShortTerms}
use Rattle.entity_json.specs.Document.{document_of}
use Rattle.entity_model.specs.declared.document.Document.{Document}
use Rattle.entity_model.specs.declared.document.Document.TheVariants.{Entity as AnEntity, Redirect, Lexeme as ALexeme}
use Rattle.entity_model.specs.{declared.id.EntityId.EntityId, declared.mapping.MappingVersion.MappingVersion}
use Rattle.entity_model.specs.{declared.mapping.MappingVersion.TheVariants.One, EntityId.entity_cmp, EntityId.entity_cmp_total}
use Rattle.entity_state.specs.{declared.record.Held.Held, declared.record.Record.Record, Record.blank, Record.held_revision, Record.wants}
use Rattle.entity_state.specs.State.{is_deleted, state_after}
use Rattle.revisions.specs.Revisions.{Contents}
use Rattle.entity_state.specs.declared.entry.Cause.{Cause}
use Rattle.replay_model.specs.Play.{held_after_fetch, record_after, records_after}
use Rattle.replay_model.specs.{Records.Bytes, Records.Records, Records.record_of, ReplayState.ReplayState}
use Rattle.replay_model.specs.Versions.{meaning_by, version_at, with_version}
use Rattle.graph_routes.specs.{declared.routes.Route.Route, Routing.classes_said, Routing.leads}
use Rattle.subgraph.specs.{Entries.Entries, Entries.Entry, Laws.IsSplitOf, Laws.entry_held, Split.entry, Split.graph_of}
use Rattle.world.specs.{declared.applied.AppliedEvent.AppliedEvent, declared.applied.Outcome.Outcome}
use Rattle.world.specs.declared.applied.Outcome.TheVariants.{Same, Stored, Dropped, Sided}
use Rattle.world.specs.{declared.applied.RoutedPage.RoutedPage, Applying.Applies, Applying.outcome_of_reply}
use Rattle.holdings.specs.Mapped.{AreTriplesOf}
use Rattle.world.specs.{Limit.Limit, Routed.GivesPage, Routed.routing_by}
use Rattle.holders.specs.Holding.{AreHolders, with_version_of}
use Rattle.world.specs.WorldState.{WorldState, by_two_after, next_stale, remapped}
use Rattle.fetched_pages.specs.{Meaning.meaning, Routing.route_if, Routing.route_of_page}
use Rattle.holders.proofs.{ByVersion.version_other, ByVersion.version_own, Records.id_tells}
use Rattle.world.proofs.Giving.{recorded}
use Rattle.splitting.specs.Graphs.{AreEntriesAfter, AreEntriesAnew, AreEntriesOf, GraphsState, IsSound, MayBeFitFor, MayFollow}

-- ---- routes

-- a page is routed to one of the graphs
pub route_within : (routes : List Route) (x : EntityId) (bytes : Bytes) → route_of_page routes x bytes ≤ length routes
route_within routes x bytes = by (document_of x bytes)
  where
    by : (d : Option Document) → route_if routes d ≤ length routes
    by None = omega arith
    by (Some (AnEntity entity)) = prefix_len-le-length (λ r. not (leads (classes_said entity.statements) r)) routes
    by (Some (Redirect target)) = omega arith
    by (Some (ALexeme lexeme)) = omega arith

-- the page that an application gives back is routed to one of the graphs
pub given_sound : (routes : List Route) (version : MappingVersion) (x : EntityId) (outcome : Outcome) (held : Option (Held Bytes)) (page : Option RoutedPage) → GivesPage routes version x outcome held page → IsSound routes outcome page
given_sound routes version x Same held page is = tt
given_sound routes version x Dropped held page is = tt
given_sound routes version x (Sided cause) held page is = tt
given_sound routes version x Stored None page never = absurd never
given_sound routes version x Stored (Some h) None never = absurd never
given_sound routes version x Stored (Some h) (Some page) is =
    let within : route_of_page routes x h.content ≤ length routes = route_within routes x h.content in
    let same = is.graph in
    (omega (arith, within, same), is.triples_are.fit)

-- the same, where there are routes
pub may_be_sound : (routes : Option (List Route)) (version : MappingVersion) (x : EntityId) (outcome : Outcome) (held : Option (Held Bytes)) (page : Option RoutedPage) → IfSome routes (λ known. GivesPage known version x outcome held page)
    → IfSome routes (λ known. IsSound known outcome page)
may_be_sound None version x outcome held page is = tt
may_be_sound (Some known) version x outcome held page is = given_sound known version x outcome held page is

-- ---- one step

abbrev pub held_in : WorldState → EntityId → Option (Held Bytes)
held_in world x = (record_of world.replay.played.records x).held

module _ (routes : List Route) (entries entries_now : Entries) (before after : WorldState) (x : EntityId) where
  same_entry : (y : EntityId) (h : Option (Held Bytes)) → version_at after.by_two y ≡ version_at before.by_two y
      → entry_held (routing_by routes) (meaning_by meaning before.by_two) y h ≡ entry_held (routing_by routes) (meaning_by meaning after.by_two) y h
  same_entry y None same = refl
  same_entry y (Some h) same = ap (λ v. Some (entry (route_of_page routes y h.content) (meaning v y h.revision h.content))) (sym same)

  -- what an entity holds changes, and nothing else
  pub stepped : ((y : EntityId) → eq_by_cmp entity_cmp y x ≡ false → map.get entries_now y ≡ map.get entries y) → ((y : EntityId) → y ≢ x → held_in after y ≡ held_in before y)
      → ((y : EntityId) → y ≢ x → version_at after.by_two y ≡ version_at before.by_two y)
      → map.get entries_now x ≡ entry_held (routing_by routes) (meaning_by meaning after.by_two) x (held_in after x)
      → IsSplitOf (routing_by routes) (meaning_by meaning before.by_two) entries before.replay.played.records → IsSplitOf (routing_by routes) (meaning_by meaning after.by_two) entries_now after.replay.played.records
  stepped others held_same version_same own follows = record {
    entry_is = λ y. ⊎_elim
        (λ is. subst (λ z. map.get entries_now z ≡ entry_held (routing_by routes) (meaning_by meaning after.by_two) z (held_in after z)) (sym is.1) own)
        (λ other. others y other.0 ∙ follows.entry_is y ∙ same_entry y (held_in before y) (version_same y other.1)
        ∙ ap (entry_held (routing_by routes) (meaning_by meaning after.by_two) y) (sym (held_same y other.1)))
        (id_tells y x);
  }

-- ---- an application

-- what is held after an application, by its outcome
abbrev pub IsHeldAfter : Outcome → Option (Held Bytes) → Option (Held Bytes) → Type 0
IsHeldAfter Same held now = now ≡ held
IsHeldAfter (Sided cause) held now = now ≡ held
IsHeldAfter Dropped held now = now ≡ None
IsHeldAfter Stored held now = Unit {0}

module _ (known : Option Contents) (folder : List ℕ) (before after : WorldState) (applied : AppliedEvent) (a : Applies known folder before.replay after.replay applied) where
  abbrev x : EntityId
  x = applied.event.entity

  abbrev was : Record Bytes
  was = record_of before.replay.played.records x

  records_are : after.replay.played.records ≡ records_after (λ _ _. a.reply) before.replay.played.records applied.event
  records_are = ap (λ (w : ReplayState). w.played.records) a.new_is

  -- the entities of other events hold what they held
  pub held_elsewhere : (y : EntityId) → y ≢ x → held_in after y ≡ held_in before y
  held_elsewhere y other =
      ap (λ (r : Records). (record_of r y).held) records_are
      ∙ ap (λ (o : Option (Record Bytes)). (unwrap_or o blank).held)
      (map.get-insert entity_cmp_total before.replay.played.records x (record_after (λ _ _. a.reply) applied.event was) y
      ∙ ⊎_elim
      (λ own. absurd (other own.1))
      (λ apart. ap (λ b. cond b (Some (record_after (λ _ _. a.reply) applied.event was)) (map.get before.replay.played.records y)) apart.0)
      (id_tells y x))

  by_cases : (o : Outcome) (b d : Bool) (reply : Result Bytes Cause) (rev : ℕ) (held : Option (Held Bytes)) → o ≡ cond b (outcome_of_reply reply) (cond d Dropped Same)
      → IsHeldAfter o held (cond b (held_after_fetch rev reply held) (cond d None held))
  by_cases Stored b d reply rev held is = tt
  by_cases Same true d (Ok bytes) rev held is = cc
  by_cases Same true d (Err cause) rev held is = cc
  by_cases Same false true reply rev held is = cc
  by_cases Same false false reply rev held is = refl
  by_cases Dropped true d (Ok bytes) rev held is = cc
  by_cases Dropped true d (Err cause) rev held is = cc
  by_cases Dropped false true reply rev held is = refl
  by_cases Dropped false false reply rev held is = cc
  by_cases (Sided why) true d (Ok bytes) rev held is = cc
  by_cases (Sided why) true d (Err cause) rev held is = refl
  by_cases (Sided why) false true reply rev held is = cc
  by_cases (Sided why) false false reply rev held is = cc

  -- what the entity of the event holds
  pub held_here : IsHeldAfter applied.outcome (held_in before x) (held_in after x)
  held_here =
      subst (λ (r : Records). IsHeldAfter applied.outcome (held_in before x) (record_of r x).held) (sym records_are)
      (subst (λ (r : Record Bytes). IsHeldAfter applied.outcome (held_in before x) r.held) (sym (recorded before.replay.played.records applied.event a.reply))
      (by_cases applied.outcome (wants (state_after was.state applied.event) (held_revision was.held)) (is_deleted (state_after was.state applied.event).mode) a.reply
      (state_after was.state applied.event).rev was.held a.outcome))

pub get-inserted : (entries : Entries) (x y : EntityId) (e : Entry) (b : Bool) → eq_by_cmp entity_cmp y x ≡ b → map.get (map.insert entries x e) y ≡ cond b (Some e) (map.get entries y)
get-inserted entries x y e b is = map.get-insert entity_cmp_total entries x e y ∙ ap (λ c. cond c (Some e) (map.get entries y)) is

get-removed : (entries : Entries) (x y : EntityId) (b : Bool) → eq_by_cmp entity_cmp y x ≡ b → map.get (map.remove entries x) y ≡ cond b None (map.get entries y)
get-removed entries x y b is = map.get-remove entity_cmp_total entries x y ∙ ap (λ c. cond c None (map.get entries y)) is

module _ (routes : List Route) (entries entries_now : Entries) (before after : WorldState) (x : EntityId) (holders : AreHolders before.by_two before.replay.played.records)
    (elsewhere : (y : EntityId) → y ≢ x → held_in after y ≡ held_in before y) where
  itself : eq_by_cmp entity_cmp x x ≡ true
  itself = (eq_by_cmp_equiv entity_cmp_total).refl x

  stays : after.by_two ≡ before.by_two → held_in after x ≡ held_in before x → entries_now ≡ entries → IsSplitOf (routing_by routes) (meaning_by meaning before.by_two) entries before.replay.played.records → IsSplitOf (routing_by routes) (meaning_by meaning after.by_two) entries_now after.replay.played.records
  stays by_two held same follows =
      let versions : (y : EntityId) → version_at after.by_two y ≡ version_at before.by_two y = λ y. ap (λ l. version_at l y) by_two in
      stepped routes entries entries_now before after x (λ y _. ap (λ (m : Entries). map.get m y) same) elsewhere (λ y _. versions y)
      (ap (λ (m : Entries). map.get m x) same ∙ follows.entry_is x ∙ same_entry routes entries entries_now before after x x (held_in before x) (versions x)
      ∙ ap (entry_held (routing_by routes) (meaning_by meaning after.by_two) x) (sym held))
      follows

  by_outcome : (o : Outcome) (page : Option RoutedPage) → IsHeldAfter o (held_in before x) (held_in after x) → after.by_two ≡ by_two_after o before.mapping x before.by_two
      → GivesPage routes before.mapping x o (held_in after x) page → AreEntriesAfter o x page entries entries_now → IsSplitOf (routing_by routes) (meaning_by meaning before.by_two) entries before.replay.played.records → IsSplitOf (routing_by routes) (meaning_by meaning after.by_two) entries_now after.replay.played.records
  by_outcome Same page held by_two given is follows = stays by_two held is follows
  by_outcome (Sided cause) page held by_two given is follows = stays by_two held is follows
  by_outcome Dropped page held by_two given is follows =
      stepped routes entries entries_now before after x (λ y other. ap (λ (m : Entries). map.get m y) is ∙ get-removed entries x y false other) elsewhere
      (λ y other. ap (λ l. version_at l y) by_two ∙ version_other before.by_two holders.rising x One y other)
      (ap (λ (m : Entries). map.get m x) is ∙ get-removed entries x x true itself ∙ ap (entry_held (routing_by routes) (meaning_by meaning after.by_two) x) (sym held))
      follows
  by_outcome Stored page held by_two given is follows = stored (held_in after x) refl page given is
    where
      stored : (h : Option (Held Bytes)) → held_in after x ≡ h → (page : Option RoutedPage) → GivesPage routes before.mapping x Stored h page → AreEntriesAfter Stored x page entries entries_now → IsSplitOf (routing_by routes) (meaning_by meaning after.by_two) entries_now after.replay.played.records
      stored None at page never is = absurd never
      stored (Some h) at None never is = absurd never
      stored (Some h) at (Some page) given is =
          let own : version_at after.by_two x ≡ before.mapping = ap (λ l. version_at l x) by_two ∙ version_own before.by_two holders.rising x before.mapping in
          stepped routes entries entries_now before after x (λ y other. ap (λ (m : Entries). map.get m y) is ∙ get-inserted entries x y _ false other) elsewhere
          (λ y other. ap (λ l. version_at l y) by_two ∙ version_other before.by_two holders.rising x before.mapping y other)
          (ap (λ (m : Entries). map.get m x) is ∙ get-inserted entries x x _ true itself
          ∙ (λ i. Some (entry (given.graph i) (given.triples_are.meant i)))
          ∙ ap (λ v. Some (entry (route_of_page routes x h.content) (meaning v x h.revision h.content))) (sym own)
          ∙ ap (entry_held (routing_by routes) (meaning_by meaning after.by_two) x) (sym at))
          follows

-- graphs that follow a world follow it after an application
pub application_followed : (routes : List Route) (entries entries_now : Entries) (known : Option Contents) (folder : List ℕ) (before after : WorldState) (applied : AppliedEvent) (page : Option RoutedPage)
    → Applies known folder before.replay after.replay applied → AreHolders before.by_two before.replay.played.records → after.by_two ≡ by_two_after applied.outcome before.mapping applied.event.entity before.by_two
    → GivesPage routes before.mapping applied.event.entity applied.outcome (held_in after applied.event.entity) page → AreEntriesAfter applied.outcome applied.event.entity page entries entries_now
    → IsSplitOf (routing_by routes) (meaning_by meaning before.by_two) entries before.replay.played.records → IsSplitOf (routing_by routes) (meaning_by meaning after.by_two) entries_now after.replay.played.records
application_followed routes entries entries_now known folder before after applied page a holders by_two given is follows =
    by_outcome routes entries entries_now before after applied.event.entity holders (held_elsewhere known folder before after applied a) applied.outcome page (held_here known folder before after applied a) by_two given is follows

-- ---- a remapped page

module _ (routes : List Route) (entries entries_now : Entries) (before : WorldState) (x : EntityId) (triples : List Triple) (holders : AreHolders before.by_two before.replay.played.records)
    (next : next_stale before ≡ Some x) where
  by_two_is : (remapped before).by_two ≡ with_version before.mapping x before.by_two
  by_two_is = ap (λ (o : Option EntityId). with_version_of before.mapping o before.by_two) next

  own_version : version_at (remapped before).by_two x ≡ before.mapping
  own_version = ap (λ l. version_at l x) by_two_is ∙ version_own before.by_two holders.rising x before.mapping

  others_stay : (y : EntityId) → y ≢ x → version_at (remapped before).by_two y ≡ version_at before.by_two y
  others_stay y other = ap (λ l. version_at l y) by_two_is ∙ version_other before.by_two holders.rising x before.mapping y other

  anew : (h : Option (Held Bytes)) → held_in before x ≡ h → AreTriplesOf before.mapping x h triples
      → AreEntriesAnew (option_map (λ (e : Entry). e.graph) (entry_held (routing_by routes) (meaning_by meaning before.by_two) x h)) x triples entries entries_now
      → IsSplitOf (routing_by routes) (meaning_by meaning before.by_two) entries before.replay.played.records → IsSplitOf (routing_by routes) (meaning_by meaning (remapped before).by_two) entries_now before.replay.played.records
  anew None at are is follows =
      stepped routes entries entries_now before (remapped before) x (λ y _. ap (λ (m : Entries). map.get m y) is) (λ _ _. refl) others_stay
      (ap (λ (m : Entries). map.get m x) is ∙ follows.entry_is x ∙ ap (entry_held (routing_by routes) (meaning_by meaning before.by_two) x) at
      ∙ ap (entry_held (routing_by routes) (meaning_by meaning (remapped before).by_two) x) (sym at))
      follows
  anew (Some h) at are is follows =
      stepped routes entries entries_now before (remapped before) x (λ y other. ap (λ (m : Entries). map.get m y) is ∙ get-inserted entries x y _ false other) (λ _ _. refl) others_stay
      (ap (λ (m : Entries). map.get m x) is ∙ get-inserted entries x x _ true ((eq_by_cmp_equiv entity_cmp_total).refl x)
      ∙ ap (λ (ts : List Triple). Some (entry (route_of_page routes x h.content) ts)) are.meant
      ∙ ap (λ v. Some (entry (route_of_page routes x h.content) (meaning v x h.revision h.content))) (sym own_version)
      ∙ ap (entry_held (routing_by routes) (meaning_by meaning (remapped before).by_two) x) (sym at))
      follows

  -- graphs that follow a world follow it then
  pub remapping_followed : AreTriplesOf before.mapping x (held_in before x) triples → AreEntriesAnew (graph_of entries x) x triples entries entries_now
      → IsSplitOf (routing_by routes) (meaning_by meaning before.by_two) entries before.replay.played.records → IsSplitOf (routing_by routes) (meaning_by meaning (remapped before).by_two) entries_now before.replay.played.records
  remapping_followed are is follows =
      anew (held_in before x) refl are (subst (λ (o : Option Entry). AreEntriesAnew (option_map (λ (e : Entry). e.graph) o) x triples entries entries_now) (follows.entry_is x) is) follows

-- ---- graphs

-- a world that graphs follow isn't lean
pub not_lean : (routes : List Route) (limit : ℕ) (world : WorldState) (entries : Entries) → AreEntriesOf routes limit world entries → world.limit.lean ≡ false
not_lean routes limit world entries follows = ap (λ (l : Limit). l.lean) follows.limit_is

-- graphs that follow a world follow it after an application
pub graphs_applied : (routes : List Route) (limit : ℕ) (entries entries_now : Entries) (applied : AppliedEvent) (page : Option RoutedPage) → AreEntriesAfter applied.outcome applied.event.entity page entries entries_now
    → (known : Option Contents) (folder : List ℕ) (before after : WorldState) → Applies known folder before.replay after.replay applied → after.limit ≡ before.limit
    → after.by_two ≡ by_two_after applied.outcome before.mapping applied.event.entity before.by_two → AreHolders after.by_two after.replay.played.records
    → GivesPage routes before.mapping applied.event.entity applied.outcome (held_in after applied.event.entity) page
    → AreEntriesOf routes limit before entries → AreEntriesOf routes limit after entries_now
graphs_applied routes limit entries entries_now applied page is known folder before after a same by_two holders given follows = record {
  split = application_followed routes entries entries_now known folder before after applied page a follows.holders by_two given is follows.split;
  holders = holders;
  limit_is = same ∙ follows.limit_is;
}

-- and after a page is remapped; a world that they follow isn't lean, so its triples are known
pub graphs_remapped : (routes : List Route) (limit : ℕ) (entries entries_now : Entries) (x : EntityId) (triples : List Triple) → AreEntriesAnew (graph_of entries x) x triples entries entries_now
    → (before : WorldState) → next_stale before ≡ Some x → (before.limit.lean ≡ false → AreTriplesOf before.mapping x (held_in before x) triples) → AreHolders (remapped before).by_two before.replay.played.records
    → AreEntriesOf routes limit before entries → AreEntriesOf routes limit (remapped before) entries_now
graphs_remapped routes limit entries entries_now x triples is before next are holders follows = record {
  split = remapping_followed routes entries entries_now before x triples follows.holders next (are (not_lean routes limit before entries follows)) is follows.split;
  holders = holders;
  limit_is = follows.limit_is;
}

-- the triples that a remapped page has then have fit and short terms, where there are graphs that aren't lost
fit_in : (g : GraphsState) (entries : Option Entries) (before : WorldState) (version : MappingVersion) (x : EntityId) (held : Option (Held Bytes)) (triples : List Triple)
    → IfSome entries (AreEntriesOf g.routes g.limit before) → (before.limit.lean ≡ false → AreTriplesOf version x held triples) → IfSome entries (λ _. AllByRecursion HasFitAndShortTerms triples)
fit_in g None before version x held triples follows are = tt
fit_in g (Some entries) before version x held triples follows are = (are (not_lean g.routes g.limit before entries follows)).fit

pub may_be_fit : (graphs : Option GraphsState) (before : WorldState) (version : MappingVersion) (x : EntityId) (held : Option (Held Bytes)) (triples : List Triple)
    → MayFollow graphs before → (before.limit.lean ≡ false → AreTriplesOf version x held triples) → MayBeFitFor graphs triples
may_be_fit None before version x held triples follows are = tt
may_be_fit (Some g) before version x held triples follows are = fit_in g g.entries before version x held triples follows are
