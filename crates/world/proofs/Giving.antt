-- An application gives back the page that it stored.
use Rattle.std.proofs.Common.{◌≡◌, ℕ, Bool, true, false, cond, List, Option, None, Some, IfOk, IfSome, Result, Ok, Err, is_some, true≢false, refl, sym, ◌∙◌, ap, subst}
use Rattle.entity_model.specs.{declared.event.Event.Event, declared.id.EntityId.EntityId, declared.mapping.MappingVersion.MappingVersion}
use Rattle.entity_state.specs.{declared.record.Held.Held, declared.record.Record.Record, Record.held_revision, Record.wants}
use Rattle.entity_state.specs.State.{is_deleted, state_after}
use Rattle.replay_model.specs.Play.{Played, apply, held_after_fetch, record_after, records_after}
use Rattle.replay_model.specs.{Records.Bytes, Records.Records, Records.record_of}
use Rattle.entity_state.specs.declared.entry.Cause.{Cause}
use Rattle.graph_routes.specs.declared.routes.Route.{Route}
use Rattle.world.specs.{declared.applied.Outcome.Outcome, Routed.GivesPage, Routed.routed_by, Routed.with_route}
use Rattle.world.specs.declared.applied.Outcome.TheVariants.{Same, Stored, Dropped, Sided}
use Rattle.world.specs.{declared.applied.RoutedPage.RoutedPage, Applying.outcome_after, Applying.outcome_of_reply}
use Rattle.holders.proofs.Records.{record_here}
use Rattle.fetched_pages.specs.declared.fetching.FetchedPage.{FetchedPage}
use Rattle.fetched_pages.specs.declared.fetching.FetchedPage.TheVariants.{Whole, Changed, Parted, Differing}
use Rattle.fetched_pages.specs.{Fetched.AreMeant, Fetched.reply_or_any, Routing.AreRouted}

-- the record of the event's entity after an application
pub recorded : (records : Records) (e : Event) (reply : Result Bytes Cause) → record_of (records_after (λ _ _. reply) records e) e.entity ≡ record_after (λ _ _. reply) e (record_of records e.entity)
recorded records e reply = record_here records e.entity (record_after (λ _ _. reply) e (record_of records e.entity))

module _ (known : List Route) (v : MappingVersion) (records : Records) (by_two : List EntityId) (e : Event) where
  abbrev rev : ℕ
  rev = (state_after (record_of records e.entity).state e).rev

  abbrev held : Option (Held Bytes)
  held = (record_of records e.entity).held

  given_by : (b d : Bool) (reply : Option (Result FetchedPage Cause)) → AreMeant records by_two v e.entity rev reply → AreRouted (Some known) e.entity reply
      → Stored ≡ cond b (outcome_of_reply (reply_or_any reply)) (cond d Dropped Same)
      → GivesPage known v e.entity Stored (cond b (held_after_fetch rev (reply_or_any reply) held) (cond d None held)) (routed_by reply)
  given_by true d (Some (Ok (Whole page))) meant routed is =
      subst (λ (g : Option ℕ). GivesPage known v e.entity Stored (Some (record { revision = rev; content = page.bytes })) (with_route g page.triples)) (sym routed)
      (record { graph = refl; triples_are = record { meant = meant.set; fit = meant.fit } })
  given_by true d (Some (Ok (Changed page))) meant routed is = absurd (true≢false (sym (ap is_some routed)))
  given_by true d (Some (Ok (Parted page))) meant routed is = absurd (true≢false (sym (ap is_some routed)))
  given_by true d (Some (Ok (Differing page))) meant routed is = absurd (true≢false (sym (ap is_some routed)))
  given_by true d (Some (Err cause)) meant routed is = cc
  given_by true d None meant routed is = cc
  given_by false true reply meant routed is = cc
  given_by false false reply meant routed is = cc

  given_of : (outcome : Outcome) (reply : Option (Result FetchedPage Cause)) → AreMeant records by_two v e.entity rev reply → AreRouted (Some known) e.entity reply
      → outcome ≡ outcome_after (record_of records e.entity) e (reply_or_any reply)
      → GivesPage known v e.entity outcome (record_of (records_after (λ _ _. reply_or_any reply) records e) e.entity).held (routed_by reply)
  given_of Same reply meant routed is = tt
  given_of Dropped reply meant routed is = tt
  given_of (Sided cause) reply meant routed is = tt
  given_of Stored reply meant routed is =
      subst (λ (r : Record Bytes). GivesPage known v e.entity Stored r.held (routed_by reply)) (sym (recorded records e (reply_or_any reply)))
      (given_by (wants (state_after (record_of records e.entity).state e) (held_revision held)) (is_deleted (state_after (record_of records e.entity).state e).mode) reply meant routed is)

-- the page that an application stored is given back with its graph, where there are routes
pub page_given : (routes : Option (List Route)) (by_two : List EntityId) (v : MappingVersion) (before after : Played) (e : Event) (reply : Option (Result FetchedPage Cause)) (outcome : Outcome) (page : Option RoutedPage)
    → AreMeant before.records by_two v e.entity (state_after (record_of before.records e.entity).state e).rev reply → AreRouted routes e.entity reply
    → after ≡ apply (λ _ _. reply_or_any reply) before e → outcome ≡ outcome_after (record_of before.records e.entity) e (reply_or_any reply) → page ≡ routed_by reply
    → IfSome routes (λ known. GivesPage known v e.entity outcome (record_of after.records e.entity).held page)
page_given None by_two v before after e reply outcome page meant routed applied is given = tt
page_given (Some known) by_two v before after e reply outcome page meant routed applied is given =
    subst (λ (p : Played). GivesPage known v e.entity outcome (record_of p.records e.entity).held page) (sym applied)
    (subst (λ (g : Option RoutedPage). GivesPage known v e.entity outcome (record_of (records_after (λ _ _. reply_or_any reply) before.records e) e.entity).held g) (sym given)
    (given_of known v before.records by_two e outcome reply meant routed is))

-- what holds of the page that came holds of what is held after an application that stored it
pub of_stored : (P : Option (Held Bytes) → Type 0) (records : Records) (e : Event) (reply : Result Bytes Cause) (outcome : Outcome) → outcome ≡ outcome_after (record_of records e.entity) e reply → outcome ≡ Stored
    → IfOk reply (λ bytes. P (Some (record { revision = (state_after (record_of records e.entity).state e).rev; content = bytes })))
    → P (record_of (records_after (λ _ _. reply) records e) e.entity).held
of_stored P records e reply outcome is stored page =
    subst (λ (r : Record Bytes). P r.held) (sym (recorded records e reply))
    (by (wants (state_after (record_of records e.entity).state e) (held_revision (record_of records e.entity).held)) (is_deleted (state_after (record_of records e.entity).state e).mode) reply (sym is ∙ stored) page)
  where
    by : (b d : Bool) (reply : Result Bytes Cause) → cond b (outcome_of_reply reply) (cond d Dropped Same) ≡ Stored
        → IfOk reply (λ bytes. P (Some (record { revision = (state_after (record_of records e.entity).state e).rev; content = bytes })))
        → P (cond b (held_after_fetch (state_after (record_of records e.entity).state e).rev reply (record_of records e.entity).held) (cond d None (record_of records e.entity).held))
    by true d (Ok bytes) h page = page
    by true d (Err cause) h page = cc
    by false true reply h page = cc
    by false false reply h page = cc
