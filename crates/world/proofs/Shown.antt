-- What the outcome of an application shows: the reply, and the call.
use Rattle.std.proofs.Common.{◌≡◌, ℕ, Bool, true, false, cond, Option, None, Some, Result, Ok, Err, is_some, true≢false, refl, sym, ◌∙◌, ap, subst}
use Rattle.std.specs.Prelude.{IfSome, if◌then◌else◌}
use Rattle.entity_model.specs.declared.event.Event.{Event}
use Rattle.entity_state.specs.{Record.held_revision, Record.wants, State.is_deleted, State.state_after}
use Rattle.revisions.specs.Revisions.{counted}
use Rattle.entity_state.specs.declared.entry.Cause.{Cause}
use Rattle.replay_model.specs.Records.{Records, record_of}
use Rattle.fetched_pages.specs.{declared.fetching.FetchedPage.FetchedPage, Fetched.reply_of, Fetched.reply_or_any, Reply.ShowsReply}
use Rattle.world.specs.declared.applied.Outcome.{Outcome}
use Rattle.world.specs.declared.applied.Outcome.TheVariants.{Same, Dropped}
use Rattle.world.specs.Applying.{IsShown, calls_after, outcome_after, outcome_of_reply}

module _ (records : Records) (e : Event) (outcome : Outcome) (reply : Option (Result FetchedPage Cause))
    (is : outcome ≡ outcome_after (record_of records e.entity) e (reply_or_any reply))
    (wanted : is_some reply ≡ wants (state_after (record_of records e.entity).state e) (held_revision (record_of records e.entity).held)) where
  abbrev deletes : Bool
  deletes = is_deleted (state_after (record_of records e.entity).state e).mode

  pub outcome_shown : (misses misses_now faults faults_now : ℕ) → IfSome reply (λ r. ShowsReply (reply_of r) misses misses_now faults faults_now) → IsShown outcome misses misses_now faults faults_now
  outcome_shown m m2 f f2 shows = subst (λ o. IsShown o m m2 f f2) (sym is) (by _ deletes reply wanted shows)
    where
      by : (b d : Bool) (r : Option (Result FetchedPage Cause)) → is_some r ≡ b → IfSome r (λ x. ShowsReply (reply_of x) m m2 f f2) → IsShown (cond b (outcome_of_reply (reply_or_any r)) (cond d Dropped Same)) m m2 f f2
      by true d (Some (Ok page)) there shows = tt
      by true d (Some (Err cause)) there shows = shows
      by true d None there shows = absurd (true≢false (sym there))
      by false true r there shows = tt
      by false false r there shows = tt

  pub outcome_calls : (calls now : ℕ) → now ≡ (if is_some reply then counted calls else calls) → now ≡ calls_after outcome calls
  outcome_calls calls now counts = counts ∙ by _ deletes reply wanted ∙ ap (λ o. calls_after o calls) (sym is)
    where
      by : (b d : Bool) (r : Option (Result FetchedPage Cause)) → is_some r ≡ b → (if is_some r then counted calls else calls) ≡ calls_after (cond b (outcome_of_reply (reply_or_any r)) (cond d Dropped Same)) calls
      by true d (Some (Ok page)) there = refl
      by true d (Some (Err cause)) there = refl
      by true d None there = absurd (true≢false (sym there))
      by false true r there = ap (λ b. if b then counted calls else calls) there
      by false false r there = ap (λ b. if b then counted calls else calls) there
