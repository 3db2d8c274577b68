-- An application keeps what is held in step with the side output, and what it stores has room.
use Rattle.std.proofs.Common.{◌≤◌, Err, option_copied, ap, subst, sym, ◌∙◌}
use Rattle.entity_json.specs.Document.{unfit_of}
use Rattle.entity_model.specs.declared.id.EntityId.{EntityId}
use Rattle.replay_model.specs.{Entries.HoldsUnlessOpen, Play.Played, Records.record_of, Replies.HoldsDocument}
use Rattle.replay_model.proofs.{Documents.documents-apply, Settled.holds-apply}
use Rattle.fetched_pages.specs.Fetched.{reply_or_any}
use Rattle.world.specs.{Held.HeldState, Held.held_in, Held.needs_in, WorldState.played_of}
use Rattle.fetched_pages.proofs.Fit.{reply_gives}
use Rattle.world.proofs.{DueEvent.overfull, DueEvent.reply_judged, DueEvent.store_full, DueEvent.store_refused, Giving.of_stored, Giving.page_given}
use Rattle.world.proofs.Shown.{outcome_calls, outcome_shown}
use Rattle.world.proofs.world.World.apply_next_with.Goals as goal

pub invariant_of-self : goal.invariant_of-self
invariant_of-self g c =
    let was : Played = played_of (held_in c.self.inside.holdings) c.self.inside.side.entries in (
      subst (λ (p : Played). HoldsUnlessOpen p) (sym c.in-Ok-apply.ensures.applied) (holds-apply (λ _ _. reply_or_any c.in-Ok.reply) was c.in-Some.event c.self.invariant.0),
      c.facts.ensures.room,
      c.facts.ensures.holders,
      subst (λ (p : Played). (x : EntityId) → HoldsDocument unfit_of x (record_of p.records x).held) (sym c.in-Ok-apply.ensures.applied)
          (documents-apply unfit_of c.in-Some.event (reply_or_any c.in-Ok.reply) (reply_gives _ _ c.in-Some.event.entity _ (reply_or_any c.in-Ok.reply) c.in-Ok.ensures.reply) was c.self.invariant.3),
    )

pub apply-requires-clause-document : goal.apply-requires-clause-document
apply-requires-clause-document g c = reply_judged _ _ c.in-Some.event.entity _ (reply_or_any c.in-Ok.reply) c.in-Ok.ensures.reply

pub returns-in-Ok-apply-clause-limit : goal.returns-in-Ok-apply-clause-limit
returns-in-Ok-apply-clause-limit g c = rw (← c.self.view_is) c.apply.ensures.limit

pub returns-in-Ok-apply-clause-within : goal.returns-in-Ok-apply-clause-within
returns-in-Ok-apply-clause-within g c = rw (← c.self.view_is) (λ stored.
    let was : HeldState = held_in c.self.inside.holdings in
    subst (λ (p : Played). needs_in was c.self.inside.mapping c.in-Some.event.entity (record_of p.records c.in-Some.event.entity).held ≤ was.limit.terms)
    (sym c.in-Ok-apply.ensures.applied)
    (of_stored (λ held. needs_in was c.self.inside.mapping c.in-Some.event.entity held ≤ was.limit.terms) was.records c.in-Some.event (reply_or_any c.in-Ok.reply) c.in-Ok-apply.effect.outcome
    c.in-Ok-apply.ensures.outcome stored c.in-Ok-apply.ensures.within))

pub returns-in-Ok-apply-clause-change : goal.returns-in-Ok-apply-clause-change
returns-in-Ok-apply-clause-change g c = rw (← c.self.view_is) c.in-Ok-apply.ensures.change

pub returns-in-Ok-apply-clause-routed : goal.returns-in-Ok-apply-clause-routed
returns-in-Ok-apply-clause-routed g c = rw (← c.self.view_is)
    (page_given (option_copied c.args.routes) (held_in c.self.inside.holdings).by_two c.self.inside.mapping (played_of (held_in c.self.inside.holdings) c.self.inside.side.entries) (played_of (held_in c.apply.new.holdings) c.apply.new.side.entries) c.in-Some.event c.in-Ok.reply
    c.in-Ok-apply.effect.outcome c.in-Ok-apply.effect.routed (rw (← c.self.view_is) at c.in-Ok.ensures.meant) c.in-Ok.ensures.routed c.in-Ok-apply.ensures.applied c.in-Ok-apply.ensures.outcome c.in-Ok-apply.ensures.routed)

pub returns-in-Ok-apply-clause-shown : goal.returns-in-Ok-apply-clause-shown
returns-in-Ok-apply-clause-shown g c =
    outcome_shown (held_in c.self.inside.holdings).records c.in-Some.event c.in-Ok-apply.effect.outcome c.in-Ok.reply c.in-Ok-apply.ensures.outcome (rw (← c.self.view_is) at c.in-Ok.ensures.wanted) _ _ _ _ c.in-Ok.ensures.shown

pub returns-in-Ok-apply-clause-calls : goal.returns-in-Ok-apply-clause-calls
returns-in-Ok-apply-clause-calls g c =
    outcome_calls (held_in c.self.inside.holdings).records c.in-Some.event c.in-Ok-apply.effect.outcome c.in-Ok.reply c.in-Ok-apply.ensures.outcome (rw (← c.self.view_is) at c.in-Ok.ensures.wanted) _ _ c.in-Ok.ensures.calls

pub returns-in-Ok-apply-clause-applied : goal.returns-in-Ok-apply-clause-applied
returns-in-Ok-apply-clause-applied g c = rw (← c.self.view_is) (record {
  due = sym c.least_due.ensures.due ∙ c.in-Some.is;
  reply = reply_or_any c.in-Ok.reply;
  is_reply = rw (← c.self.view_is) at c.in-Ok.ensures.reply;
  new_is = λ i. record { buffer = c.drop_least.ensures i; played = c.in-Ok-apply.ensures.applied i };
  outcome = c.in-Ok-apply.ensures.outcome;
})

pub returns-in-Err-clause-limit : goal.returns-in-Err-clause-limit
returns-in-Err-clause-limit g c = rw (← c.self.view_is) c.apply.ensures.limit

pub returns-in-Err-clause-held : goal.returns-in-Err-clause-held
returns-in-Err-clause-held g c = rw c.in-Err.ensures.err c.self.invariant.1

pub returns-in-Err-clause-holders : goal.returns-in-Err-clause-holders
returns-in-Err-clause-holders g c = rw c.in-Err.ensures.err c.self.invariant.2

pub returns-in-Err-clause-err : goal.returns-in-Err-clause-err
returns-in-Err-clause-err g c = rw (← c.self.view_is) (λ i. record {
  replay = record { buffer = c.self.inside.buffer; played = played_of (c.in-Err.ensures.err i) (c.in-Err.ensures.err_entries i) };
  limit = (c.in-Err.ensures.err i).limit;
  mapping = c.self.inside.mapping;
  by_two = (c.in-Err.ensures.err i).by_two;
})

pub returns-in-Err-clause-full : goal.returns-in-Err-clause-full
returns-in-Err-clause-full g c = rw (← c.self.view_is) (λ is. overfull _ _ (held_in c.self.inside.holdings) c.self.inside.buffer c.self.inside.side.entries c.self.inside.mapping c.in-Some.event c.in-Ok.reply
    (sym c.least_due.ensures.due ∙ c.in-Some.is) (rw (← c.self.view_is) at c.in-Ok.ensures.wanted) (rw (← c.self.view_is) at c.in-Ok.ensures.reply)
    (c.in-Err.ensures.full (ap (λ f. Err f) (store_full _ _ (ap (λ f. Err f) c.from.ensures) is))))

pub returns-in-Err-clause-refused : goal.returns-in-Err-clause-refused
returns-in-Err-clause-refused g c = rw (← c.self.view_is) (λ is. record {
  event = c.in-Some.event;
  due = sym c.least_due.ensures.due ∙ c.in-Some.is;
  takes = c.in-Err.ensures.refused (ap (λ f. Err f) (store_refused _ _ (ap (λ f. Err f) c.from.ensures) is));
})
