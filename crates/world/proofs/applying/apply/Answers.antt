-- The page that came has room.
use Rattle.std.proofs.Common.{ℕ, ◌≡◌, ◌≤◌, Some, ap, subst, ◌∙◌}
use Rattle.entity_state.specs.{declared.standing.Standing.Standing, Standing.standing_after}
use Rattle.fetched_pages.specs.Fetched.{bytes_of}
use Rattle.world.specs.Held.{HeldState, held_in, needs_in}
use Rattle.world.proofs.applying.apply.Goals as goal

pub returns-in-Ok-clause-within : goal.returns-in-Ok-clause-within
returns-in-Ok-clause-within c =
    let was : HeldState = held_in c.args.holdings.now in
    rw (c.in-Some-Ok.is, c.in-Some-Ok.field-0-is) (subst (λ (rev : ℕ). needs_in was c.args.how.version c.args.event.entity (Some (record { revision = rev; content = bytes_of c.in-Some-Ok.page })) ≤ was.limit.terms)
    (ap (λ (s : Standing). s.state.rev) (c.after-after.ensures ∙ ap (λ (s : Standing). standing_after s c.args.event) c.standing.ensures)) c.in-Ok.ensures.within)
