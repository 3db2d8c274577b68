-- A slot agrees with a wanted term where it is the term's.
use Rattle.std.proofs.Common.{ap, ◌∙◌}
use Rattle.rdf_term.specs.Pattern.{agrees_at}
use Rattle.triple_catalog.specs.Slots.{term_in}
use Rattle.term_pool.specs.Pool.{text_in_slot}
use Rattle.triple_catalog.proofs.Matched.{wants_none, wants_slot}
use Rattle.triple_catalog.proofs.matching.slot_of.Goals as goal

pub returns-in_err-slot : goal.returns-in_err-slot
returns-in_err-slot c = rw c.from_residual.ensures (λ slot some.
    ap (λ w. agrees_at w (term_in (text_in_slot c.args.pool.now c.args.region.now slot))) c.in-Some.is
    ∙ wants_none c.args.pool.now c.args.region.now c.in-Some.term slot c.requires c.in_err-slot.ensures.nowhere some)

pub returns : goal.returns
returns c = λ slot some.
    ap (λ w. agrees_at w (term_in (text_in_slot c.args.pool.now c.args.region.now slot))) c.in-Some.is
    ∙ wants_slot c.args.pool.now c.args.region.now c.in-Some.term c.in_ok-slot.slot.number slot c.requires c.in_ok-slot.ensures.found some
