use Rattle.std.proofs.Common.{◌∙◌, ap}
use Rattle.std.specs.declared.cmp.Ordering.TheVariants.{Greater}
use Rattle.std.specs.Ordering.{ordering_then}
use Rattle.rdf_term.proofs.Escapes.{second_ends}
use Rattle.rdf_term.proofs.order.compare_ends.Goals as goal

pub returns-in-Some-default : goal.returns-in-Some-default
returns-in-Some-default c =
    c.then.ensures
    ∙ ap (λ o. ordering_then o Greater) c.cmp.ensures
    ∙ second_ends _ _ _ c.in-Some-default.ensures.value c.requires
