-- Where a later place is refused, so is the pattern, whatever the places before it want.
use Rattle.event_line.specs.Line.{term_wanted_by}
use Rattle.event_line.specs.declared.faults.LineCause.TheVariants.{Pattern}
use Rattle.event_line.proofs.Refused.{second_refused, third_refused}
use Rattle.event_line.proofs.line.pattern_with.Goals as goal

pub returns-in-Err : goal.returns-in-Err
returns-in-Err c = second_refused Pattern _ _ _ c.in-Err.fault c.in-Err.ensures

pub returns-in-Err-wanted_term : goal.returns-in-Err-wanted_term
returns-in-Err-wanted_term c =
    third_refused Pattern (term_wanted_by c.args.texts.subject.now) (term_wanted_by c.args.texts.predicate.now) _ (λ x y z. record { subject = x; predicate = y; object = z })
    c.in-Err-wanted_term.fault c.in-Err-wanted_term.ensures
