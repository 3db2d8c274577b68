-- A list of another length is no pattern.
use Rattle.std.proofs.Common.{◌≡◌, ◌≢◌, length, Some, Ok, ap, rules}
use Rattle.serde_json.specs.Find.{as_array}
use Rattle.serde_json.specs.View.{view, items_view}
use Rattle.event_line.specs.Line.{else_cause}
use Rattle.event_line.specs.declared.faults.LineCause.TheVariants.{Pattern}
use Rattle.event_line.proofs.Places.{pattern_of_other}
use Rattle.event_line.proofs.line.pattern.Goals as goal
use Rattle.event_line.proofs.line.pattern.Goals.{in_default-via-then-as_slice-lt3, in_default-via-else-as_slice-lt3+else-this-lt4}

pub returns-in_default : goal.returns-in_default
returns-in_default c =
    let items = c.in_ok-ok_or.field-0.now.items in
    let is : as_array (view c.args.value.now) ≡ Some (items_view items) = search rules in
    let other : length items ≢ 3 = elim c.in_default.branch [ in_default-via-then-as_slice-lt3 w ↦ (λ same. search rules) | in_default-via-else-as_slice-lt3+else-this-lt4 w ↦ (λ same. search rules) ] in
    ap (λ o. else_cause Pattern o Ok) (pattern_of_other (view c.args.value.now) items is other)
