-- What the matched items ask for is the plan of the words.
use Rattle.std.proofs.Common.{◌≡◌, ◌∙◌, ap, sym, map, string_bytes, is_some, true≢false}
use Rattle.arguments.specs.Matching.{AreItemWords}
use Rattle.arguments.specs.Plan.{plan_of}
use Rattle.arguments.proofs.Commands.{plan_again}
use Rattle.arguments.proofs.matching.ItemWords.plan.Goals as goal

pub unreachable-requires : goal.unreachable-requires
unreachable-requires c =
    let are : AreItemWords c.self.inside.command (map (λ w. string_bytes w) c.as_slice.result.now) = rw c.as_slice.ensures.value c.self.invariant in
    let read = c.in_ok-request.ensures are in
    let is : plan_of (map (λ w. string_bytes w) c.as_slice.result.now) ≡ c.args.self.now = rw c.as_slice.ensures.value c.self.view_is in
    let none = sym c.in-None.is ∙ c.asked-plan.ensures.value ∙ plan_again c.self.inside.command _ are _ _ read.0 read.1 ∙ is in
    true≢false (sym c.requires ∙ ap is_some (sym none))

pub returns-clause-value : goal.returns-clause-value
returns-clause-value c =
    let are : AreItemWords c.self.inside.command (map (λ w. string_bytes w) c.as_slice.result.now) = rw c.as_slice.ensures.value c.self.invariant in
    let read = c.in_ok-request.ensures are in
    let is : plan_of (map (λ w. string_bytes w) c.as_slice.result.now) ≡ c.args.self.now = rw c.as_slice.ensures.value c.self.view_is in
    sym (sym c.in-Some.is ∙ c.asked-plan.ensures.value ∙ plan_again c.self.inside.command _ are _ _ read.0 read.1 ∙ is)
