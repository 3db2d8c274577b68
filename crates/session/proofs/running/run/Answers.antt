-- The arguments are no plan, or leave what the run of their plan leaves.
use Rattle.std.proofs.Common.{◌≡◌, ◌∙◌, sym, ap, refl, inr, ⊎_elim, not, is_some, Some, None, map, string_bytes}
use Rattle.arguments.specs.{Plan.plan_of, declared.plan.Plan.TheVariants.Split}
use Rattle.session.proofs.Plans.{plan_there}
use Rattle.session.proofs.running.run.Goals as goal

pub returns-clause-replay : goal.returns-clause-replay
returns-clause-replay g c = λ plan is run are. (c.run_judged.ensures plan is).replay run are

pub returns-clause-drill : goal.returns-clause-drill
returns-clause-drill g c = λ size is. (c.run_judged.ensures _ is).drill size refl

pub returns-clause-follow : goal.returns-clause-follow
returns-clause-follow g c = λ choices is. (c.run_judged.ensures _ is).follow choices refl

pub returns-clause-limit : goal.returns-clause-limit
returns-clause-limit g c = λ plan is. (c.run_judged.ensures plan is).limit

pub returns-clause-unsaved : goal.returns-clause-unsaved
returns-clause-unsaved g c = λ plan is. (c.run_judged.ensures plan is).unsaved

pub returns-clause-refused : goal.returns-clause-refused
returns-clause-refused g c = λ bad.
    plan_there (plan_of (map (λ w. string_bytes w) c.args.words.now)) (ap is_some (sym c.read_plan.ensures.value) ∙ c.is_none.ensures ∙ ap not c.if-is_none.false) (λ plan is.
    let left = (c.run_judged.ensures plan is).refused bad in
    (inr (record { choices = left.0.choices; plan = is ∙ ap Some left.0.is; none = left.0.none }), left.1, left.2))

pub returns-clause-bad_words : goal.returns-clause-bad_words
returns-clause-bad_words g c = λ refused.
    plan_there (plan_of (map (λ w. string_bytes w) c.args.words.now)) (ap is_some (sym c.read_plan.ensures.value) ∙ c.is_none.ensures ∙ ap not c.if-is_none.false) (λ plan is.
    (c.run_judged.ensures plan is).without (⊎_elim
    (λ none. let no : Some plan ≡ None = sym is ∙ none in cc)
    (λ routes.
    let same : Some plan ≡ Some (Split routes.choices) = sym is ∙ routes.plan in
    let split : plan ≡ Split routes.choices = cc in
    record { choices = routes.choices; is = split; none = routes.none })
    refused))

pub returns-clause-further : goal.returns-clause-further
returns-clause-further g c =
    plan_there (plan_of (map (λ w. string_bytes w) c.args.words.now)) (ap is_some (sym c.read_plan.ensures.value) ∙ c.is_none.ensures ∙ ap not c.if-is_none.false) (λ plan is.
    (c.run_judged.ensures plan is).further)
