-- Nothing is written if nothing changes; otherwise the record, or a prefix of it.
use Rattle.std.proofs.Common.{◌≡◌, ◌≢◌, ◌+◌, true, false, sym, ◌∙◌, rules}
use Rattle.triple_store.specs.declared.telling.Telling.TheVariants.{Nothing, Change as TheChange}
use Rattle.text_output.specs.Printing.{output}
use Rattle.patch_stream.proofs.Texts.{step_cut_short, step_not_begun, step_printed, step_silent}
use Rattle.patch_stream.specs.Stream.{is_change, step}
use Rattle.patch_stream.proofs.printing.print_step.Goals as goal

pub returns-then-not-changes_something-clause-tells : goal.returns-then-not-changes_something-clause-tells
returns-then-not-changes_something-clause-tells g c before after tells =
    let asked : TheChange ≢ Nothing = λ e. absurd cc in
    let none : c.changes_something.result ≡ false = cc in
    step_silent c.args.told (step before after) _ (sym (c.changes_something.ensures TheChange before after tells asked) ∙ none)

pub returns-in_default-clause-tells : goal.returns-in_default-clause-tells
returns-in_default-clause-tells g c before after tells =
    let asked : TheChange ≢ Nothing = λ e. absurd cc in
    let there : c.changes_something.result ≡ true = cc in
    step_not_begun c.args.told (step before after) (output g.K.Sink c.args.out.now) (sym (c.changes_something.ensures TheChange before after tells asked) ∙ there)

pub returns-in-Ok-clause-tells : goal.returns-in-Ok-clause-tells
returns-in-Ok-clause-tells g c before after tells =
    let asked : TheChange ≢ Nothing = λ e. absurd cc in
    let there : c.changes_something.result ≡ true = cc in
    let changes : is_change (step before after) ≡ true = sym (c.changes_something.ensures TheChange before after tells asked) ∙ there in
    let number : c.in-Some.number ≡ c.args.told + 1 = search rules in
    let prints = c.in-Ok.ensures.prints before after tells changes in
    rw number (step_printed c.args.told (step before after) _ _ changes (rw number at prints))

pub returns-clause-tells : goal.returns-clause-tells
returns-clause-tells g c before after tells =
    let asked : TheChange ≢ Nothing = λ e. absurd cc in
    let there : c.changes_something.result ≡ true = cc in
    let changes : is_change (step before after) ≡ true = sym (c.changes_something.ensures TheChange before after tells asked) ∙ there in
    let number : c.in-Some.number ≡ c.args.told + 1 = search rules in
    let prints = c.in-Err.ensures.prints before after tells changes in
    step_cut_short c.args.told (step before after) _ c.in-Err.why _ changes (rw number at prints)
