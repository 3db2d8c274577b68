-- The record of the change; where none is told, nothing changed.
use Rattle.std.proofs.Common.{◌≡◌, sym, ◌∙◌, subst, true≢false}
use Rattle.triple_store.specs.declared.telling.Telling.TheVariants.{Whether, Change as TheChange}
use Rattle.holders.specs.Changing.{Tells}
use Rattle.text_output.specs.Printing.{Prints, output}
use Rattle.patch_stream.proofs.Texts.{still, told_text}
use Rattle.patch_stream.proofs.printing.print_told.Goals as goal

pub returns-in-Change-clause-prints : goal.returns-in-Change-clause-prints
returns-in-Change-clause-prints g c before after tells changes =
    let told = subst (Tells TheChange before after) c.in-Change.is tells in
    subst (λ l. Prints l (output g.K.Sink c.args.out.now) (output g.K.Sink c.print_change.new.out) c.print_change.result) (told_text c.args.number before after c.in-Change.change told.1) c.print_change.ensures

pub returns-in-Whether-clause-prints : goal.returns-in-Whether-clause-prints
returns-in-Whether-clause-prints g c before after tells changes =
    let told = subst (Tells TheChange before after) c.in-Whether.is tells in
    let never : TheChange ≡ Whether = told.0 in
    cc

pub returns-in-Nothing-clause-prints : goal.returns-in-Nothing-clause-prints
returns-in-Nothing-clause-prints g c before after tells changes =
    let same = (subst (Tells TheChange before after) c.in-Nothing.is tells) (λ e. absurd cc) in
    absurd (true≢false (sym changes ∙ still before after same))
