-- Clap has the value of an item that takes one.
use Rattle.std.proofs.Common.{◌≡◌, ◌∙◌, ap, sym, subst, true}
use Rattle.arguments.specs.Items.{Request, value_in}
use Rattle.arguments.specs.Matching.{AreReadable, items_in}
use Rattle.arguments.specs.Table.{has_value, kind_in, table_of}
use Rattle.arguments.proofs.Matched.{text_read}
use Rattle.arguments.proofs.items.Request.text.Goals as goal

pub returns-then-has_value : goal.returns-then-has_value
returns-then-has_value c =
    let readable = subst (AreReadable c.self.inside.command) c.in-Matched.is c.self.invariant in
    let takes : has_value (kind_in (table_of c.self.inside.command) c.args.name.now) ≡ true = ap has_value (sym c.kind_of.ensures) ∙ sym c.has_value.ensures ∙ c.if-has_value.true in
    c.get_str.ensures
    ∙ text_read c.self.inside.command c.in-Matched.matches c.args.name.now readable takes
    ∙ ap (λ values. value_in c.args.name.now (items_in c.self.inside.command values)) (sym c.in-Matched.is)
    ∙ ap (λ (r : Request). value_in c.args.name.now r.items) c.self.view_is
