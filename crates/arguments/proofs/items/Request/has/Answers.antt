-- Clap has a value of an item that takes one and is there, and the text of a flag.
use Rattle.std.proofs.Common.{◌≡◌, ◌∙◌, ap, sym, subst, true, Some}
use Rattle.arguments.specs.declared.table.ValueKind.TheVariants.{Flag}
use Rattle.arguments.specs.Items.{Request, is_there}
use Rattle.arguments.specs.Matching.{AreReadable, items_in}
use Rattle.arguments.specs.Table.{has_value, kind_in, table_of}
use Rattle.arguments.proofs.Matched.{flag_read, there_read}
use Rattle.arguments.proofs.items.Request.has.Goals as goal

pub returns-in-Some-Flag : goal.returns-in-Some-Flag
returns-in-Some-Flag c =
    let readable = subst (AreReadable c.self.inside.command) c.in-Matched.is c.self.invariant in
    let is : kind_in (table_of c.self.inside.command) c.args.name.now ≡ Some Flag = sym c.kind_of.ensures ∙ c.in-Some-Flag.is ∙ ap Some c.in-Some-Flag.field-0-is in
    flag_read c.self.inside.command c.in-Matched.matches c.args.name.now readable c.get_flag.result is c.get_flag.ensures.value c.get_flag.ensures.other
    ∙ ap (λ values. is_there c.args.name.now (items_in c.self.inside.command values)) (sym c.in-Matched.is)
    ∙ ap (λ (r : Request). is_there c.args.name.now r.items) c.self.view_is

pub returns-in-Some-Text : goal.returns-in-Some-Text
returns-in-Some-Text c =
    let readable = subst (AreReadable c.self.inside.command) c.in-Matched.is c.self.invariant in
    let takes : has_value (kind_in (table_of c.self.inside.command) c.args.name.now) ≡ true = ap has_value (sym c.kind_of.ensures ∙ c.in-Some-Text.is ∙ ap Some c.in-Some-Text.field-0-is) in
    c.is_some-in-Some-Text.ensures
    ∙ there_read c.self.inside.command c.in-Matched.matches c.args.name.now readable c.get_str.result c.get_str.ensures takes
    ∙ ap (λ values. is_there c.args.name.now (items_in c.self.inside.command values)) (sym c.in-Matched.is)
    ∙ ap (λ (r : Request). is_there c.args.name.now r.items) c.self.view_is

pub returns-in-Some-Number : goal.returns-in-Some-Number
returns-in-Some-Number c =
    let readable = subst (AreReadable c.self.inside.command) c.in-Matched.is c.self.invariant in
    let takes : has_value (kind_in (table_of c.self.inside.command) c.args.name.now) ≡ true = ap has_value (sym c.kind_of.ensures ∙ c.in-Some-Number.is ∙ ap Some c.in-Some-Number.field-0-is) in
    c.is_some-in-Some-Number.ensures
    ∙ there_read c.self.inside.command c.in-Matched.matches c.args.name.now readable c.get_str-in-Some-Number.result c.get_str-in-Some-Number.ensures takes
    ∙ ap (λ values. is_there c.args.name.now (items_in c.self.inside.command values)) (sym c.in-Matched.is)
    ∙ ap (λ (r : Request). is_there c.args.name.now r.items) c.self.view_is
