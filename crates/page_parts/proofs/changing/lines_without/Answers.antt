-- Among no others are none, and the texts of the rows that are left are canonical.
use Rattle.std.proofs.Common.{sym, ◌∙◌, subst, length}
use Rattle.std.specs.List.{All}
use Rattle.std.proofs.lemmas.Bool.{eqb-true}
use Rattle.page_parts.specs.Row.{HasCanonicalTexts}
use Rattle.page_parts.proofs.Changed.{without_canonical, without_none}
use Rattle.page_parts.proofs.changing.lines_without.Goals as goal

pub returns-then-is_empty : goal.returns-then-is_empty
returns-then-is_empty c =
    let alone = without_none c.args.rows.now c.args.others.now (eqb-true (length c.args.others.now) 0 (sym c.is_empty.ensures ∙ c.if-is_empty.true)) in
    rw (sym alone) c.lines_of.ensures

pub lines_of-requires-2 : goal.lines_of-requires-2
lines_of-requires-2 c = subst (All HasCanonicalTexts) (sym (c.as_slice.ensures.value ∙ c.in_ok-found.ensures)) (without_canonical c.args.rows.now c.args.others.now c.requires.canonical)
