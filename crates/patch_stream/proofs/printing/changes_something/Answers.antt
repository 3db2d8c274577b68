-- What is told says whether something changed.
use Rattle.std.proofs.Common.{sym, ◌∙◌, subst}
use Rattle.world.specs.Held.{TellsChange}
use Rattle.patch_stream.proofs.{Parts.by_first, Parts.by_parts, Parts.by_second, Texts.told_changed}
use Rattle.patch_stream.proofs.printing.changes_something.Goals as goal

pub returns-in-Told : goal.returns-in-Told
returns-in-Told c telling before after tells asked =
    c.is_change.ensures ∙ told_changed telling before after c.in-Told.told (subst (TellsChange telling before after) c.in-Told.is tells) asked

pub returns-then-has_lines : goal.returns-then-has_lines
returns-then-has_lines c telling before after tells asked =
    c.has_lines.ensures ∙ by_first _ _ _ (sym c.has_lines.ensures ∙ c.if-has_lines.true) (by_parts before after c.in-Parts.parts (subst (TellsChange telling before after) c.in-Parts.is tells))

pub returns-else-has_lines : goal.returns-else-has_lines
returns-else-has_lines c telling before after tells asked =
    c.has_lines-else-has_lines.ensures ∙ by_second _ _ _ (sym c.has_lines.ensures ∙ c.if-has_lines.false) (by_parts before after c.in-Parts.parts (subst (TellsChange telling before after) c.in-Parts.is tells))
