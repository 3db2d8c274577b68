use Rattle.std.proofs.Common.{◌&&◌, sym, ap, ◌∙◌}
use Rattle.std.specs.List.{list_all}
use Rattle.sitelinks.specs.Language.{is_no_upper_case}
use Rattle.sitelinks.proofs.Languages.{language_is_tag}
use Rattle.sitelinks.proofs.language.is_language.Goals as goal

pub returns-then-is_tag : goal.returns-then-is_tag
returns-then-is_tag c =
    c.has_no_upper_case.ensures
    ∙ sym (ap (λ b. b && list_all is_no_upper_case c.args.text.now) (sym c.is_tag.ensures ∙ c.if-is_tag.true))
    ∙ language_is_tag c.args.text.now

pub returns-else-is_tag : goal.returns-else-is_tag
returns-else-is_tag c =
    c.if-is_tag.false
    ∙ sym (ap (λ b. b && list_all is_no_upper_case c.args.text.now) (sym c.is_tag.ensures ∙ c.if-is_tag.false))
    ∙ language_is_tag c.args.text.now
