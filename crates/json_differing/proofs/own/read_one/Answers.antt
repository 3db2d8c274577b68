-- The value is the one that the text begins with.
use Rattle.std.proofs.Common.{ap, ◌∙◌}
use Rattle.json_spell.specs.View.{json_view}
use Rattle.json_differing.proofs.SpelledTexts.{read_tree}
use Rattle.json_differing.proofs.own.read_one.Goals as goal

pub returns : goal.returns
returns c =
    c.member_as.ensures ∙ ap (λ t. (c.args.spelled.now.key.now, t)) (read_tree (json_view c.in-Ok.value) c.args.spelled.now.text.now c.in-Ok._rest.now c.in-Ok.ensures.read)
