-- Each triple is kept by itself.
use Rattle.std.proofs.Common.{◌∙◌, ◌++◌, [], ◌∷◌, ap}
use Rattle.std.specs.List.{flat_map}
use Rattle.triple_store.proofs.Patched.{each_itself}
use Rattle.subgraph.proofs.split.texts_of.Goals as goal

pub returns-in-Ok-clause-texts : goal.returns-in-Ok-clause-texts
returns-in-Ok-clause-texts c =
    c.in-Ok.ensures.gains.0
    ∙ ap (λ l. l ++ flat_map (λ t. t ∷ []) c.items.result.now) c.new-texts.ensures
    ∙ each_itself c.items.result.now
    ∙ c.items.ensures.items
