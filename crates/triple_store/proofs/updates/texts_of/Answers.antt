-- Each triple is kept by itself.
use Rattle.std.proofs.Common.{◌∙◌, ◌++◌, [], ◌∷◌, ap}
use Rattle.std.specs.List.{flat_map}
use Rattle.triple_store.proofs.Patched.{each_itself}
use Rattle.triple_store.proofs.updates.texts_of.Goals as goal

pub returns : goal.returns
returns c =
    c.in_ok-emit_all.ensures.gains.0
    ∙ ap (λ l. l ++ flat_map (λ t. t ∷ []) c.args.triples.now) c.new-texts.ensures
    ∙ each_itself c.args.triples.now
