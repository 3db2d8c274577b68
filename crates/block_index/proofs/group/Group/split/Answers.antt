-- The two halves are the whole.
use Rattle.std.proofs.Common.{◌∙◌, ◌++◌, take, ap}
use Rattle.std.proofs.lemmas.List.{take-append-drop}
use Rattle.block_index.proofs.group.Group.split.Goals as goal

pub returns-clause-parts : goal.returns-clause-parts
returns-clause-parts g c =
    ap (λ l. l ++ c.append.new.self.items) c.in_ok-moved.ensures.items
    ∙ ap (λ l. take 64 c.self.inside.blocks.items ++ l) (c.in_ok-append.ensures.items ∙ ap (λ l. l ++ c.in_ok-moved.moved.items) c.in_ok-upper.ensures.items ∙ c.in_ok-moved.ensures.tail)
    ∙ take-append-drop 64 c.self.inside.blocks.items
    ∙ c.self.view_is
