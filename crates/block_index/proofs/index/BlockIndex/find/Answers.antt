-- The key is there exactly where it was found.
use Rattle.std.proofs.Common.{◌∙◌, sym, ap}
use Rattle.sorted_sets.specs.Rising.{has}
use Rattle.block_index.specs.Blocks.{keys_of}
use Rattle.block_index.specs.Groups.{index_of}
use Rattle.block_index.proofs.Standing.{found_is}
use Rattle.block_index.proofs.index.BlockIndex.find.Goals as goal

pub returns-clause-answer : goal.returns-clause-answer
returns-clause-answer g c =
    let gs = c.deref.result.now in
    sym (found_is g.met.K.Ranked.total c.args.key (keys_of gs) (index_of gs c.locate.result.group c.locate.result.block) c.locate.result.at c.locate.result.found c.locate.ensures.stands)
    ∙ ap (λ bs. has g.K.Ranked.cmp c.args.key (keys_of bs)) (ap keys_of c.deref.ensures.value ∙ c.self.view_is)
