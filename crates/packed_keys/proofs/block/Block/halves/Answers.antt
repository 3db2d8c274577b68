-- There are 129 keys with the new one.
use Rattle.std.proofs.Common.{◌≡◌, ◌∙◌, ◌++◌, ap, subst}
use Rattle.std.specs.List.{insert}
use Rattle.std.specs.Prelude.{IfOk}
use Rattle.packed_keys.proofs.Cut.{one_more_than_full}
use Rattle.packed_keys.proofs.block.Block.halves.Goals as goal

pub cut-halves-requires : goal.cut-halves-requires
cut-halves-requires c =
    one_more_than_full c.args.self.now c.as_slice.result.now c.args.at c.args.key c.requires.full c.requires.within
    (c.as_slice.ensures.value ∙ c.in_ok-keys.ensures ∙ ap (λ l. insert l c.args.at c.args.key) c.self.view_is)

pub returns-clause-keys : goal.returns-clause-keys
returns-clause-keys c =
    subst (λ l. IfOk c.cut-halves.result (λ halves. halves.low ++ halves.high ≡ l))
    (c.as_slice.ensures.value ∙ c.in_ok-keys.ensures ∙ ap (λ l. insert l c.args.at c.args.key) c.self.view_is)
    c.cut-halves.ensures.keys
