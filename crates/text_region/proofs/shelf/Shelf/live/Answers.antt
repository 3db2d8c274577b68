-- The blocks in use are those that aren't spare.
use Rattle.std.proofs.Common.{◌≡◌, ◌∙◌, ap, sym, arith}
use Rattle.std.specs.Prelude.{is_some, count_by}
use Rattle.text_region.specs.Blocks.{Shelf, blocks_in}
use Rattle.text_region.proofs.Blocks.{used-blocks_in}
use Rattle.text_region.proofs.shelf.Shelf.live.Goals as goal

pub returns : goal.returns
returns c =
    let i = c.self.inside in
    let same : blocks_in i.size i.bytes.items i.lengths.items ≡ c.args.self.now.blocks = ap (λ (s : Shelf). s.blocks) c.self.view_is in
    let used : count_by is_some c.args.self.now.blocks ≡ count_by is_some i.lengths.items = ap (count_by is_some) (sym same) ∙ used-blocks_in i.size i.bytes.items i.lengths.items in
    omega (arith, used, c.self.invariant.counted, i.lengths.ok.0, i.spare.ok.0, c.len.ensures, c.len-2.ensures)
