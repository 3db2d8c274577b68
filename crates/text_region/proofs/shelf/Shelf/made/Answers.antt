-- There is a block for each length.
use Rattle.std.proofs.Common.{◌≡◌, length, ap, arith}
use Rattle.text_region.specs.Blocks.{Shelf, blocks_in}
use Rattle.text_region.proofs.Blocks.{length-blocks_in}
use Rattle.text_region.proofs.shelf.Shelf.made.Goals as goal

pub returns : goal.returns
returns c =
    let i = c.self.inside in
    let same : blocks_in i.size i.bytes.items i.lengths.items ≡ c.args.self.now.blocks = ap (λ (s : Shelf). s.blocks) c.self.view_is in
    omega (arith, ap length same, length-blocks_in i.size i.bytes.items i.lengths.items, i.lengths.ok.0, c.len.ensures)
