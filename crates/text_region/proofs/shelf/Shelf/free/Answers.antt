-- A block in use goes to the spare ones, which have room for it.
use Rattle.std.proofs.Common.{◌∙◌, set, None, ap, arith}
use Rattle.std.specs.Prelude.{vec_capacity}
use Rattle.text_region.specs.Blocks.{Shelf, blocks_in}
use Rattle.text_region.proofs.Blocks.{blocks_in-free}
use Rattle.text_region.proofs.Shelves.{lies_in, shelf_freed, in_use_counts}
use Rattle.text_region.proofs.Steps.{has_freed}
use Rattle.text_region.proofs.shelf.Shelf.free.Goals as goal

pub index_mut-requires : goal.index_mut-requires
index_mut-requires c =
    let i = c.self.inside in
    let lying = lies_in i.size i.bytes.items i.lengths.items c.args.self.now.blocks c.args.number (ap (λ (s : Shelf). s.blocks) c.self.view_is) c.requires in
    omega (arith, lying.there, i.lengths.ok.0)

pub push_reserved-requires : goal.push_reserved-requires
push_reserved-requires c =
    let i = c.self.inside in
    let lying = lies_in i.size i.bytes.items i.lengths.items c.args.self.now.blocks c.args.number (ap (λ (s : Shelf). s.blocks) c.self.view_is) c.requires in
    omega (arith, in_use_counts i.lengths.items c.args.number lying.len lying.is lying.there, c.self.invariant.counted, c.self.invariant.room, i.spare.ok.0)

pub invariant_of-self : goal.invariant_of-self
invariant_of-self c =
    let i = c.self.inside in
    let lying = lies_in i.size i.bytes.items i.lengths.items c.args.self.now.blocks c.args.number (ap (λ (s : Shelf). s.blocks) c.self.view_is) c.requires in
    rw (c.push_reserved.ensures.items, c.push_reserved.ensures.capacity, c.none.ensures) (shelf_freed i.size i.bytes.items i.lengths.items i.spare.items c.args.number lying.len (vec_capacity i.spare) c.self.invariant lying.is lying.there)

pub returns-clause-blocks : goal.returns-clause-blocks
returns-clause-blocks c =
    let i = c.self.inside in
    rw c.none.ensures (has_freed c.args.self.now.blocks (blocks_in i.size i.bytes.items (set i.lengths.items c.args.number None)) c.args.number c.requires
    (blocks_in-free i.size i.bytes.items i.lengths.items c.args.number ∙ ap (λ b. set b c.args.number None) (ap (λ (s : Shelf). s.blocks) c.self.view_is)))
