-- The text lies whole in the bytes of its block.
use Rattle.std.proofs.Common.{◌≡◌, ◌*◌, length, get_or, take, drop, Some, None, arith, ap, sym, ◌∙◌}
use Rattle.std.proofs.lemmas.List.{get_or_default}
use Rattle.text_region.specs.Blocks.{Shelf}
use Rattle.text_region.proofs.Blocks.{lies}
use Rattle.text_region.proofs.Shelves.{lies_in}
use Rattle.text_region.proofs.shelf.Shelf.read.Goals as goal

pub index-requires : goal.index-requires
index-requires c =
    let i = c.self.inside in
    let lying = lies_in i.size i.bytes.items i.lengths.items c.args.self.now.blocks c.args.number (ap (λ (s : Shelf). s.blocks) c.self.view_is) c.requires in
    omega (arith, lying.there, i.lengths.ok.0)

pub unreachable-requires : goal.unreachable-requires
unreachable-requires c =
    let i = c.self.inside in
    let lying = lies_in i.size i.bytes.items i.lengths.items c.args.self.now.blocks c.args.number (ap (λ (s : Shelf). s.blocks) c.self.view_is) c.requires in
    grind (arith, lying.there, lying.is, c.index.ensures, c.get.ensures, c.in_default.is)

pub text_at-requires : goal.text_at-requires
text_at-requires c =
    let i = c.self.inside in
    let lying = lies_in i.size i.bytes.items i.lengths.items c.args.self.now.blocks c.args.number (ap (λ (s : Shelf). s.blocks) c.self.view_is) c.requires in
    let read : get_or i.lengths.items c.args.number None ≡ Some c.in-Some.length = get_or_default i.lengths.items c.args.number None c.index.result.now lying.there ∙ sym c.index.ensures ∙ sym c.get.ensures ∙ c.in-Some.is in
    omega (arith, lies i.size c.args.number (length i.lengths.items) (length i.bytes.items) c.self.invariant.whole lying.there, c.self.invariant.fits c.args.number c.in-Some.length read, ap length c.deref.ensures.value)

pub returns : goal.returns
returns c =
    let i = c.self.inside in
    let lying = lies_in i.size i.bytes.items i.lengths.items c.args.self.now.blocks c.args.number (ap (λ (s : Shelf). s.blocks) c.self.view_is) c.requires in
    let read : get_or i.lengths.items c.args.number None ≡ Some c.in-Some.length = get_or_default i.lengths.items c.args.number None c.index.result.now lying.there ∙ sym c.index.ensures ∙ sym c.get.ensures ∙ c.in-Some.is in
    let same : Some lying.len ≡ Some c.in-Some.length = sym lying.is ∙ read in
    let long : lying.len ≡ c.in-Some.length = cc in
    lying.text ∙ ap (λ n. Some (take n (drop (c.args.number * i.size) i.bytes.items))) long ∙ ap (λ b. Some (take c.in-Some.length (drop (c.args.number * i.size) b))) (sym c.deref.ensures.value) ∙ ap Some (sym c.text_at.ensures)
