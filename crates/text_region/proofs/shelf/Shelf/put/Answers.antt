-- A spare block is there, and takes the text.
use Rattle.std.proofs.Common.{◌≡◌, ◌*◌, ◌≤◌, [], ◌∷◌, ◌++◌, length, set, take, drop, Some, arith, ap, sym, subst, ◌∙◌, refl}
use Rattle.std.specs.Prelude.{is_some, count_by, vec_capacity}
use Rattle.std.specs.Option.{option_to_list}
use Rattle.std.proofs.lemmas.List.{take_at}
use Rattle.text_region.specs.Blocks.{Shelf, blocks_in}
use Rattle.text_region.specs.Shelf.{IsShelf}
use Rattle.text_region.proofs.Blocks.{lies, used-blocks_in, length-blocks_in, blocks_in-put, written}
use Rattle.text_region.proofs.Shelves.{spare_before, shelf_put, vacant_in}
use Rattle.text_region.proofs.shelf.Shelf.put.Goals as goal

pub unreachable-requires : goal.unreachable-requires
unreachable-requires c =
    let i = c.self.inside in
    let same : blocks_in i.size i.bytes.items i.lengths.items ≡ c.args.self.now.blocks = ap (λ (s : Shelf). s.blocks) c.self.view_is in
    let used : count_by is_some c.args.self.now.blocks ≡ count_by is_some i.lengths.items = ap (count_by is_some) (sym same) ∙ used-blocks_in i.size i.bytes.items i.lengths.items in
    let many : length c.args.self.now.blocks ≡ length i.lengths.items = ap length (sym same) ∙ length-blocks_in i.size i.bytes.items i.lengths.items in
    grind (arith, used, many, c.self.invariant.counted, c.requires.spare, c.pop.ensures.variant, i.spare.ok.0, c.in_default.is)

pub write_at-requires : goal.write_at-requires
write_at-requires c =
    let i = c.self.inside in
    let same : blocks_in i.size i.bytes.items i.lengths.items ≡ c.args.self.now.blocks = ap (λ (s : Shelf). s.blocks) c.self.view_is in
    let size : i.size ≡ c.args.self.now.size = ap (λ (s : Shelf). s.size) c.self.view_is in
    let spare = spare_before i.size i.bytes.items i.lengths.items c.pop.new.self.items i.spare.items c.in-Some.number (vec_capacity i.spare) (c.pop.ensures.items ∙ ap (λ o. c.pop.new.self.items ++ option_to_list o) c.in-Some.is) c.self.invariant in
    omega (arith, lies i.size c.in-Some.number (length i.lengths.items) (length i.bytes.items) c.self.invariant.whole spare.there, c.requires.long, size, ap length c.deref_mut.ensures.value)

pub index_mut-requires : goal.index_mut-requires
index_mut-requires c =
    let i = c.self.inside in
    let spare = spare_before i.size i.bytes.items i.lengths.items c.pop.new.self.items i.spare.items c.in-Some.number (vec_capacity i.spare) (c.pop.ensures.items ∙ ap (λ o. c.pop.new.self.items ++ option_to_list o) c.in-Some.is) c.self.invariant in
    omega (arith, spare.there, i.lengths.ok.0)

-- the bytes after the write
wrote : (c : goal.After-self-2-1) → c.write_at.new.bytes ≡ written c.self.inside.bytes.items (c.in-Some.number * c.self.inside.size) c.args.text.now
wrote c = c.write_at.ensures ∙ ap (λ b. written b (c.in-Some.number * c.self.inside.size) c.args.text.now) c.deref_mut.ensures.value

after : (c : goal.After-self-2-1) → take c.self.inside.bytes.len (c.write_at.new.bytes ++ drop (length c.write_at.new.bytes) c.self.inside.bytes.items) ≡ written c.self.inside.bytes.items (c.in-Some.number * c.self.inside.size) c.args.text.now
after c = take_at c.write_at.new.bytes (drop (length c.write_at.new.bytes) c.self.inside.bytes.items) c.self.inside.bytes.len (c.write_at.auto.bytes ∙ c.deref_mut.ensures.len) ∙ wrote c

-- the text is no longer than a block
short : (c : goal.After-self-2-1) → length c.args.text.now ≤ c.self.inside.size
short c = omega (arith, c.requires.long, ap (λ (s : Shelf). s.size) c.self.view_is)

pub invariant_of-self : goal.invariant_of-self
invariant_of-self c =
    let i = c.self.inside in
    let before : IsShelf i.size i.bytes.items i.lengths.items (c.pop.new.self.items ++ c.in-Some.number ∷ []) (vec_capacity i.spare) =
    subst (λ l. IsShelf i.size i.bytes.items i.lengths.items l (vec_capacity i.spare)) (c.pop.ensures.items ∙ ap (λ o. c.pop.new.self.items ++ option_to_list o) c.in-Some.is) c.self.invariant in
    let as_long : length (written i.bytes.items (c.in-Some.number * i.size) c.args.text.now) ≡ length i.bytes.items = ap length (sym (wrote c)) ∙ c.write_at.auto.bytes ∙ ap length c.deref_mut.ensures.value in
    rw (after c, c.pop.ensures.capacity, c.of.ensures) (shelf_put i.size i.bytes.items i.lengths.items (written i.bytes.items (c.in-Some.number * i.size) c.args.text.now) c.pop.new.self.items c.in-Some.number (length c.args.text.now) (vec_capacity i.spare) before as_long (short c))

pub returns-clause-there : goal.returns-clause-there
returns-clause-there c =
    let i = c.self.inside in
    let same : blocks_in i.size i.bytes.items i.lengths.items ≡ c.args.self.now.blocks = ap (λ (s : Shelf). s.blocks) c.self.view_is in
    let spare = spare_before i.size i.bytes.items i.lengths.items c.pop.new.self.items i.spare.items c.in-Some.number (vec_capacity i.spare) (c.pop.ensures.items ∙ ap (λ o. c.pop.new.self.items ++ option_to_list o) c.in-Some.is) c.self.invariant in
    omega (arith, spare.there, ap length same, length-blocks_in i.size i.bytes.items i.lengths.items)

pub returns-clause-spare : goal.returns-clause-spare
returns-clause-spare c =
    let i = c.self.inside in
    let spare = spare_before i.size i.bytes.items i.lengths.items c.pop.new.self.items i.spare.items c.in-Some.number (vec_capacity i.spare) (c.pop.ensures.items ∙ ap (λ o. c.pop.new.self.items ++ option_to_list o) c.in-Some.is) c.self.invariant in
    vacant_in i.size i.bytes.items i.lengths.items c.args.self.now.blocks c.in-Some.number (ap (λ (s : Shelf). s.blocks) c.self.view_is) spare.vacant

pub returns-clause-blocks : goal.returns-clause-blocks
returns-clause-blocks c =
    let i = c.self.inside in
    let spare = spare_before i.size i.bytes.items i.lengths.items c.pop.new.self.items i.spare.items c.in-Some.number (vec_capacity i.spare) (c.pop.ensures.items ∙ ap (λ o. c.pop.new.self.items ++ option_to_list o) c.in-Some.is) c.self.invariant in
    ap (λ b. blocks_in i.size b (set i.lengths.items c.in-Some.number c.of.result)) (after c)
    ∙ ap (λ l. blocks_in i.size (written i.bytes.items (c.in-Some.number * i.size) c.args.text.now) (set i.lengths.items c.in-Some.number l)) c.of.ensures
    ∙ blocks_in-put i.size i.bytes.items i.lengths.items c.in-Some.number (c.in-Some.number * i.size) c.args.text.now c.self.invariant.whole c.self.invariant.fits spare.there (short c) refl
    ∙ ap (λ b. set b c.in-Some.number (Some c.args.text.now)) (ap (λ (s : Shelf). s.blocks) c.self.view_is)
