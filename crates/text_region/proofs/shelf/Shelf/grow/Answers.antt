-- The block that is made is the last, and spare.
use Rattle.std.proofs.Common.{◌≡◌, ◌∙◌, ℕ, ◌+◌, ◌-◌, ◌^◌, ◌≤◌, List, [], ◌∷◌, ◌++◌, length, take, replicate, None, ap, arith}
use Rattle.std.specs.Prelude.{vec_capacity}
use Rattle.std.proofs.lemmas.List.{take_all, length-replicate}
use Rattle.text_region.specs.Blocks.{Shelf}
use Rattle.text_region.proofs.Blocks.{blocks_in-push}
use Rattle.text_region.proofs.Shelves.{shelf_grown}
use Rattle.text_region.proofs.shelf.Shelf.grow.Goals as goal

-- the bytes with a block of zeros more
filled : (xs : List ℕ) (size n k : ℕ) → n ≡ length xs + size → k ≡ length xs → take n xs ++ replicate (n - k) 0 ≡ xs ++ replicate size 0
filled xs size n k e f = ap (λ front. front ++ replicate (n - k) 0) (take_all n xs (omega arith)) ∙ ap (λ m. xs ++ replicate m 0) (omega arith)

bytes : (c : goal.After-push_reserved-2) → c.resize.new.self.items ≡ c.self.inside.bytes.items ++ replicate c.self.inside.size 0
bytes c =
    let i = c.self.inside in
    c.in_ok-resize.ensures.items ∙ filled i.bytes.items i.size (c.len-2.result + i.size) i.bytes.len (omega (arith, c.len-2.ensures, i.bytes.ok.0)) i.bytes.ok.0

lengths : (c : goal.After-push_reserved-2) → c.push_reserved.new.self.items ≡ c.self.inside.lengths.items ++ None ∷ []
lengths c =
    c.push_reserved.ensures.items ∙ ap (λ l. l ++ c.none.result ∷ []) c.reserve.ensures.items ∙ ap (λ length. c.self.inside.lengths.items ++ length ∷ []) c.none.ensures

pub invariant_of-self-2 : goal.invariant_of-self-2
invariant_of-self-2 c =
    let i = c.self.inside in
    let spare : c.push_reserved-2.new.self.items ≡ i.spare.items ++ length i.lengths.items ∷ [] =
    c.push_reserved-2.ensures.items ∙ ap (λ l. l ++ c.len-made.result ∷ []) c.reserve-2.ensures.items ∙ ap (λ n. i.spare.items ++ n ∷ []) (c.len-made.ensures ∙ i.lengths.ok.0) in
    let few : length i.lengths.items + 1 ≤ 2 ^ 32 = omega (arith, c.if-made.false, c.len-made.ensures, i.lengths.ok.0) in
    let room : length i.lengths.items + 1 ≤ vec_capacity c.push_reserved-2.new.self =
    omega (arith, c.push_reserved-2.ensures.capacity, c.in_ok-reserve-2.ensures.ok, c.reserve-2.ensures.len, c.len.ensures, c.len-made.ensures, i.lengths.ok.0, i.spare.ok.0, c.self.invariant.counted) in
    rw (bytes c, lengths c, spare) (shelf_grown i.size i.bytes.items i.lengths.items (replicate i.size 0) i.spare.items (vec_capacity i.spare) (vec_capacity c.push_reserved-2.new.self) c.self.invariant (length-replicate i.size 0) few room)

pub returns-clause-ok : goal.returns-clause-ok
returns-clause-ok c =
    let i = c.self.inside in
    rw (bytes c, lengths c) (blocks_in-push i.size i.bytes.items (replicate i.size 0) i.lengths.items c.self.invariant.whole c.self.invariant.fits ∙ ap (λ b. b ++ None ∷ []) (ap (λ (s : Shelf). s.blocks) c.self.view_is))
