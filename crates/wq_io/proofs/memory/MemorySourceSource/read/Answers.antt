-- The piece that was copied is the front of what was left; it is empty only where nothing was left.
use Rattle.std.proofs.Common.{◌≡◌, ◌∙◌, sym, ℕ, ◌≤◌, List, ap, take, length, drop, arith, Some}
use Rattle.wq_io.proofs.Pieces.{piece_taken}
use Rattle.wq_io.specs.Memory.{MemoryReads}
use Rattle.std.proofs.lemmas.List.{nil_from_length}
use Rattle.wq_io.proofs.memory.MemorySourceSource.read.Goals as goal

pub returns-clause-bytes : goal.returns-clause-bytes
returns-clause-bytes c =
    let n : ℕ = c.min-count.result in
    let rest : List ℕ = drop c.self.inside.at c.self.inside.bytes.items in
    let left_is : rest ≡ c.args.self.now.left = ap (λ (r : MemoryReads). r.left) c.self.view_is in
    let rest_is : c.rest-left.result.now ≡ rest = c.rest-left.ensures in
    let within : n ≤ length rest = omega (arith, ap length rest_is) in
    let piece : c.copy_from_slice.new.self ≡ take n rest = c.copy_from_slice.ensures.after ∙ ap (λ xs. take n xs) rest_is in (
      ap Some (sym left_is ∙ piece_taken c.self.inside.bytes.items c.copy_from_slice.new.self (drop n c.args.buf.now) c.self.inside.at n piece within),
      λ none. sym left_is ∙ nil_from_length rest (omega (arith, ap length rest_is, none)),
    )
