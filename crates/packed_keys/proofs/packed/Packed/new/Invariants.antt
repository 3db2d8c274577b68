use Rattle.std.proofs.Common.{◌≡◌, map, take}
use Rattle.std.specs.List.{All}
use Rattle.packed_keys.specs.Frames.{IsIn, key_at}
use Rattle.packed_keys.proofs.packed.Packed.new.Given as goal

abbrev pub invariant-loop-key : goal.invariant-loop-key
invariant-loop-key g l =
    (map (λ cell. key_at l.frame (g.C.Cell.number cell)) l.cells.items ≡ take l.key-index l.keys)
    × All (λ cell. IsIn l.frame (g.C.Cell.number cell)) l.cells.items
