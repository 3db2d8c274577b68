-- The cells are those of the keys that stay.
use Rattle.std.proofs.Common.{◌∙◌, map, ap, subst, sym}
use Rattle.std.specs.List.{All, remove}
use Rattle.packed_keys.specs.Frames.{IsIn, key_at}
use Rattle.packed_keys.proofs.Runs.{all_remove, map-remove}
use Rattle.packed_keys.proofs.packed.Packed.remove.Goals as goal

pub returns : goal.returns
returns g c =
    ap (map (λ cell. key_at c.self.inside.frame (g.C.Cell.number cell))) c.remove.ensures.items
    ∙ map-remove (λ cell. key_at c.self.inside.frame (g.C.Cell.number cell)) c.self.inside.cells.items c.args.at
    ∙ ap (λ l. remove l c.args.at) c.self.view_is

pub invariant_of-self : goal.invariant_of-self
invariant_of-self g c = subst (All (λ cell. IsIn c.self.inside.frame (g.C.Cell.number cell))) (sym c.remove.ensures.items) (all_remove (λ cell. IsIn c.self.inside.frame (g.C.Cell.number cell)) c.self.inside.cells.items c.args.at c.self.invariant)
