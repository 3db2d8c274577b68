-- The new cell stands for the key.
use Rattle.std.proofs.Common.{◌∙◌, ap, map, subst, sym}
use Rattle.std.specs.List.{All, insert}
use Rattle.packed_keys.specs.Frames.{IsIn, key_at}
use Rattle.packed_keys.proofs.Runs.{all_insert, map-insert}
use Rattle.packed_keys.proofs.packed.Packed.insert.Goals as goal

pub returns-clause-ok : goal.returns-clause-ok
returns-clause-ok g c =
    ap (map (λ cell. key_at c.self.inside.frame (g.C.Cell.number cell))) (c.in_ok-insert.ensures.items ∙ ap (λ l. insert l c.args.at c.in-Some.cell) c.make_room.ensures)
    ∙ map-insert (λ cell. key_at c.self.inside.frame (g.C.Cell.number cell)) c.self.inside.cells.items c.args.at c.in-Some.cell c.args.key c.in-Some.ensures.stands
    ∙ ap (λ l. insert l c.args.at c.args.key) c.self.view_is

pub invariant_of-self : goal.invariant_of-self
invariant_of-self g c = subst (All (λ cell. IsIn c.self.inside.frame (g.C.Cell.number cell))) (sym c.make_room.ensures) c.self.invariant

pub invariant_of-self-in_err-insert : goal.invariant_of-self-in_err-insert
invariant_of-self-in_err-insert g c = subst (All (λ cell. IsIn c.self.inside.frame (g.C.Cell.number cell))) (sym (c.in_err-insert.ensures.items ∙ c.make_room.ensures)) c.self.invariant

pub invariant_of-self-2 : goal.invariant_of-self-2
invariant_of-self-2 g c =
    subst (All (λ cell. IsIn c.self.inside.frame (g.C.Cell.number cell))) (sym (c.in_ok-insert.ensures.items ∙ ap (λ l. insert l c.args.at c.in-Some.cell) c.make_room.ensures))
    (all_insert (λ cell. IsIn c.self.inside.frame (g.C.Cell.number cell)) c.self.inside.cells.items c.args.at c.in-Some.cell c.self.invariant c.in-Some.ensures.inside)
