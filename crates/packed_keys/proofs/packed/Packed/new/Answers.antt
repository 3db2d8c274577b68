-- Each cell stands for its key.
use Rattle.std.proofs.Common.{◌∙◌, ◌<◌, ◌++◌, ◌∷◌, [], ap, sym, subst, map, take, length, arith}
use Rattle.std.proofs.lemmas.List.{map_push, take_all, take_more}
use Rattle.std.specs.List.{All}
use Rattle.std.proofs.lemmas.List.Elements.{All-push}
use Rattle.packed_keys.specs.Frames.{IsIn, key_at}
use Rattle.packed_keys.proofs.packed.Packed.new.Goals as goal

pub loop-key-preserved : goal.loop-key-preserved
loop-key-preserved g c =
    let keys = c.args.keys.now in
    let i = c.loop-key.key-index in
    let within : i < length keys = omega (arith, c.loop-key-test.true) in (
      ap (map (λ cell. key_at c.args.frame (g.C.Cell.number cell))) c.in_ok-push.ensures.items
          ∙ map_push (λ cell. key_at c.args.frame (g.C.Cell.number cell)) c.loop-key.cells.items c.in-Some.cell
          ∙ ap (λ l. l ++ key_at c.args.frame (g.C.Cell.number c.in-Some.cell) ∷ []) c.loop-key.invariant.0
          ∙ ap (λ k. take i keys ++ k ∷ []) c.in-Some.ensures.stands
          ∙ sym (take_more keys i (record { first = 0; second = 0; third = 0 }) within),
      subst (All (λ cell. IsIn c.args.frame (g.C.Cell.number cell))) (sym c.in_ok-push.ensures.items)
          (All-push (λ cell. IsIn c.args.frame (g.C.Cell.number cell)) c.loop-key.cells.items c.in-Some.cell c.loop-key.invariant.1 c.in-Some.ensures.inside),
    )

pub returns : goal.returns
returns g c = c.loop-key.invariant.0 ∙ take_all c.loop-key.key-index c.args.keys.now (omega (arith, c.loop-key-test.false))
