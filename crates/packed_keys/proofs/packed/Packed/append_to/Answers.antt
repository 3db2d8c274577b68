-- The keys of the cells so far stand behind the others.
use Rattle.std.proofs.Common.{◌≡◌, ◌∙◌, ◌++◌, ◌∷◌, [], ap, sym, map, take, length, arith}
use Rattle.std.proofs.lemmas.List.{append_assoc, take_all}
use Rattle.packed_keys.specs.Frames.{key_at}
use Rattle.packed_keys.proofs.Runs.{next_key, run_len}
use Rattle.packed_keys.proofs.packed.Packed.append_to.Goals as goal

pub loop-cell-preserved : goal.loop-cell-preserved
loop-cell-preserved g c =
    let i = c.loop-cell.cell-index in
    let others = c.args.keys.now.items in
    let one = next_key (λ cell. key_at c.self.inside.frame (g.C.Cell.number cell)) c.deref-cell-items.result.now c.args.self.now i c.cell-item.result c.key.result (ap (map (λ cell. key_at c.self.inside.frame (g.C.Cell.number cell))) c.deref-cell-items.ensures.value ∙ c.self.view_is) c.loop-cell-test.true c.cell-item.is (c.key.ensures ∙ ap (key_at c.self.inside.frame) c.number.ensures) in
    c.in_ok-push.ensures.items
    ∙ ap (λ l. l ++ c.key.result ∷ []) c.loop-cell.invariant
    ∙ append_assoc others (take i c.args.self.now) (c.key.result ∷ [])
    ∙ ap (λ l. others ++ l) (sym one)

pub returns : goal.returns
returns g c =
    let len : length c.args.self.now ≡ length c.deref-cell-items.result.now = run_len (λ cell. key_at c.self.inside.frame (g.C.Cell.number cell)) c.deref-cell-items.result.now c.args.self.now (ap (map (λ cell. key_at c.self.inside.frame (g.C.Cell.number cell))) c.deref-cell-items.ensures.value ∙ c.self.view_is) in
    c.loop-cell.invariant ∙ ap (λ l. c.args.keys.now.items ++ l) (take_all c.loop-cell.cell-index c.args.self.now (omega (arith, c.loop-cell-test.false)))
