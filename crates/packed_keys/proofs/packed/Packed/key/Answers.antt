-- The cell at the index stands for the key.
use Rattle.std.proofs.Common.{◌∙◌, ap, sym, get_or, arith}
use Rattle.std.proofs.lemmas.List.{get_or-map}
use Rattle.packed_keys.specs.Frames.{key_at}
use Rattle.packed_keys.proofs.Runs.{run_len}
use Rattle.packed_keys.proofs.packed.Packed.key.Goals as goal

pub returns : goal.returns
returns g c d =
    let cells = c.self.inside.cells.items in
    let long = run_len (λ cell. key_at c.self.inside.frame (g.C.Cell.number cell)) cells c.args.self.now c.self.view_is in
    c.key.ensures
    ∙ ap (key_at c.self.inside.frame) c.number.ensures
    ∙ ap (λ cell. key_at c.self.inside.frame (g.C.Cell.number cell)) c.index.ensures
    ∙ sym (get_or-map (λ cell. key_at c.self.inside.frame (g.C.Cell.number cell)) cells c.args.at c.index.result.now d (omega (arith, c.requires)))
    ∙ ap (λ l. get_or l c.args.at d) c.self.view_is
