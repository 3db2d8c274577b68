-- The block shrinks, or goes with its only key.
use Rattle.std.proofs.Common.{◌<◌, [], length, get_or, set, sym, ap, subst, arith}
use Rattle.std.specs.List.{remove}
use Rattle.std.proofs.lemmas.List.{get_or_read}
use Rattle.block_index.specs.Blocks.{AreFilled}
use Rattle.block_index.specs.Edit.{Edits}
use Rattle.block_index.proofs.Halves.{edits_gone, edits_shrunk}
use Rattle.block_index.proofs.group.Group.take_out.Goals as goal

pub returns-then-len-eq1-clause-edits : goal.returns-then-len-eq1-clause-edits
returns-then-len-eq1-clause-edits g c =
    let items = c.self.inside.blocks.items in
    let li : c.args.block < length items = subst (λ l. c.args.block < length l) (sym c.self.view_is) c.requires.inside in
    let within : c.args.at < length (get_or items c.args.block []) = subst (λ l. c.args.at < length (get_or l c.args.block [])) (sym c.self.view_is) c.requires.within in
    let same = ap length (get_or_read items c.args.block c.index.result.now li c.index.ensures []) in
    subst (λ l. Edits l c.remove.new.self.items c.args.block (remove (get_or l c.args.block []) c.args.at)) c.self.view_is
    (subst (λ bs. Edits items bs c.args.block (remove (get_or items c.args.block []) c.args.at)) (sym c.remove.ensures.items)
    (edits_gone items c.args.block c.args.at (omega arith) within))

pub returns-else-len-eq1-clause-edits : goal.returns-else-len-eq1-clause-edits
returns-else-len-eq1-clause-edits g c =
    let items = c.self.inside.blocks.items in
    let li : c.args.block < length items = subst (λ l. c.args.block < length l) (sym c.self.view_is) c.requires.inside in
    let within : c.args.at < length (get_or items c.args.block []) = subst (λ l. c.args.at < length (get_or l c.args.block [])) (sym c.self.view_is) c.requires.within in
    let filled = subst AreFilled (sym c.self.view_is) c.requires.filled in
    let same = ap length (get_or_read items c.args.block c.index.result.now li c.index.ensures []) in
    subst (λ l. Edits l (set items c.args.block c.remove-else-len-eq1.new.self) c.args.block (remove (get_or l c.args.block []) c.args.at)) c.self.view_is
    (edits_shrunk items c.args.block c.args.at c.index_mut.result.now c.remove-else-len-eq1.new.self filled li c.index_mut.ensures.value (omega arith) within c.remove-else-len-eq1.ensures)
