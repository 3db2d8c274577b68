-- The block grows, or two come in its place.
use Rattle.std.proofs.Common.{◌<◌, ◌≤◌, [], length, get_or, set, sym, ap, subst, arith}
use Rattle.std.specs.List.{insert}
use Rattle.std.proofs.lemmas.List.{get_or_read}
use Rattle.block_index.specs.Edit.{Edits}
use Rattle.block_index.proofs.Halves.{edits_grown, edits_split}
use Rattle.block_index.proofs.Parts.{filled_at}
use Rattle.block_index.proofs.group.Group.put_in.Goals as goal

pub returns-then-len-lt-MOST-clause-ok : goal.returns-then-len-lt-MOST-clause-ok
returns-then-len-lt-MOST-clause-ok g c =
    let items = c.self.inside.blocks.items in
    let li : c.args.block < length items = subst (λ l. c.args.block < length l) (sym c.self.view_is) c.requires.inside in
    let within : c.args.at ≤ length (get_or items c.args.block []) = subst (λ l. c.args.at ≤ length (get_or l c.args.block [])) (sym c.self.view_is) c.requires.within in
    let same = ap length (get_or_read items c.args.block c.index.result.now li c.index.ensures []) in
    subst (λ l. Edits l (set items c.args.block c.insert.new.self) c.args.block (insert (get_or l c.args.block []) c.args.at c.args.key)) c.self.view_is
    (edits_grown items c.args.block c.args.at c.args.key c.index_mut.result.now c.insert.new.self li c.index_mut.ensures.value (omega arith) within c.in_ok-insert.ensures.ok)

pub insert-requires-clause-some : goal.insert-requires-clause-some
insert-requires-clause-some g c =
    let items = c.self.inside.blocks.items in
    let li : c.args.block < length items = subst (λ l. c.args.block < length l) (sym c.self.view_is) c.requires.inside in
    let same = ap length (get_or_read items c.args.block c.index_mut.result.now li c.index_mut.ensures.value []) in
    let at = ap (λ l. length (get_or l c.args.block [])) c.self.view_is in
    let some = (filled_at c.args.self.now c.args.block c.requires.inside c.requires.filled).0 in
    omega arith

pub halves-requires-clause-full : goal.halves-requires-clause-full
halves-requires-clause-full g c =
    let items = c.self.inside.blocks.items in
    let li : c.args.block < length items = subst (λ l. c.args.block < length l) (sym c.self.view_is) c.requires.inside in
    let one = ap length (get_or_read items c.args.block c.index.result.now li c.index.ensures []) in
    let two = ap length (get_or_read items c.args.block c.index-2.result.now li c.index-2.ensures []) in
    let at = ap (λ l. length (get_or l c.args.block [])) c.self.view_is in
    let most = (filled_at c.args.self.now c.args.block c.requires.inside c.requires.filled).1 in
    omega arith

pub halves-requires-clause-within : goal.halves-requires-clause-within
halves-requires-clause-within g c =
    let most = (filled_at c.args.self.now c.args.block c.requires.inside c.requires.filled).1 in
    let within = c.requires.within in
    omega arith

pub returns-clause-ok : goal.returns-clause-ok
returns-clause-ok g c =
    let items = c.self.inside.blocks.items in
    let li : c.args.block < length items = subst (λ l. c.args.block < length l) (sym c.self.view_is) c.requires.inside in
    subst (λ l. Edits l (set c.insert-2.new.self.items c.args.block c.in_ok-low.field-0.low) c.args.block (insert (get_or l c.args.block []) c.args.at c.args.key)) c.self.view_is
    (edits_split items c.insert-2.new.self.items c.args.block c.args.at c.args.key c.index-2.result.now c.in_ok-low.field-0.low c.in_ok-low.field-0.high li c.index-2.ensures c.in_ok-low.ensures.low c.in_ok-low.ensures.high c.in_ok-low.ensures.keys c.in_ok-insert-2.ensures.items)
