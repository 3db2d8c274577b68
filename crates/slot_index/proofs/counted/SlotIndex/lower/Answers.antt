-- A further owner goes, or the one owner.
use Rattle.std.proofs.Common.{◌==◌, ne_eqb, ◌∙◌, sym, ap, subst, arith}
use Rattle.std.specs.FinMap as map
use Rattle.slot_index.specs.Counts.{count_of, counts_of, lowered}
use Rattle.slot_index.specs.Counted.{IsCounted, with_more}
use Rattle.slot_index.proofs.More.{IsCounted-less, IsCounted-taken, alone, counted_there, len-with_more, one_less, taken}
use Rattle.slot_index.proofs.counted.SlotIndex.lower.Goals as goal

pub invariant_of-self : goal.invariant_of-self
invariant_of-self g c = subst (IsCounted c.self.inside.orders) (sym c.lower.ensures) (IsCounted-less c.self.inside.orders (counts_of c.self.inside.more.entries) c.args.key c.self.invariant)

pub returns-then-owners-gt0-clause-lowered : goal.returns-then-owners-gt0-clause-lowered
returns-then-owners-gt0-clause-lowered g c =
    ap (with_more c.self.inside.orders) c.lower.ensures
    ∙ one_less c.self.inside.orders (counts_of c.self.inside.more.entries) c.args.key (let n = c.owners.ensures in omega arith)
    ∙ ap (λ m. lowered m c.args.key) c.self.view_is

pub invariant_of-self-2 : goal.invariant_of-self-2
invariant_of-self-2 g c =
    subst (λ keys. IsCounted keys (counts_of c.self.inside.more.entries)) (sym c.remove.ensures.keys)
    (IsCounted-taken c.self.inside.orders (counts_of c.self.inside.more.entries) c.args.key c.self.invariant (let n = c.owners.ensures in omega arith))

pub returns-clause-lowered : goal.returns-clause-lowered
returns-clause-lowered g c =
    ap (λ keys. with_more keys (counts_of c.self.inside.more.entries)) c.remove.ensures.keys
    ∙ taken c.self.inside.orders (counts_of c.self.inside.more.entries) c.args.key c.remove.ensures.rising (let n = c.owners.ensures in omega arith)
    ∙ ap (λ m. lowered m c.args.key) c.self.view_is

pub returns-clause-cost : goal.returns-clause-cost
returns-clause-cost g c d below =
    let n = sym (len-with_more c.self.inside.orders (counts_of c.self.inside.more.entries) c.remove.ensures.rising) ∙ ap map.len c.self.view_is in
    c.remove.ensures.cost d (omega arith)

pub returns-then-owners-gt0-clause-answer : goal.returns-then-owners-gt0-clause-answer
returns-then-owners-gt0-clause-answer g c =
    let n = c.owners.ensures in
    let there = counted_there c.self.inside.orders (counts_of c.self.inside.more.entries) c.args.key (c.self.invariant.stored c.args.key (omega arith)) in
    sym (ne_eqb (count_of c.args.self.now c.args.key) 1 (λ e. let same = ap (λ m. count_of m c.args.key) c.self.view_is in omega arith))

pub returns-clause-answer : goal.returns-clause-answer
returns-clause-answer g c =
    let n = c.owners.ensures in
    c.remove.ensures.answer
    ∙ alone c.self.inside.orders (counts_of c.self.inside.more.entries) c.args.key (omega arith)
    ∙ ap (λ m. count_of m c.args.key == 1) c.self.view_is
