-- A new triple has its first owner in the indexes, and further ones in the counts.
use Rattle.std.proofs.Common.{◌≡◌, eq-eqb, ne_eqb, ◌∙◌, sym, ap, subst, arith}
use Rattle.std.specs.FinMap as map
use Rattle.std.specs.Bool.{OnFalse}
use Rattle.std.proofs.lemmas.Bool.{not-true, not-false}
use Rattle.sorted_sets.specs.Rising.{has}
use Rattle.slot_keys.specs.Keys.{key_cmp}
use Rattle.slot_index.specs.Counts.{count_of, counts_of, raised}
use Rattle.slot_index.specs.Counted.{IsCounted, with_more}
use Rattle.slot_index.proofs.More.{IsCounted-put, IsCounted-more, counted_absent, counted_there, len-with_more, one_more, put_in}
use Rattle.slot_index.proofs.counted.SlotIndex.raise.Goals as goal

pub returns-in_err-insert-clause-cost : goal.returns-in_err-insert-clause-cost
returns-in_err-insert-clause-cost g c d below =
    let n = sym (len-with_more c.self.inside.orders (counts_of c.self.inside.more.entries) c.insert.ensures.rising) ∙ ap map.len c.self.view_is in
    c.insert.ensures.cost d (omega arith)

pub invariant_of-self-then-branch : goal.invariant_of-self-then-branch
invariant_of-self-then-branch g c =
    subst (λ keys. IsCounted keys (counts_of c.self.inside.more.entries)) (sym c.in_ok-insert.ensures.keys)
    (IsCounted-put c.self.inside.orders (counts_of c.self.inside.more.entries) c.args.key c.self.invariant)

pub returns-then-branch-clause-ok : goal.returns-then-branch-clause-ok
returns-then-branch-clause-ok g c =
    ap (λ keys. with_more keys (counts_of c.self.inside.more.entries)) c.in_ok-insert.ensures.keys
    ∙ put_in c.self.inside.orders (counts_of c.self.inside.more.entries) c.args.key c.self.invariant (not-true (has key_cmp c.args.key c.self.inside.orders) (sym c.in_ok-insert.ensures.answer ∙ c.if-branch.true))
    ∙ ap (λ m. raised m c.args.key) c.self.view_is

pub returns-then-branch-clause-cost : goal.returns-then-branch-clause-cost
returns-then-branch-clause-cost g c d below =
    let n = sym (len-with_more c.self.inside.orders (counts_of c.self.inside.more.entries) c.insert.ensures.rising) ∙ ap map.len c.self.view_is in
    c.insert.ensures.cost d (omega arith)

pub returns-in_err-raise-clause-cost : goal.returns-in_err-raise-clause-cost
returns-in_err-raise-clause-cost g c d below =
    let n = sym (len-with_more c.self.inside.orders (counts_of c.self.inside.more.entries) c.insert.ensures.rising) ∙ ap map.len c.self.view_is in
    c.insert.ensures.cost d (omega arith)

pub invariant_of-self-2 : goal.invariant_of-self-2
invariant_of-self-2 g c =
    let there = not-false (has key_cmp c.args.key c.self.inside.orders) (sym c.in_ok-insert.ensures.answer ∙ c.if-branch.false) in
    let still = subst (λ b. OnFalse b (c.insert.new.self ≡ c.self.inside.orders)) c.if-branch.false c.in_ok-insert.ensures.same in
    let count = sym (counted_there c.self.inside.orders (counts_of c.self.inside.more.entries) c.args.key there) ∙ ap (λ m. count_of m c.args.key) c.self.view_is in
    let few = c.requires in
    subst (λ keys. IsCounted keys (counts_of c.raise.new.counts.entries)) (sym still)
    (subst (IsCounted c.self.inside.orders) (sym c.in_ok-raise.ensures.ok)
    (IsCounted-more c.self.inside.orders (counts_of c.self.inside.more.entries) c.args.key c.self.invariant there (omega arith)))

pub returns-clause-ok : goal.returns-clause-ok
returns-clause-ok g c =
    let there = not-false (has key_cmp c.args.key c.self.inside.orders) (sym c.in_ok-insert.ensures.answer ∙ c.if-branch.false) in
    let still = subst (λ b. OnFalse b (c.insert.new.self ≡ c.self.inside.orders)) c.if-branch.false c.in_ok-insert.ensures.same in
    ap (λ keys. with_more keys (counts_of c.raise.new.counts.entries)) still
    ∙ ap (with_more c.self.inside.orders) c.in_ok-raise.ensures.ok
    ∙ one_more c.self.inside.orders (counts_of c.self.inside.more.entries) c.args.key there
    ∙ ap (λ m. raised m c.args.key) c.self.view_is

pub returns-clause-cost : goal.returns-clause-cost
returns-clause-cost g c d below =
    let n = sym (len-with_more c.self.inside.orders (counts_of c.self.inside.more.entries) c.insert.ensures.rising) ∙ ap map.len c.self.view_is in
    c.insert.ensures.cost d (omega arith)

pub returns-then-branch-clause-answer : goal.returns-then-branch-clause-answer
returns-then-branch-clause-answer g c =
    let absent = counted_absent c.self.inside.orders (counts_of c.self.inside.more.entries) c.args.key (not-true (has key_cmp c.args.key c.self.inside.orders) (sym c.in_ok-insert.ensures.answer ∙ c.if-branch.true)) in
    sym (eq-eqb (count_of c.args.self.now c.args.key) 0 (sym (ap (λ m. count_of m c.args.key) c.self.view_is) ∙ absent))

pub returns-clause-answer : goal.returns-clause-answer
returns-clause-answer g c =
    let there = counted_there c.self.inside.orders (counts_of c.self.inside.more.entries) c.args.key (not-false (has key_cmp c.args.key c.self.inside.orders) (sym c.in_ok-insert.ensures.answer ∙ c.if-branch.false)) in
    sym (ne_eqb (count_of c.args.self.now c.args.key) 0 (λ e. let same = ap (λ m. count_of m c.args.key) c.self.view_is in omega arith))
