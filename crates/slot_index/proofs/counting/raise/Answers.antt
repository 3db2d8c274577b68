-- A count that is there is written through, and a new one is put in.
use Rattle.std.proofs.Common.{◌+◌, Some, None, ◌∙◌, sym, ap, is_some, arith}
use Rattle.slot_index.specs.Counts.{counts_of, with_count}
use Rattle.slot_index.proofs.Owners.{found, written}
use Rattle.slot_index.proofs.Raising.{kept_some}
use Rattle.slot_index.proofs.counting.raise.Goals as goal

pub overflow_add-count : goal.overflow_add-count
overflow_add-count c = omega (arith, found c.args.key c.args.counts.now.entries (Some c.in-Some.count.now) c.in-Some.ensures.value)

pub returns-in-Some-clause-ok : goal.returns-in-Some-clause-ok
returns-in-Some-clause-ok c =
    let is = found c.args.key c.args.counts.now.entries (Some c.in-Some.count.now) c.in-Some.ensures.value in
    let wrote = (c.get_mut.follows.holds (c.in-Some.count.now + 1)).3 (sym (ap is_some c.in-Some.ensures.value)) in
    written c.args.key (c.in-Some.count.now + 1) (Some (c.in-Some.count.now + 1)) c.args.counts.now.entries _ (sym (kept_some (c.in-Some.count.now + 1) (omega arith))) wrote.0
    ∙ ap (λ n. with_count (counts_of c.args.counts.now.entries) c.args.key (n + 1)) (sym is)

pub returns-in_ok-insert-in-None-clause-ok : goal.returns-in_ok-insert-in-None-clause-ok
returns-in_ok-insert-in-None-clause-ok c =
    let is = found c.args.key c.args.counts.now.entries None c.in-None.ensures.value in
    let wrote = rw c.get_mut.follows.holds-at-none at c.in_ok-insert-in-None.ensures.updates in
    written c.args.key 1 (Some 1) c.args.counts.now.entries _ (sym (kept_some 1 (omega arith))) wrote.0
    ∙ ap (λ n. with_count (counts_of c.args.counts.now.entries) c.args.key (n + 1)) (sym is)
