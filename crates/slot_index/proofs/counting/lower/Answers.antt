-- A count above 1 is written through, and the triple is taken out otherwise.
use Rattle.std.proofs.Common.{◌-◌, Some, ◌∙◌, sym, ap, is_some, arith}
use Rattle.slot_index.specs.Counts.{counts_of, with_count}
use Rattle.slot_index.proofs.Owners.{found, written, taken_out, not_lowered}
use Rattle.slot_index.proofs.Raising.{kept_some}
use Rattle.slot_index.proofs.counting.lower.Goals as goal

pub returns-in-Some : goal.returns-in-Some
returns-in-Some c =
    let is = found c.args.key c.args.counts.now.entries (Some c.in-Some.count.now) c.in-Some.ensures.value in
    let wrote = (c.get_mut.follows.holds (c.in-Some.count.now - 1)).3 (sym (ap is_some c.in-Some.ensures.value)) in
    written c.args.key (c.in-Some.count.now - 1) (Some (c.in-Some.count.now - 1)) c.args.counts.now.entries _ (sym (kept_some (c.in-Some.count.now - 1) (omega arith))) wrote.0
    ∙ ap (λ n. with_count (counts_of c.args.counts.now.entries) c.args.key (n - 1)) (sym is)

pub returns-in-Some-2 : goal.returns-in-Some-2
returns-in-Some-2 c =
    let is = found c.args.key c.args.counts.now.entries (Some c.in-Some.count.now) c.in-Some.ensures.value in
    let wrote = (c.get_mut.follows.holds c.in-Some.count.now).3 (sym (ap is_some c.in-Some.ensures.value)) in
    taken_out c.args.key _ (Some c.in-Some.count.now) c.args.counts.now.entries _ _ (omega (arith, is)) wrote.0 c.remove.ensures.updates.0

pub returns-in-None : goal.returns-in-None
returns-in-None c = rw c.get_mut.follows.holds-at-none (not_lowered c.args.key c.args.counts.now.entries c.in-None.ensures.value)
