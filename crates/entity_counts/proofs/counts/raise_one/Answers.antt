-- The number is written through.
use Rattle.std.proofs.Common.{◌+◌, Some, None, refl, sym, ◌∙◌, ap, is_some, unwrap_or, true≢false, arith}
use Rattle.entity_counts.proofs.Written.{found, written_more, written_same}
use Rattle.entity_counts.proofs.counts.raise_one.Goals as goal

pub overflow_add-count : goal.overflow_add-count
overflow_add-count c = omega (arith, c.requires.few, ap (λ v. unwrap_or v 0) (found c.args.id c.args.pages.now.entries (Some c.in-Some.count.now) c.in-Some.ensures.value))

pub returns-in-Some-clause-pages : goal.returns-in-Some-clause-pages
returns-in-Some-clause-pages c =
    let wrote = (c.get_mut.follows.holds (c.in-Some.count.now + 1)).3 (sym (ap is_some c.in-Some.ensures.value)) in
    written_more c.args.id c.in-Some.count.now (c.in-Some.count.now + 1) c.args.pages.now.entries _ c.in-Some.ensures.value wrote.0 refl

pub returns-in-Some-clause-same : goal.returns-in-Some-clause-same
returns-in-Some-clause-same c =
    let wrote = (c.get_mut.follows.holds (c.in-Some.count.now + 1)).3 (sym (ap is_some c.in-Some.ensures.value)) in
    written_same c.args.id c.in-Some.count.now (c.in-Some.count.now + 1) c.args.pages.now.entries _ c.in-Some.ensures.value wrote.0

pub returns-in_default-clause-pages : goal.returns-in_default-clause-pages
returns-in_default-clause-pages c = absurd (true≢false (sym c.requires.counted ∙ ap is_some (found c.args.id c.args.pages.now.entries None c.in_default.ensures.value)))
