-- The number is written through.
use Rattle.std.proofs.Common.{sym, ap, is_some}
use Rattle.entity_counts.proofs.Written.{none_less, written_less, written_same}
use Rattle.entity_counts.proofs.counts.lower_one.Goals as goal

pub returns-in-Some-clause-pages : goal.returns-in-Some-clause-pages
returns-in-Some-clause-pages c =
    let wrote = (c.get_mut.follows.holds c.saturating_sub.result).3 (sym (ap is_some c.in-Some.ensures.value)) in
    written_less c.args.id c.in-Some.count.now c.saturating_sub.result c.args.pages.now.entries _ c.in-Some.ensures.value wrote.0 c.saturating_sub.ensures

pub returns-in-Some-clause-same : goal.returns-in-Some-clause-same
returns-in-Some-clause-same c =
    let wrote = (c.get_mut.follows.holds c.saturating_sub.result).3 (sym (ap is_some c.in-Some.ensures.value)) in
    written_same c.args.id c.in-Some.count.now c.saturating_sub.result c.args.pages.now.entries _ c.in-Some.ensures.value wrote.0

pub returns-in_default-clause-pages : goal.returns-in_default-clause-pages
returns-in_default-clause-pages c = rw c.get_mut.follows.holds-at-none (none_less c.args.id c.args.pages.now.entries c.in_default.ensures.value)
