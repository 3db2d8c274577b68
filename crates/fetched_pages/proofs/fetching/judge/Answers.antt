-- The texts are those of the page, and so is the graph.
use Rattle.fetched_pages.proofs.Fit.{page_of}
use Rattle.fetched_pages.proofs.fetching.judge.Goals as goal

pub returns-in-Ok-clause-meant : goal.returns-in-Ok-clause-meant
returns-in-Ok-clause-meant c =
    page_of c.args.wanted.version c.args.wanted.id c.args.wanted.rev c.args.bytes.items c.from_vec.result c.in-Ok.field-0.triples c.in-Ok.field-0.counts c.in-Ok.field-0.graph c.from_vec.ensures
    (rw c.as_slice.ensures.value at c.in-Ok.ensures.meant) c.in-Ok.ensures.fit (rw c.as_slice.ensures.value at c.in-Ok.ensures.short) (rw c.as_slice.ensures.value at c.in-Ok.ensures.listed)
