-- Without records, triples, pages and names all is in step.
use Rattle.std.proofs.Common.{ap}
use Rattle.entity_state.specs.Tabled.{Tabled}
use Rattle.lean_holdings.specs.declared.kept.LeanPage.{LeanPage}
use Rattle.lean_holdings.proofs.Starting.{started, starts}
use Rattle.lean_holdings.proofs.holdings.LeanHoldings.new.Goals as goal

pub invariant_of-result : goal.invariant_of-result
invariant_of-result c = starts c.in-Ok.store c.in-Ok-new.pages c.new-4.result c.new-5.result c.in_ok-table.table.records c.in-Ok.ensures.sound c.in-Ok.ensures.counts c.in-Ok-new.ensures
    c.new-4.ensures c.new-5.ensures (ap (λ (t : Tabled LeanPage). t.records) c.in_ok-table.ensures)

pub returns : goal.returns
returns c = started c.in-Ok.store c.in-Ok-new.pages c.new-4.result c.new-5.result c.in_ok-table.table.records c.args.limit
    c.new-4.ensures c.new-5.ensures (ap (λ (t : Tabled LeanPage). t.records) c.in_ok-table.ensures) c.in-Ok.ensures.limit
