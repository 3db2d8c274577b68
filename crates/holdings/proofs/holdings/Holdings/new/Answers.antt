-- Without records, triples and texts all is in step.
use Rattle.std.proofs.Common.{ap}
use Rattle.entity_state.specs.Tabled.{Tabled}
use Rattle.holders.specs.Holders.{ByVersion}
use Rattle.holdings.specs.declared.kept.KeptPage.{KeptPage}
use Rattle.holdings.proofs.Starting.{none_by, none_timed, started, starts}
use Rattle.replay_model.specs.Versions.{meaning_by}
use Rattle.fetched_pages.specs.Meaning.{meaning}
use Rattle.holdings.proofs.holdings.Holdings.new.Goals as goal

pub invariant_of-result : goal.invariant_of-result
invariant_of-result c = record {
  kept = starts (meaning_by meaning c.new-3.result.by_two) c.in-Ok.store c.in_ok-table.table.records c.in-Ok.ensures.sound c.in-Ok.ensures.counts c.in-Ok.ensures.beside
      (ap (λ (t : Tabled KeptPage). t.records) c.in_ok-table.ensures);
  by = none_by c.new-3.result c.in_ok-table.table.records c.new-3.ensures (ap (λ (t : Tabled KeptPage). t.records) c.in_ok-table.ensures);
  timed = none_timed c.in-Ok.store c.new-3.result.by_two c.in_ok-table.table.records (ap (λ (t : Tabled KeptPage). t.records) c.in_ok-table.ensures);
}

pub returns : goal.returns
returns c = started c.in-Ok.store c.in_ok-table.table.records c.new-3.result.by_two c.args.limit
    (ap (λ (t : Tabled KeptPage). t.records) c.in_ok-table.ensures) (ap (λ (i : ByVersion). i.by_two) c.new-3.ensures) c.in-Ok.ensures.limit
