-- What stays counted is named, since all others were listed.
use Rattle.std.proofs.Common.{◌∙◌, ap}
use Rattle.entity_counts.specs.Naming.{unnamed_in}
use Rattle.lean_holdings.specs.InStep.{LeanState}
use Rattle.lean_holdings.proofs.CountedOut.{named_alone}
use Rattle.lean_holdings.proofs.Results.{on_ok_then}
use Rattle.lean_holdings.proofs.holdings.LeanHoldings.count_out_unnamed.Goals as goal

pub returns-clause-out : goal.returns-clause-out
returns-clause-out c =
    on_ok_then
    (named_alone c.args.self.now.names c.count_out_all-counted.new.self.names c.as_slice.result.now (c.as_slice.ensures.value ∙ c.in_ok-ids.ensures ∙ ap (λ (h : LeanState). unnamed_in h.names) c.self.view_is) c.count_out_all-counted.ensures.fewer)
    c.count_out_all-counted.result c.count_out_all-counted.ensures.out
