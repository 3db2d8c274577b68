-- Where nothing changes no triple comes or goes.
use Rattle.lean_holdings.proofs.Ordered.{nothing_told}
use Rattle.lean_holdings.proofs.parts.no_change.Goals as goal

pub returns : goal.returns
returns c triples = record {
  came = nothing_told triples _ _ c.no_lines.ensures c.no_lines-3.ensures;
  gone = nothing_told triples _ _ c.no_lines-2.ensures c.no_lines-4.ensures;
  came_own = record { rising = tt; fit = tt };
  came_stored = record { rising = tt; fit = tt };
  gone_own = record { rising = tt; fit = tt };
  gone_stored = record { rising = tt; fit = tt };
}
