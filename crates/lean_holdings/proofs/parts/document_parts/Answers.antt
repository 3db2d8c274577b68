-- The parts are those that are told.
use Rattle.lean_holdings.proofs.parts.document_parts.Goals as goal

pub returns-in-Ok-clause-parts : goal.returns-in-Ok-clause-parts
returns-in-Ok-clause-parts c counted same = record {
  own = c.in-Ok.ensures.parts.own counted same;
  stored = c.in-Ok.ensures.parts.stored counted same;
  fit = c.in-Ok.ensures.parts.fit;
  rising = c.in-Ok.ensures.parts.rising;
  names = c.in-Ok.ensures.parts.names;
}
