-- By the terms that cover the triples.
use Rattle.drill_replay.proofs.{Covered.distinct_covered, Meant.earlier_few, Meant.later_few}
use Rattle.drill_replay.proofs.page_laws.pages_have_few_terms.Goals as goal

pub returns : goal.returns
returns c = record {
  earlier = λ version i rev j small. distinct_covered 27 _ (earlier_few version i rev j small);
  later = λ version i rev j small. distinct_covered 73 _ (later_few version i rev j small);
}
