-- A new store has no triples.
use Rattle.vectors.proofs.Fitting.{first_come}
use Rattle.vectors.proofs.matches.store_of.Goals as goal

pub apply-applied-requires-clause-may_come : goal.apply-applied-requires-clause-may_come
apply-applied-requires-clause-may_come c = first_come c.in-Ok.store c.args.adds c.in-Ok.ensures.counts c.requires
