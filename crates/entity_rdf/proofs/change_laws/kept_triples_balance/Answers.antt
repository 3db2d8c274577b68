-- Part by part.
use Rattle.entity_rdf.proofs.Balance.{come_part, gone_part, kept_balance, part_within}
use Rattle.entity_rdf.proofs.change_laws.kept_triples_balance.Goals as goal

pub returns-clause-balance : goal.returns-clause-balance
returns-clause-balance c = kept_balance

pub returns-clause-gone : goal.returns-clause-gone
returns-clause-gone c version x rev old new gone come h = part_within version x rev gone old (gone_part old new gone come h)

pub returns-clause-come : goal.returns-clause-come
returns-clause-come c version x rev old new gone come h = part_within version x rev come new (come_part old new gone come h)
