-- An id from 1 is read back in either namespace.
use Rattle.std.proofs.Common.{arith}
use Rattle.entity_model.specs.EntityId.{id_text}
use Rattle.page_parts.proofs.TermHomes.{entity_id, no_id, other_name, statement_id}
use Rattle.page_parts.proofs.homes.home_of_id.Goals as goal

pub returns-then-id-eq0 : goal.returns-then-id-eq0
returns-then-id-eq0 c = no_id c.args.prefix c.args.id (omega (arith, c.if-id-eq0.true))

pub returns-in-Wd : goal.returns-in-Wd
returns-in-Wd c = rw c.in-Wd.is (entity_id c.args.id (omega (arith, c.if-id-eq0.false), omega arith))

pub returns-in-Wds : goal.returns-in-Wds
returns-in-Wds c = rw c.in-Wds.is (statement_id c.args.id (omega (arith, c.if-id-eq0.false), omega arith))

pub returns-in_default : goal.returns-in_default
returns-in_default c = other_name c.args.prefix c.in_default.not-Wd c.in_default.not-Wds (id_text c.args.id)
