-- By the namespace.
use Rattle.std.proofs.Common.{◌∙◌}
use Rattle.page_parts.proofs.TermHomes.{entity_name, other_name, statement_name}
use Rattle.page_parts.proofs.homes.home_of_named.Goals as goal

pub returns-in-Wd : goal.returns-in-Wd
returns-in-Wd c = rw c.in-Wd.is (c.home_of_name.ensures ∙ entity_name c.args.name.now)

pub returns-in-Wds : goal.returns-in-Wds
returns-in-Wds c = rw c.in-Wds.is (c.named_id.ensures ∙ statement_name c.args.name.now)

pub returns-in_default : goal.returns-in_default
returns-in_default c = other_name c.args.prefix c.in_default.not-Wd c.in_default.not-Wds c.args.name.now
