-- By the document that the bytes are.
use Rattle.fetched_pages.proofs.Means.{meaning_rules}
use Rattle.fetched_pages.proofs.laws.meaning_is_by_rules.Goals as goal

pub returns : goal.returns
returns c = meaning_rules
