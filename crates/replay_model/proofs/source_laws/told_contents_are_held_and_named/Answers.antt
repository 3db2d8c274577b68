-- Each application keeps what the source tells.
use Rattle.replay_model.proofs.ToldContents.{held-told, entries-told}
use Rattle.replay_model.proofs.source_laws.told_contents_are_held_and_named.Goals as goal

pub returns-clause-held : goal.returns-clause-held
returns-clause-held c = held-told

pub returns-clause-entries : goal.returns-clause-entries
returns-clause-entries c = entries-told
