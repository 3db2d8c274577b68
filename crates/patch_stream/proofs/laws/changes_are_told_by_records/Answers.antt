-- The lines are those of the two differences.
use Rattle.patch_stream.proofs.Texts.{told_text}
use Rattle.patch_stream.proofs.laws.changes_are_told_by_records.Goals as goal

pub returns : goal.returns
returns c = told_text
