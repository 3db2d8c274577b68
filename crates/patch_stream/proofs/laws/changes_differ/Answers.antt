-- What is in neither difference is in both or in none.
use Rattle.patch_stream.proofs.Texts.{differs}
use Rattle.patch_stream.proofs.laws.changes_differ.Goals as goal

pub returns : goal.returns
returns c = differs
