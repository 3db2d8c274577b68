-- By the grammar's productions.
use Rattle.json_spell.proofs.Utf8Texts.{reads_utf8}
use Rattle.json_spell.proofs.laws.text_is_utf8.Goals as goal

pub returns : goal.returns
returns c = reads_utf8
