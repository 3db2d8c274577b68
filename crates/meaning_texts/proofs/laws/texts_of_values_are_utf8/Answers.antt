-- By the grammar's cases.
use Rattle.meaning_texts.proofs.Read.{text_utf8}
use Rattle.meaning_texts.proofs.laws.texts_of_values_are_utf8.Goals as goal

pub returns : goal.returns
returns c = text_utf8
