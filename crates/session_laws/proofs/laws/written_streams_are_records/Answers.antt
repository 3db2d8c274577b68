-- The lines of the texts are those of the records.
use Rattle.session_laws.proofs.Followed.{written_records}
use Rattle.session_laws.proofs.laws.written_streams_are_records.Goals as goal

pub returns : goal.returns
returns c = λ run start end first ended bytes limit known bounded within. written_records run start end first ended bytes known bounded limit within
