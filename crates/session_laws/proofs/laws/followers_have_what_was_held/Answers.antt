-- All records of the stream were applied, and lead to its union.
use Rattle.session_laws.proofs.Followed.{follower_has}
use Rattle.session_laws.proofs.laws.followers_have_what_was_held.Goals as goal

pub returns : goal.returns
returns c = λ run start end first ended choices before now bytes items followed known are of_stream. follower_has run start end first ended choices before now followed bytes items known are of_stream
