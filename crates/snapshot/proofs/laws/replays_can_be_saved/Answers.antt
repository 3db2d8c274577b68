use Rattle.std.proofs.Common.{refl}
use Rattle.snapshot.proofs.{ReplaySaved.waiting_by_mark, ReplaySaved.following_at_rest, ReplayFits.following_fits, TakenBack.taken_back}
use Rattle.snapshot.proofs.laws.replays_can_be_saved.Goals as goal

pub returns : goal.returns
returns c = record { fits = following_fits; waiting = waiting_by_mark; at_rest = following_at_rest; unmarked = λ h. refl; marked = λ h m. refl; taken_again = taken_back }
