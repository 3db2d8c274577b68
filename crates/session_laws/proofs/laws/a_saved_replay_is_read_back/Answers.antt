-- By the laws of the format: a replay of which nothing was closed is at rest.
use Rattle.std.proofs.Common.{◌≡◌, sym, subst, IfSome, List, [], Option, Some, ℕ}
use Rattle.snapshot.specs.File.{saved_in_bytes}
use Rattle.run_model.specs.{Headline.numbers_saved, Moment.horizon_at, Moment.start_of, Moment.saved_at}
use Rattle.session_laws.proofs.{OneRun.first_stands, Reloading.saved_bytes, Reloading.saved_rests}
use Rattle.session_laws.proofs.laws.a_saved_replay_is_read_back.Goals as goal

pub returns-clause-later : goal.returns-clause-later
returns-clause-later c = λ h earlier ds run before now stands ending open_still empty fit.
    subst (λ (o : Option (List ℕ)). IfSome o (λ file. saved_in_bytes file ≡ Some (saved_at now.stage (numbers_saved ending)))) (sym (saved_bytes h earlier ds run before now stands ending open_still (c.replays_can_be_saved.ensures.at_rest h) empty))
    (c.snapshots_read_back.ensures.bytes (saved_at now.stage (numbers_saved ending)) (saved_rests h earlier ds run before now stands ending open_still (c.replays_can_be_saved.ensures.at_rest h)) fit)

pub returns-clause-first : goal.returns-clause-first
returns-clause-first c = λ run before now first ending.
    returns-clause-later c (horizon_at (start_of run before)) ending.replayed.replay.played.replies [] run before now (first_stands (start_of run before) first ending.replayed.replay.played.replies) ending
