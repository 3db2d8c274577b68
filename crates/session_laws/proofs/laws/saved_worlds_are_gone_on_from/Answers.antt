-- By the laws of the format and of what is loaded.
use Rattle.run_model.specs.{Headline.numbers_saved, Moment.saved_at}
use Rattle.session_laws.proofs.Reloading.{full_for_itself, none_refused, saved_rests, world_in}
use Rattle.run_model.specs.Moment.{limit_of}
use Rattle.world.specs.Limit.{whole}
use Rattle.session_laws.proofs.laws.saved_worlds_are_gone_on_from.Goals as goal

pub returns-clause-lines : goal.returns-clause-lines
returns-clause-lines c = λ h earlier ds run before now stands ending open_still empty fit within later then_before then_now same allowed.
    none_refused h earlier ds run before now stands ending open_still (c.replays_can_be_saved.ensures.at_rest h) empty fit within later then_before then_now same
    (λ n is bad. c.no_line_of_a_saved_world_is_refused.ensures.lines (world_in (whole 0) now.stage) (numbers_saved ending) n is bad)
    (c.snapshots_read_back.ensures.bytes (saved_at now.stage (numbers_saved ending)) (saved_rests h earlier ds run before now stands ending open_still (c.replays_can_be_saved.ensures.at_rest h)) fit)
    allowed

pub returns-clause-room : goal.returns-clause-room
returns-clause-room c = λ h earlier ds run before now stands ending open_still empty fit within later then_before then_now same.
    full_for_itself h earlier ds run before now stands ending open_still (c.replays_can_be_saved.ensures.at_rest h) empty fit within later then_before then_now same
    (λ is over. c.no_line_of_a_saved_world_is_refused.ensures.room (world_in (whole 0) now.stage) (numbers_saved ending) (limit_of later.choices) is over)
