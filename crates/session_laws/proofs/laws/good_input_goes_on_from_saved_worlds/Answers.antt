-- The snapshot is loaded, and then the input is taken as a good one.
use Rattle.std.proofs.Common.{arith}
use Rattle.run_model.specs.{Moment.behind, Resuming.with_loaded}
use Rattle.session_laws.proofs.Reloading.{goes_on, stopped_of}
use Rattle.session_laws.proofs.laws.good_input_goes_on_from_saved_worlds.Goals as goal

pub returns : goal.returns
returns c = λ h earlier ds run before now stands ending open_still empty fit within short later then_before then_now same allowed room status ended understood bytes items known are still reads writes saves due stale.
    goes_on h earlier ds run before now stands ending open_still (c.replays_can_be_saved.ensures.at_rest h) empty fit within later then_before then_now same short still status
    (c.saved_worlds_are_gone_on_from.ensures.lines h earlier ds run before now stands ending open_still empty fit within later then_before then_now same allowed status ended)
    (λ x is. let over = c.saved_worlds_are_gone_on_from.ensures.room h earlier ds run before now stands ending open_still empty fit within later then_before then_now same status x is in omega (arith, over, room))
    (λ x. c.good_input_is_replayed.ensures (behind x.numbers later) (with_loaded then_before x.rest x.world) then_now status bytes items understood
    (stopped_of status (behind x.numbers later) (with_loaded then_before x.rest x.world) then_now x.ending.outcome) known are reads writes saves due stale)
    ended
