-- What a replay, a drill and a follower leave, by the plan that the arguments are.
use Rattle.std.proofs.Common.{◌≡◌, refl, subst, true, is_some, Option, None, Some, IfSome}
use Rattle.following.specs.{Following.FollowMoment, Reading.TakesLinesByNeed}
use Rattle.arguments.specs.{Options.FollowChoices, Options.follow_max_bytes_of, declared.plan.Plan.Plan}
use Rattle.run_model.specs.{declared.status.Status.Status, declared.stop.Stop.Stop, Stop.stop_of}
use Rattle.session.specs.Plans.{FollowEnding, FollowStopped}

-- what holds of the plan that was read holds of the plan that the arguments are
pub for_plan : (P : Plan → Type 0) (read plan : Plan) → Some read ≡ Some plan → P read → P plan
for_plan P read plan same p =
    let is : read ≡ plan = cc in
    subst P is p

-- a plan that is there
pub plan_there : {P : Type 0} (o : Option Plan) → is_some o ≡ true → ((plan : Plan) → o ≡ Some plan → P) → P
plan_there None never gives = cc
plan_there (Some plan) there gives = gives plan refl

-- a follower that stopped
pub follow_stopped : (status : Status) (stop : Stop) (choices : FollowChoices) (before now : FollowMoment) → stop_of status ≡ Some stop → FollowStopped stop choices before now →
    IfSome before.input.left (λ bytes. TakesLinesByNeed (follow_max_bytes_of choices) bytes now.input.left) → FollowEnding status choices before now
follow_stopped status stop choices before now is stopped taken = record { outcome = rw is stopped; taken = taken }
