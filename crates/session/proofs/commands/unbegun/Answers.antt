-- A drill and a follower that don't begin hold nothing.
use Rattle.std.proofs.Common.{◌≡◌, ◌∙◌, ap, sym, refl, Some}
use Rattle.std.specs.FinMap.{len-empty}
use Rattle.arguments.specs.declared.plan.Plan.TheVariants.{Drill, Follow}
use Rattle.replay_model.specs.Play.{nothing_played}
use Rattle.holders.proofs.Rooming.{nothing_held}
use Rattle.world.specs.Limit.{Limit}
use Rattle.run_model.proofs.FromNothing.{still_nothing}
use Rattle.session.specs.Plans.{IsUnbegun}
use Rattle.session.proofs.Plans.{for_plan}
use Rattle.session.proofs.commands.unbegun.Goals as goal

pub set_limit-requires : goal.set_limit-requires
set_limit-requires c = record { records = rw c.begin_by_first.ensures.replay (len-empty _ _); all = ap (λ (l : Limit). l.lean) c.begin_by_first.ensures.limit ∙ c.requires.lean }

pub set_limit-requires-in-Some-Follow : goal.set_limit-requires-in-Some-Follow
set_limit-requires-in-Some-Follow c = record { records = rw c.requires.world (len-empty _ _); all = c.requires.lean }

pub returns-in-Some-Drill : goal.returns-in-Some-Drill
returns-in-Some-Drill c = λ plan is.
    for_plan (λ x. IsUnbegun x c.args.world c.set_limit.new.self) (Drill c.in-Some-Drill.field-0-0) plan (ap Some (sym c.in-Some-Drill.field-0-is) ∙ c.in-Some-Drill.ensures.value ∙ is)
    (rw c.set_limit.ensures (record {
      begun = λ contents run never. absurd never;
      resumed = λ contents run never. absurd never;
      nothing = still_nothing _ c.begin_by_first.ensures.replay;
      drill = λ size asked. (c.begin_by_first.ensures.first, c.begin_by_first.ensures.replay);
      follow = λ choices never. cc;
      terms = refl;
      whole = λ _. refl;
      held = rw c.begin_by_first.ensures.replay (nothing_held _ nothing_played.records _ (len-empty _ _));
    }))

pub returns-in-Some-Follow : goal.returns-in-Some-Follow
returns-in-Some-Follow c = λ plan is.
    for_plan (λ x. IsUnbegun x c.args.world c.set_limit-in-Some-Follow.new.self) (Follow c.in-Some-Follow.field-0-0) plan (ap Some (sym c.in-Some-Follow.field-0-is) ∙ c.in-Some-Follow.ensures.value ∙ is)
    (rw c.set_limit-in-Some-Follow.ensures (record {
      begun = λ contents run never. absurd never;
      resumed = λ contents run never. absurd never;
      nothing = still_nothing _ c.requires.world;
      drill = λ size never. cc;
      follow = λ choices asked. refl;
      terms = refl;
      whole = λ _. refl;
      held = rw c.requires.world (nothing_held _ nothing_played.records _ (len-empty _ _));
    }))
