-- Each is an instance of the clause.
use Rattle.std.proofs.Common.{refl}
use Rattle.arguments.specs.declared.plan.Plan.TheVariants.{Patches, Replay, Split}
use Rattle.session_laws.proofs.plans.plans_end_as_their_runs.Goals as goal

pub returns-clause-replay : goal.returns-clause-replay
returns-clause-replay c = λ words contents stopped before now ends choices plan without. (ends (Replay choices) plan _ refl).begun without

pub returns-clause-resumed : goal.returns-clause-resumed
returns-clause-resumed c = λ words contents stopped before now ends choices plan some. (ends (Replay choices) plan _ refl).resumed some

pub returns-clause-patches : goal.returns-clause-patches
returns-clause-patches c = λ words contents stopped before now ends choices plan without. (ends (Patches choices) plan _ refl).begun without

pub returns-clause-resumed_patches : goal.returns-clause-resumed_patches
returns-clause-resumed_patches c = λ words contents stopped before now ends choices plan some. (ends (Patches choices) plan _ refl).resumed some

pub returns-clause-split : goal.returns-clause-split
returns-clause-split c = λ words contents stopped before now ends choices plan routes are without. (ends (Split choices) plan _ (record { routes = routes; are = are; is = refl })).begun without

pub returns-clause-resumed_split : goal.returns-clause-resumed_split
returns-clause-resumed_split c = λ words contents stopped before now ends choices plan routes are some. (ends (Split choices) plan _ (record { routes = routes; are = are; is = refl })).resumed some
