-- Their steps are a chain that leads to what is held.
use Rattle.session_laws.proofs.Mirrored.{follower_has, follower_stops}
use Rattle.session_laws.proofs.live.mirrors_have_what_is_held.Goals as goal

pub returns-clause-all : goal.returns-clause-all
returns-clause-all c = λ closed stage numbers steps chain choices before now bytes items followed known are of_stream. follower_has closed stage numbers steps chain choices before now bytes items followed known are of_stream

pub returns-clause-lost : goal.returns-clause-lost
returns-clause-lost c = λ closed stage numbers steps chain choices before now bytes items n followed known are each greatest. follower_stops closed stage numbers steps chain choices before now bytes items followed known are n each greatest
