-- The members so far.
use Rattle.std.proofs.Common.{◌≡◌, map, take}
use Rattle.json_differing.specs.Spelled.{spelled_view}
use Rattle.json_spell.specs.View.{member_view}
use Rattle.json_differing.proofs.own.read_own.Given as goal

abbrev pub invariant-loop-at : goal.invariant-loop-at
invariant-loop-at l = map member_view l.members.items ≡ map spelled_view (take l.at l.spelled)
