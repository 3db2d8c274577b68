-- The members left have the key where all have it.
use Rattle.std.proofs.Common.{◌≡◌, map, length}
use Rattle.json_spell.specs.View.{member_view, pairs_of}
use Rattle.entity_json.specs.Maps.{has_key}
use Rattle.entity_json.proofs.map.has_key.Given as goal

abbrev pub invariant-loop-left : goal.invariant-loop-left
invariant-loop-left l = has_key l.key (pairs_of (map member_view l.left)) ≡ has_key l.key (pairs_of (map member_view l.members))

abbrev pub decreases-loop-left : goal.decreases-loop-left
decreases-loop-left l = length l.left
