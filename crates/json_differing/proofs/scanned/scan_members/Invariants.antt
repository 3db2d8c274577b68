-- The members so far and those of what is left make those of all.
use Rattle.std.proofs.Common.{◌≡◌, ◌≤◌, length, map}
use Rattle.std.specs.List.{All}
use Rattle.json_differing.specs.Readable.{HasMembers}
use Rattle.json_spell.specs.Tree.{no_pairs}
use Rattle.json_spell.specs.Reading.{read_map, list_by, add_pair, members_at}
use Rattle.json_differing.specs.Spelled.{IsKnown, spelled_view}
use Rattle.json_spell.proofs.ListSteps.{onto}
use Rattle.json_differing.proofs.scanned.scan_members.Given as goal

abbrev pub invariant-loop-members : goal.invariant-loop-members
invariant-loop-members l = record {
  same : HasMembers l.levels l.bytes → list_by no_pairs 0x7D members_at l.bytes ≡ read_map (onto add_pair (map spelled_view l.members.items)) (members_at l.left);
  known : HasMembers l.levels l.bytes → All IsKnown l.members.items;
  no_longer : length l.left ≤ length l.bytes;
}

abbrev pub decreases-loop-members : goal.decreases-loop-members
decreases-loop-members l = length l.left
