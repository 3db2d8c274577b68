-- The bytes left fall along each call. In a loop, the parts read so far and those of what is left make those of all.
use Rattle.std.proofs.Common.{◌≡◌, ◌≤◌, ◌+◌, ◌*◌, length, map}
use Rattle.json_spell.specs.Tree.{no_trees, tree, no_pairs}
use Rattle.json_spell.specs.View.{json_view, member_view, trees_of, pairs_of}
use Rattle.json_spell.specs.Nesting.{AllNest, MembersNest}
use Rattle.json_spell.specs.Reading.{read_map, list_by, add_pair, values_at, members_at}
use Rattle.json_spell.proofs.ListSteps.{onto}
use Rattle.json_reader.proofs.value.+read.Given as goal

abbrev pub decreases-read_ended : goal.decreases-read_ended
decreases-read_ended l = 5 * length l.bytes.now + 1

abbrev pub decreases-read_items : goal.decreases-read_items
decreases-read_items l = 5 * length l.bytes.now + 4

abbrev pub decreases-read_member : goal.decreases-read_member
decreases-read_member l = 5 * length l.bytes.now + 3

abbrev pub decreases-read_members : goal.decreases-read_members
decreases-read_members l = 5 * length l.bytes.now + 4

abbrev pub decreases-read_spaced : goal.decreases-read_spaced
decreases-read_spaced l = 5 * length l.bytes.now + 2

abbrev pub decreases-read_value : goal.decreases-read_value
decreases-read_value l = 5 * length l.bytes.now

abbrev pub invariant-read_items-loop-item : goal.invariant-read_items-loop-item
invariant-read_items-loop-item l = record {
  same : list_by no_trees 0x5D values_at l.bytes ≡ read_map (onto tree (map json_view l.items.items)) (values_at l.left);
  no_longer : length l.left ≤ length l.bytes;
  nest : AllNest l.levels (trees_of (map json_view l.items.items));
}

abbrev pub decreases-read_items-loop-item : goal.decreases-read_items-loop-item
decreases-read_items-loop-item l = length l.left

abbrev pub invariant-read_members-loop-member : goal.invariant-read_members-loop-member
invariant-read_members-loop-member l = record {
  same : list_by no_pairs 0x7D members_at l.bytes ≡ read_map (onto add_pair (map member_view l.members.items)) (members_at l.left);
  no_longer : length l.left ≤ length l.bytes;
  nest : MembersNest l.levels (pairs_of (map member_view l.members.items));
}

abbrev pub decreases-read_members-loop-member : goal.decreases-read_members-loop-member
decreases-read_members-loop-member l = length l.left
