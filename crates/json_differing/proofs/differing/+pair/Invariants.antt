-- The depth falls along the calls. In the loop, the members so far and what is left make those of all.
use Rattle.std.proofs.Common.{◌+◌, ◌*◌, ◌≤◌, length}
use Rattle.json_differing.specs.Readable.{HasMembers, HasMore}
use Rattle.json_differing.proofs.Turning.{Turns}
use Rattle.json_differing.proofs.differing.+pair.Given as goal

abbrev pub decreases-pair_value : goal.decreases-pair_value
decreases-pair_value l = 4 * l.depth + 3

abbrev pub decreases-pair_inside : goal.decreases-pair_inside
decreases-pair_inside l = 4 * l.depth + 2

abbrev pub decreases-pair_members : goal.decreases-pair_members
decreases-pair_members l = 4 * l.depth + 5

abbrev pub decreases-pair_member : goal.decreases-pair_member
decreases-pair_member l = 4 * l.depth + 4

abbrev pub invariant-pair_members-loop-news : goal.invariant-pair_members-loop-news
invariant-pair_members-loop-news l = record {
  turns : HasMembers l.levels l.inside.old.now → Turns l.depth l.levels l.inside l.left l.olds.items l.news.items × HasMore l.levels l.left.old.now;
  no_longer : length l.left.new.now ≤ length l.inside.new.now;
}

abbrev pub decreases-pair_members-loop-news : goal.decreases-pair_members-loop-news
decreases-pair_members-loop-news l = length l.left.new.now
