-- The entries so far and those of the members left make together what all make.
use Rattle.std.proofs.Common.{◌≡◌, map, length}
use Rattle.json_spell.specs.View.{member_view, pairs_of}
use Rattle.entity_json.specs.Maps.{entries}
use Rattle.entity_json.specs.Reading.Steps.{steps}
use Rattle.entity_json.proofs.each.each_of_few.Given as goal

abbrev pub invariant-loop-left : goal.invariant-loop-left
invariant-loop-left g l =
    let read = g.R.EntryReader.reads l.reader in
    steps read (entries (pairs_of (map member_view l.left))) l.out ≡ steps read (entries (pairs_of (map member_view l.members))) l.initial.out

abbrev pub decreases-loop-left : goal.decreases-loop-left
decreases-loop-left g l = length l.left
