-- The entries so far and those of the members left make together what all make. The flags are those of the members left.
use Rattle.std.proofs.Common.{◌≡◌, map, length, reverse}
use Rattle.json_spell.specs.View.{member_view, pairs_of}
use Rattle.entity_json.specs.Maps.{entries, lasts}
use Rattle.entity_json.specs.Reading.Steps.{steps}
use Rattle.entity_json.proofs.each.each_of_many.Given as goal

abbrev pub invariant-loop-left : goal.invariant-loop-left
invariant-loop-left g l =
    let read = g.R.EntryReader.reads l.reader in
    record {
      same : steps read (entries (pairs_of (map member_view l.left))) l.out ≡ steps read (entries (pairs_of (map member_view l.members))) l.initial.out;
      flagged : reverse l.flags.items ≡ lasts (pairs_of (map member_view l.left));
    }

abbrev pub decreases-loop-left : goal.decreases-loop-left
decreases-loop-left g l = length l.left
