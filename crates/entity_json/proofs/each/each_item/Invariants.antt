-- The items so far and those left make together what all make.
use Rattle.std.proofs.Common.{◌≡◌, map, drop}
use Rattle.json_spell.specs.View.{json_view}
use Rattle.entity_json.specs.Joined.{numbered}
use Rattle.entity_json.specs.Reading.Steps.{steps}
use Rattle.entity_json.proofs.each.each_item.Given as goal

abbrev pub invariant-loop-index : goal.invariant-loop-index
invariant-loop-index g l =
    let read = g.R.ItemReader.reads l.reader in
    steps read (numbered l.index (map json_view (drop l.index l.items))) l.out ≡ steps read (numbered 0 (map json_view l.items)) l.initial.out
