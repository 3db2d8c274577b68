-- The items from here on decide what all items do.
use Rattle.std.proofs.Common.{◌≡◌, length, map, string_bytes}
use Rattle.arguments.specs.Items.{item_named, items_of}
use Rattle.arguments.specs.Table.{table_of}
use Rattle.arguments.proofs.items.find_item.Given as goal

abbrev pub invariant-loop-word : goal.invariant-loop-word
invariant-loop-word l =
    item_named l.name (items_of (table_of l.command) (map (λ w. string_bytes w) l.rest))
    ≡ item_named l.name (items_of (table_of l.command) (map (λ w. string_bytes w) l.words))

abbrev pub decreases-loop-word : goal.decreases-loop-word
decreases-loop-word l = length l.rest
