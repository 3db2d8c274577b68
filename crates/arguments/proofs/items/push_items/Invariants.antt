-- What was pushed and the items from here on make all items.
use Rattle.std.proofs.Common.{◌≡◌, ◌++◌, length, map, string_bytes}
use Rattle.arguments.specs.Items.{items_of}
use Rattle.arguments.specs.Matching.{joined_words}
use Rattle.arguments.specs.Table.{table_of}
use Rattle.arguments.proofs.items.push_items.Given as goal

abbrev pub invariant-loop-word : goal.invariant-loop-word
invariant-loop-word l =
    map (λ w. string_bytes w) l.joined.items ++ joined_words (items_of (table_of l.command) (map (λ w. string_bytes w) l.rest))
    ≡ map (λ w. string_bytes w) l.fn.joined.items ++ joined_words (items_of (table_of l.command) (map (λ w. string_bytes w) l.words))

abbrev pub decreases-loop-word : goal.decreases-loop-word
decreases-loop-word l = length l.rest
