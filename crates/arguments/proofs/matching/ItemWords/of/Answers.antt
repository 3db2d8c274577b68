-- One word for each item spells the same plan.
use Rattle.std.proofs.Common.{◌≡◌, ◌∙◌, ◌∷◌, ◌++◌, rules, ap, sym, map, string_bytes, is_some}
use Rattle.std.specs.Option.{option_and_then}
use Rattle.arguments.specs.Items.{items_of}
use Rattle.arguments.specs.Matching.{joined_words}
use Rattle.arguments.specs.Plan.{asked, plan_of, understood}
use Rattle.arguments.specs.Table.{name_of, table_of}
use Rattle.arguments.proofs.Commands.{words_made}
use Rattle.arguments.proofs.matching.ItemWords.of.Goals as goal

pub invariant_of-result : goal.invariant_of-result
invariant_of-result c =
    let read : plan_of (map (λ w. string_bytes w) c.args.words.now) ≡ option_and_then (asked c.in-Some.command) (understood (table_of c.in-Some.command) (map (λ w. string_bytes w) c.in-Some.after.now)) = search rules in
    let are = c.in-Ok.ensures ∙ ap (λ ws. map (λ w. string_bytes w) ws ++ name_of c.in-Some.command ∷ joined_words (items_of (table_of c.in-Some.command) (map (λ w. string_bytes w) c.in-Some.after.now))) c.new-words.ensures.items in
    (words_made c.in-Some.command _ _ (ap is_some (sym read) ∙ c.requires) are).0

pub returns-in-Ok : goal.returns-in-Ok
returns-in-Ok c =
    let read : plan_of (map (λ w. string_bytes w) c.args.words.now) ≡ option_and_then (asked c.in-Some.command) (understood (table_of c.in-Some.command) (map (λ w. string_bytes w) c.in-Some.after.now)) = search rules in
    let are = c.in-Ok.ensures ∙ ap (λ ws. map (λ w. string_bytes w) ws ++ name_of c.in-Some.command ∷ joined_words (items_of (table_of c.in-Some.command) (map (λ w. string_bytes w) c.in-Some.after.now))) c.new-words.ensures.items in
    (words_made c.in-Some.command _ _ (ap is_some (sym read) ∙ c.requires) are).1 ∙ sym read
