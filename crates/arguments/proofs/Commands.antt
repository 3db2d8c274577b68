-- Clap takes one word for each item of a command, and matches these items.
use Rattle.std.proofs.Common.{◌≡◌, ◌∙◌, ◌&&◌, Bool, cond, true, false, refl, sym, subst, ap, ap₂, List, [], ◌∷◌, ◌++◌, map, Some, None}
use Rattle.std.specs.Prelude.{IsSome}
use Rattle.std.specs.Option.{option_and_then}
use Rattle.std.specs.List.{AllByRecursion as Each, list_all}
use Rattle.clap.specs.declared.parser.matches.ArgMatches.{ArgMatches}
use Rattle.clap.specs.Matches.{found_of}
use Rattle.clap.specs.Walk.{Names, Row, Text, Walk, finished, nothing_held, rows_after, rows_of}
use Rattle.clap.specs.Simple.{App, HasMatchesOf, argument_words, built, is_simple, label_of, matches_of}
use Rattle.clap.specs.Takes.{built_takes, default_passes, is_valid, level_passes, settle_passes, takes}
use Rattle.clap.proofs.OnLiterals.{clap_on_literals}
use Rattle.clap.proofs.TakesLemmas.{leaf_takes}
use Rattle.arguments.specs.declared.table.Command.{Command}
use Rattle.arguments.specs.declared.table.Command.TheVariants.{Replay as ToReplay, Drill as ToDrill, Patches as ToPatches, Follow as ToFollow, Split as ToSplit}
use Rattle.arguments.specs.Grammar.{AreDistinct, Written, items_in, words_of_item, words_written}
use Rattle.arguments.specs.Items.{Item, are_items, items_of}
use Rattle.arguments.specs.Matching.{AreItemWords, HasValues, app_for, items_matched, joined_words}
use Rattle.arguments.specs.Plan.{asked, plan_of, understood}
use Rattle.arguments.specs.Table.{Entry, fits, kind_in, name_of, table_of}
use Rattle.arguments.proofs.Naming.{are_plain}
use Rattle.arguments.proofs.Spelling.{items_are, named, plain_tables, understood_so}
use Rattle.arguments.proofs.Walking.{Knows, WalksOver, ended, items_walk, matched_items, resting, row_of_item, values_given}

-- what clap makes of a command
record KnowsCommand (command : Command) : Type 0 where
  simple : is_simple (app_for command) ≡ true
  leaf : (built (app_for command)).subs ≡ []
  behind : (words : List Text) → argument_words (app_for command) (name_of command ∷ words) ≡ words
  ends : (rows : List Row) → (list_all default_passes (built (app_for command)).top.rules && is_valid (built (app_for command)).top rows false) ≡ true
  knows : Knows (built (app_for command)).top.rules (table_of command)

of_replay : KnowsCommand ToReplay
unfolding clap_on_literals
of_replay = record {
  simple = refl;
  leaf = refl;
  behind = λ words. refl;
  ends = λ rows. refl;
  knows = record {
    entries = ((refl, refl, refl), ((refl, refl, refl), ((refl, refl, refl), ((refl, refl, refl), ((refl, refl, refl), ((refl, refl, refl), ((refl, refl, refl), ((refl, refl, refl), ((refl, refl, refl), ((refl, refl, refl), tt))))))))));
    plain = refl;
  };
}

of_drill : KnowsCommand ToDrill
unfolding clap_on_literals
of_drill = record { simple = refl; leaf = refl; behind = λ words. refl; ends = λ rows. refl; knows = record { entries = ((refl, refl, refl), tt); plain = refl } }

of_patches : KnowsCommand ToPatches
unfolding clap_on_literals
of_patches = record {
  simple = refl;
  leaf = refl;
  behind = λ words. refl;
  ends = λ rows. refl;
  knows = record {
    entries = ((refl, refl, refl), ((refl, refl, refl), ((refl, refl, refl), ((refl, refl, refl), ((refl, refl, refl), ((refl, refl, refl), ((refl, refl, refl), ((refl, refl, refl), tt))))))));
    plain = refl;
  };
}

of_follow : KnowsCommand ToFollow
unfolding clap_on_literals
of_follow = record { simple = refl; leaf = refl; behind = λ words. refl; ends = λ rows. refl; knows = record { entries = ((refl, refl, refl), ((refl, refl, refl), tt)); plain = refl } }

of_split : KnowsCommand ToSplit
unfolding clap_on_literals
of_split = record {
  simple = refl;
  leaf = refl;
  behind = λ words. refl;
  ends = λ rows. refl;
  knows = record {
    entries = ((refl, refl, refl), ((refl, refl, refl), ((refl, refl, refl), ((refl, refl, refl), ((refl, refl, refl), ((refl, refl, refl), ((refl, refl, refl), ((refl, refl, refl), tt))))))));
    plain = refl;
  };
}

known : (command : Command) → KnowsCommand command
known ToReplay = of_replay
known ToDrill = of_drill
known ToPatches = of_patches
known ToFollow = of_follow
known ToSplit = of_split

module _ (command : Command) (words : List Text) (are : AreItemWords command words) where
  facts : Each (λ (i : Item). fits (kind_in (table_of command) i.name) i.value ≡ true) are.items × AreDistinct are.items
  facts = items_are (table_of command) are.items are.fit

  none_yet : (items : List Item) → Each (λ (i : Item). false ≡ false) items
  none_yet [] = tt
  none_yet (i ∷ items) = (refl, none_yet items)

  walked_over : WalksOver (built (app_for command)).top (table_of command) (known command).knows [] (joined_words are.items) (map row_of_item are.items)
  walked_over = items_walk (built (app_for command)).top (table_of command) (known command).knows are.items [] facts.0 facts.1 (none_yet are.items)

  level : level_passes (built (app_for command)).top [] nothing_held (joined_words are.items) false ≡ true
  level =
      ap₂ (λ (w : Walk) (b : Bool). b && (settle_passes (built (app_for command)).top.rules (built (app_for command)).top.args_override_self w.held
      && (list_all default_passes (built (app_for command)).top.rules && is_valid (built (app_for command)).top (finished (built (app_for command)).top.rules w.held) false)))
      walked_over.walks walked_over.passes
      ∙ (known command).ends (finished (built (app_for command)).top.rules (resting ([] ++ map row_of_item are.items)).held)

  pub is_taken : takes (app_for command) words ≡ true
  is_taken =
      ap (takes (app_for command)) are.are
      ∙ ap₂ (λ (b : Bool) (ws : List Text). b && built_takes (built (app_for command)) nothing_held ws) (known command).simple ((known command).behind (joined_words are.items))
      ∙ leaf_takes (built (app_for command)) nothing_held (joined_words are.items) (known command).leaf level

  rows : matches_of (app_for command) words ≡ ended (built (app_for command)).top (table_of command) (known command).knows are.items
  rows =
      ap (matches_of (app_for command)) are.are
      ∙ ap₂ (λ (names : Names) (ws : List Text). rows_after (built (app_for command)).top.rules names ws) (ap (map label_of) (known command).leaf) ((known command).behind (joined_words are.items))
      ∙ ap (λ (w : Walk). finished (built (app_for command)).top.rules w.held) walked_over.walks

  pub is_simple_command : is_simple (app_for command) ≡ true
  is_simple_command = (known command).simple

  -- the items that are matched, and their values
  pub matched_are : items_matched (table_of command) (matches_of (app_for command) words) ≡ are.items
  matched_are = ap (items_matched (table_of command)) rows ∙ matched_items (built (app_for command)).top (table_of command) (known command).knows are.items facts.0

  pub values_matched : HasValues (table_of command) (matches_of (app_for command) words) (items_matched (table_of command) (matches_of (app_for command) words))
  values_matched =
      subst (λ items. HasValues (table_of command) (matches_of (app_for command) words) items) (sym matched_are)
      (subst (λ rows. HasValues (table_of command) rows are.items) (sym rows) (values_given (built (app_for command)).top (table_of command) (known command).knows are.items facts.0))

-- ---- what clap answers

module _ (command : Command) (words : List Text) (are : AreItemWords command words) (app : App) (same : app ≡ app_for command) where
  -- clap refuses the words for want of memory alone
  pub taken_by : takes app words ≡ true
  taken_by = ap (λ (a : App). takes a words) same ∙ is_taken command words are

  module _ (m : ArgMatches) (has : HasMatchesOf app words m) where
    rows_by : rows_of (found_of m) ≡ matches_of (app_for command) words
    rows_by = (has (ap is_simple same ∙ is_simple_command command words are)).0 ∙ ap (λ (a : App). matches_of a words) same

    pub items_by : items_matched (table_of command) (rows_of (found_of m)) ≡ are.items
    items_by = ap (items_matched (table_of command)) rows_by ∙ matched_are command words are

    pub values_by : HasValues (table_of command) (rows_of (found_of m)) (items_matched (table_of command) (rows_of (found_of m)))
    values_by = subst (λ rows. HasValues (table_of command) rows (items_matched (table_of command) rows)) (sym rows_by) (values_matched command words are)

-- ---- the plan

abbrev as_written : Item → Written
as_written i = record { item = i; joined = true }

words_same : (items : List Item) → joined_words items ≡ words_written (map as_written items)
words_same [] = refl
words_same (i ∷ items) = ap (λ ws. words_of_item i.name i.value true ++ ws) (words_same items)

items_same : (items : List Item) → items ≡ items_in (map as_written items)
items_same [] = refl
items_same (i ∷ items) = ap (λ is. i ∷ is) (items_same items)

-- one word for each item is what these items are read from
pub understood_again : (table : List Entry) (items : List Item) → are_plain table ≡ true → are_items table items ≡ true → understood table (joined_words items) ≡ Some items
understood_again table items plain fit =
    let parts = items_are table items fit in
    understood_so table plain (joined_words items) items
    (record { written = map as_written items; are = words_same items; items_are = items_same items; fit = parts.0; distinct = parts.1 })

pub planned_again : (command : Command) (words : List Text) (are : AreItemWords command words) → plan_of words ≡ asked command are.items
planned_again command words are =
    ap plan_of are.are
    ∙ ap (option_and_then (λ (k : Command). option_and_then (asked k) (understood (table_of k) (joined_words are.items)))) (named command)
    ∙ ap (option_and_then (asked command)) (understood_again (table_of command) are.items (plain_tables command) are.fit)

-- so these items ask for the plan of the words
pub plan_again : (command : Command) (words : List Text) (are : AreItemWords command words) (k : Command) (items : List Item) → k ≡ command → items ≡ are.items → asked k items ≡ plan_of words
plan_again command words are k items named read = ap₂ asked named read ∙ sym (planned_again command words are)

-- the words of a plan, one for each item
pub words_made : (command : Command) (after words : List Text) → IsSome (option_and_then (asked command) (understood (table_of command) after))
    → words ≡ name_of command ∷ joined_words (items_of (table_of command) after)
    → AreItemWords command words × (plan_of words ≡ option_and_then (asked command) (understood (table_of command) after))
words_made command after words some are = by (are_items (table_of command) (items_of (table_of command) after)) refl some
  where
    items : List Item
    items = items_of (table_of command) after

    by : (b : Bool) → are_items (table_of command) items ≡ b → IsSome (option_and_then (asked command) (cond b (Some items) None))
        → AreItemWords command words × (plan_of words ≡ option_and_then (asked command) (cond (are_items (table_of command) items) (Some items) None))
    by false fit some = cc
    by true fit some =
        let made : AreItemWords command words = record { items = items; are = are; fit = fit } in
        (made, planned_again command words made ∙ ap (λ b. option_and_then (asked command) (cond b (Some items) None)) (sym fit))
