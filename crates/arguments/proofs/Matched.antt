-- What is read from matches, by the values that they have.
use Rattle.std.proofs.Common.{◌≡◌, ◌∙◌, refl, ap, ℕ, Bool, true, false, List, Option, Some, None, option_map, is_some, codes, Bor}
use Rattle.clap.specs.declared.parser.matches.ArgMatches.{ArgMatches}
use Rattle.clap.specs.Matches.{first_value, found_of, one_text}
use Rattle.clap.proofs.WalkLemmas.{first_value-rows, one_text-rows}
use Rattle.arguments.specs.declared.items.Values.TheVariants.{Matched}
use Rattle.arguments.specs.declared.table.Command.{Command}
use Rattle.arguments.specs.declared.table.ValueKind.TheVariants.{Flag}
use Rattle.arguments.specs.Items.{is_there, value_in}
use Rattle.arguments.specs.Matching.{AreReadable, flag_text, items_in}
use Rattle.arguments.specs.Table.{has_value, kind_in, table_of}

mapped : (o : Option (Bor (List ℕ))) → is_some o ≡ is_some (option_map (λ v. v.now) o)
mapped None = refl
mapped (Some v) = refl

-- a flag is read from its text
flag_again : (flag now : Bool) (text : Option (List ℕ)) → text ≡ Some (flag_text flag) → (text ≡ Some (codes "true") → now ≡ true) → (text ≡ Some (codes "false") → now ≡ false) → now ≡ flag
flag_again true now text is set unset = set is
flag_again false now text is set unset = unset is

module _ (command : Command) (m : ArgMatches) (name : List ℕ) (readable : AreReadable command (Matched m)) where
  pub text_read : has_value (kind_in (table_of command) name) ≡ true → first_value (found_of m) name ≡ value_in name (items_in command (Matched m))
  text_read takes = first_value-rows (found_of m) name ∙ (readable.texts name takes).0

  pub there_read : (given : Option (Bor (List ℕ))) → option_map (λ v. v.now) given ≡ first_value (found_of m) name → has_value (kind_in (table_of command) name) ≡ true
      → is_some given ≡ is_there name (items_in command (Matched m))
  there_read given is takes = mapped given ∙ ap is_some (is ∙ text_read takes) ∙ (readable.texts name takes).1

  pub flag_read : (now : Bool) → kind_in (table_of command) name ≡ Some Flag → (one_text (found_of m) name ≡ Some (codes "true") → now ≡ true)
      → (one_text (found_of m) name ≡ Some (codes "false") → now ≡ false) → now ≡ is_there name (items_in command (Matched m))
  flag_read now is set unset = flag_again (is_there name (items_in command (Matched m))) now (one_text (found_of m) name) (one_text-rows (found_of m) name ∙ readable.flags name is) set unset
