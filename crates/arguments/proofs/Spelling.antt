-- Written items are read as these items, and all arguments are those of the items that are read.
use Rattle.std.proofs.Common.{◌≡◌, refl, sym, subst, ◌∙◌, ap, ℕ, ◌<◌, Bool, true, false, cond, not, ◌&&◌, nat_lt, List, [], ◌∷◌, ◌++◌, length, find, get_or, Option, None, Some, is_some, eqb-true}
use Rattle.std.specs.List.{AllByRecursion as Each, position_or_len, before_first, after_first}
use Rattle.std.specs.Option.{option_and_then}
use Rattle.std.specs.Str.{bytes_eq}
use Rattle.std.proofs.lemmas.Bool.{and_parts, ltb-true}
use Rattle.std.proofs.lemmas.List.Sums.{passes_at_first, split_at_first}
use Rattle.arguments.specs.declared.table.ValueKind.{ValueKind}
use Rattle.arguments.specs.declared.table.ValueKind.TheVariants.{Flag, Text, Number}
use Rattle.arguments.specs.Table.{Entry, command_named, commands, name_of, table_of, fits, has_value, kind_in}
use Rattle.arguments.specs.Items.{Item, are_items, is_equals_sign, item, item_named, item_of_word, items_of}
use Rattle.arguments.specs.Plan.{asked, plan_of, understood}
use Rattle.arguments.specs.Grammar.{AreDistinct, IsPlan, Spell, Written, items_in, words_of_item, words_written}
use Rattle.arguments.specs.declared.plan.Plan.{Plan}
use Rattle.arguments.specs.declared.table.Command.{Command}
use Rattle.arguments.specs.declared.table.Command.TheVariants.{Replay as ToReplay, Drill as ToDrill, Patches as ToPatches, Follow as ToFollow, Split as ToSplit}
use Rattle.arguments.proofs.Naming.{are_plain, is_plain, item_alone, item_joined, items_apart, items_whole, joined_unknown, kind_plain, same_name}

abbrev pub IsFit : List Entry → Item → Type 0
IsFit table i = fits (kind_in table i.name) i.value ≡ true

-- ---- one item

abbrev is_read : List Entry → List ℕ → Option (List ℕ) → Bool → List (List ℕ) → Type 0
is_read table name value joined others = items_of table (words_of_item name value joined ++ others) ≡ item name value ∷ items_of table others

module _ (table : List Entry) (plain : are_plain table ≡ true) where
  flag_read : (name : List ℕ) (joined : Bool) (others : List (List ℕ)) → is_plain name ≡ true → has_value (kind_in table name) ≡ false → is_read table name None joined others
  flag_read name joined others alone none =
      items_whole table name others none ∙ ap (λ i. i ∷ items_of table others) (item_alone name alone)

  value_read : (name value : List ℕ) (joined : Bool) (others : List (List ℕ)) → is_plain name ≡ true → has_value (kind_in table name) ≡ true
      → is_read table name (Some value) joined others
  value_read name value false others alone takes = items_apart table name value others takes
  value_read name value true others alone takes =
      items_whole table (name ++ 61 ∷ value) others (ap has_value (joined_unknown table name value plain alone))
      ∙ ap (λ i. i ∷ items_of table others) (item_joined name value alone)

  one_read : (name : List ℕ) (value : Option (List ℕ)) (joined : Bool) (others : List (List ℕ)) → fits (kind_in table name) value ≡ true → is_read table name value joined others
  one_read name value joined others fit = by (kind_in table name) refl value fit
    where
      by : (kind : Option ValueKind) → kind_in table name ≡ kind → (value : Option (List ℕ)) → fits kind value ≡ true → is_read table name value joined others
      by None is value fit = cc
      by (Some Flag) is None fit = flag_read name joined others (kind_plain table name Flag plain is) (ap has_value is)
      by (Some Flag) is (Some text) fit = cc
      by (Some Text) is None fit = cc
      by (Some Text) is (Some text) fit = value_read name text joined others (kind_plain table name Text plain is) (ap has_value is)
      by (Some (Number least greatest)) is None fit = cc
      by (Some (Number least greatest)) is (Some text) fit =
          value_read name text joined others (kind_plain table name (Number least greatest) plain is) (ap has_value is)

  -- ---- all items

  all_read : (written : List Written) → Each (IsFit table) (items_in written) → items_of table (words_written written) ≡ items_in written
  all_read [] fit = refl
  all_read (w ∷ written) fit =
      one_read w.item.name w.item.value w.joined (words_written written) fit.0 ∙ ap (λ is. w.item ∷ is) (all_read written fit.1)

-- an argument is that of the item that it is read as
word_written : (word : List ℕ) → words_of_item (item_of_word word).name (item_of_word word).value true ≡ word ∷ []
word_written word = by (nat_lt (position_or_len is_equals_sign word) (length word)) refl
  where
    by : (b : Bool) → nat_lt (position_or_len is_equals_sign word) (length word) ≡ b →
        (let i = cond b (item (before_first is_equals_sign word) (Some (after_first is_equals_sign word))) (item word None) in words_of_item i.name i.value true ≡ word ∷ [])
    by false none = refl
    by true found =
        let within : position_or_len is_equals_sign word < length word = ltb-true (position_or_len is_equals_sign word) (length word) found in
        let sign : get_or word (position_or_len is_equals_sign word) 0 ≡ 61 = eqb-true (get_or word (position_or_len is_equals_sign word) 0) 61 (passes_at_first is_equals_sign word 0 within) in
        let parts : word ≡ before_first is_equals_sign word ++ 61 ∷ after_first is_equals_sign word =
        split_at_first is_equals_sign word 0 within ∙ ap (λ n. before_first is_equals_sign word ++ n ∷ after_first is_equals_sign word) sign in
        ap (λ w. w ∷ []) (sym parts)

-- the items that arguments are read as, as they are written
record Writes (table : List Entry) (words : List (List ℕ)) : Type 0 where
  written : List Written
  are : words ≡ words_written written
  items : items_in written ≡ items_of table words

write_word : (table : List Entry) (word : List ℕ) (words : List (List ℕ)) → items_of table (word ∷ words) ≡ item_of_word word ∷ items_of table words → Writes table words → Writes table (word ∷ words)
write_word table word words reads others = record {
  written = record { item = item_of_word word; joined = true } ∷ others.written;
  are = ap (λ ws. word ∷ ws) others.are ∙ ap (λ ws. ws ++ words_written others.written) (sym (word_written word));
  items = ap (λ is. item_of_word word ∷ is) others.items ∙ sym reads;
}

write : (table : List Entry) (words : List (List ℕ)) → Writes table words
write table [] = record { written = []; are = refl; items = refl }
write table (word ∷ []) = write_word table word [] refl (record { written = []; are = refl; items = refl })
write table (word ∷ next ∷ others) = by (has_value (kind_in table word)) refl (write table others) (write table (next ∷ others))
  where
    by : (b : Bool) → has_value (kind_in table word) ≡ b → Writes table others → Writes table (next ∷ others) → Writes table (word ∷ next ∷ others)
    by true takes behind after = record {
      written = record { item = item word (Some next); joined = false } ∷ behind.written;
      are = ap (λ ws. word ∷ next ∷ ws) behind.are;
      items = ap (λ is. item word (Some next) ∷ is) behind.items ∙ sym (items_apart table word next others takes);
    }
    by false takes behind after = write_word table word (next ∷ others) (items_whole table word (next ∷ others) takes) after

-- ---- each fits, and no name comes twice

named_apart : (name : List ℕ) (items : List Item) → is_some (item_named name items) ≡ false → Each (λ (other : Item). bytes_eq other.name name ≡ false) items
named_apart name [] none = tt
named_apart name (i ∷ items) none = by (bytes_eq i.name name) refl (λ later. named_apart name items later) none
  where
    by : (b : Bool) → bytes_eq i.name name ≡ b → (is_some (item_named name items) ≡ false → Each (λ (other : Item). bytes_eq other.name name ≡ false) items)
        → is_some (cond b (Some i) (item_named name items)) ≡ false → Each (λ (other : Item). bytes_eq other.name name ≡ false) (i ∷ items)
    by true same rest none = cc
    by false other rest none = (other, rest none)

apart_unnamed : (name : List ℕ) (items : List Item) → Each (λ (other : Item). bytes_eq other.name name ≡ false) items → is_some (item_named name items) ≡ false
apart_unnamed name [] apart = refl
apart_unnamed name (i ∷ items) apart = ap (λ b. is_some (cond b (Some i) (item_named name items))) apart.0 ∙ apart_unnamed name items apart.1

negated : (b : Bool) → not b ≡ true → b ≡ false
negated true is = cc
negated false is = refl

pub items_are : (table : List Entry) (items : List Item) → are_items table items ≡ true → Each (IsFit table) items × AreDistinct items
items_are table [] is = (tt, tt)
items_are table (i ∷ items) is =
    let here = and_parts (fits (kind_in table i.name) i.value) _ is in
    let later = and_parts (not (is_some (item_named i.name items))) (are_items table items) here.1 in
    let rest = items_are table items later.1 in
    ((here.0, rest.0), (named_apart i.name items (negated _ later.0), rest.1))

are_these : (table : List Entry) (items : List Item) → Each (IsFit table) items → AreDistinct items → are_items table items ≡ true
are_these table [] fit distinct = refl
are_these table (i ∷ items) fit distinct =
    ap (λ b. b && (not (is_some (item_named i.name items)) && are_items table items)) fit.0
    ∙ ap (λ b. not b && are_items table items) (apart_unnamed i.name items distinct.0)
    ∙ are_these table items fit.1 distinct.1

-- ---- the arguments that are understood

spelled : (table : List Entry) (words : List (List ℕ)) (items : List Item) → understood table words ≡ Some items → Spell table words items
spelled table words items is = by (are_items table (items_of table words)) refl is
  where
    by : (b : Bool) → are_items table (items_of table words) ≡ b → cond b (Some (items_of table words)) None ≡ Some items → Spell table words items
    by false none is = cc
    by true all is =
        let writes : Writes table words = write table words in
        let same : items_of table words ≡ items = cc in
        let parts = items_are table items (ap (are_items table) (sym same) ∙ all) in
        record { written = writes.written; are = writes.are; items_are = sym (writes.items ∙ same); fit = parts.0; distinct = parts.1 }

pub understood_so : (table : List Entry) → are_plain table ≡ true → (words : List (List ℕ)) (items : List Item) → Spell table words items → understood table words ≡ Some items
understood_so table plain words items spell =
    let fit : Each (IsFit table) (items_in spell.written) = subst (λ is. Each (IsFit table) is) spell.items_are spell.fit in
    let read : items_of table words ≡ items = ap (items_of table) spell.are ∙ all_read table plain spell.written fit ∙ sym spell.items_are in
    let all : are_items table (items_of table words) ≡ true = ap (are_items table) read ∙ are_these table items spell.fit spell.distinct in
    ap (λ b. cond b (Some (items_of table words)) None) all ∙ ap (λ is. Some is) read

-- ---- the plan

record Chained {A B : Type 0} (f : A → Option B) (o : Option A) (y : B) : Type 0 where
  x : A
  there : o ≡ Some x
  is : f x ≡ Some y

chained : {A B : Type 0} (f : A → Option B) (o : Option A) (y : B) → option_and_then f o ≡ Some y → Chained f o y
chained f None y is = cc
chained f (Some x) y is = record { x = x; there = refl; is = is }

-- the argument that names a command is its name
name_is : (word : List ℕ) (list : List Command) (command : Command) → find (λ c. bytes_eq word (name_of c)) list ≡ Some command → word ≡ name_of command
name_is word [] command is = cc
name_is word (first ∷ list) command is = by (bytes_eq word (name_of first)) refl (λ later. name_is word list command later) is
  where
    by : (b : Bool) → bytes_eq word (name_of first) ≡ b → (find (λ c. bytes_eq word (name_of c)) list ≡ Some command → word ≡ name_of command)
        → cond b (Some first) (find (λ c. bytes_eq word (name_of c)) list) ≡ Some command → word ≡ name_of command
    by true same rest is = let it : first ≡ command = cc in same_name word (name_of first) same ∙ ap name_of it
    by false other rest is = rest is

pub named : (command : Command) → command_named (name_of command) ≡ Some command
named ToReplay = refl
named ToDrill = refl
named ToPatches = refl
named ToFollow = refl
named ToSplit = refl

-- no table has a name with `=`
pub plain_tables : (command : Command) → are_plain (table_of command) ≡ true
plain_tables ToReplay = refl
plain_tables ToDrill = refl
plain_tables ToPatches = refl
plain_tables ToFollow = refl
plain_tables ToSplit = refl

pub plan_spelled : (words : List (List ℕ)) (plan : Plan) → plan_of words ≡ Some plan → IsPlan words plan
plan_spelled [] plan is = cc
plan_spelled (word ∷ words) plan is =
    let names = chained (λ command. option_and_then (asked command) (understood (table_of command) words)) (command_named word) plan is in
    let command : Command = names.x in
    let asks = chained (asked command) (understood (table_of command) words) plan names.is in
    record {
      command = command;
      after = words;
      are = ap (λ w. w ∷ words) (name_is word commands command names.there);
      items = asks.x;
      spelled = spelled (table_of command) words asks.x asks.there;
      asks = asks.is;
    }

pub planned : (words : List (List ℕ)) (plan : Plan) → IsPlan words plan → plan_of words ≡ Some plan
planned words plan is =
    ap plan_of is.are
    ∙ ap (option_and_then (λ command. option_and_then (asked command) (understood (table_of command) is.after))) (named is.command)
    ∙ ap (option_and_then (asked is.command)) (understood_so (table_of is.command) (plain_tables is.command) is.after is.items is.spelled)
    ∙ is.asks
