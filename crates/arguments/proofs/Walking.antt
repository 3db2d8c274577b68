-- The walk of clap over one word for each item, and the values of its matches then.
use Rattle.std.proofs.Common.{◌≡◌, ◌∙◌, ◌&&◌, ◌||◌, ◌==◌, ℕ, Bool, cond, true, false, not, refl, sym, subst, ap, ap₂, List, [], ◌∷◌, ◌++◌, map, drop, Option, Some, None, option_map, is_some, codes, append-nil, append_assoc, true≢false, eqb-true}
use Rattle.std.specs.Prelude.{slice_get, IfSome}
use Rattle.std.specs.List.{AllByRecursion as Each, after_first, before_first, fold}
use Rattle.std.specs.Option.{option_and_then}
use Rattle.std.specs.Str.{bytes_eq}
use Rattle.std.proofs.lemmas.Bool.{and_parts}
use Rattle.std.proofs.lemmas.Slice.Eq.{bytes_eq-Decides}
use Rattle.clap.specs.Lexer.{has_byte, long_of}
use Rattle.clap.specs.declared.builder.value_parser.Reading.TheVariants.{AsWritten}
use Rattle.clap.specs.Walk.{Held, Row, Rule, Step, Text, Walk, after_flag, after_step, arg_by_long, has_row, idle, long_met, long_or_other, row_text, walk_from, walked, with_default}
use Rattle.clap.specs.Simple.{Shape, filled}
use Rattle.clap.specs.Takes.{flag_word_passes, long_passes, step_passes, turn_passes, walk_passes}
use Rattle.arguments.specs.declared.table.ValueKind.{ValueKind}
use Rattle.arguments.specs.declared.table.ValueKind.TheVariants.{Flag, Text as TextKind, Number}
use Rattle.arguments.specs.Grammar.{AreDistinct, words_of_item}
use Rattle.arguments.specs.Items.{Item, is_equals_sign, item, item_named}
use Rattle.arguments.specs.Matching.{HasValues, flag_rule, flag_text, item_of_row, items_matched, joined_words, option_rule, rule_for}
use Rattle.arguments.specs.Table.{Entry, entry, fits, has_value, kind_in}
use Rattle.arguments.proofs.Naming.{after_sign, are_plain, before_none, before_sign, is_plain, kind_plain, same_name}
use Rattle.arguments.proofs.Rows.{default_row, defaults_at, found, found-defaults, given-defaults, given_rows, has_row-append, or_else, use_row, used_new}

-- ---- a word

-- two hyphens, and at least one byte behind them
abbrev pub is_hyphened : List ℕ → Bool
is_hyphened [] = false
is_hyphened (a ∷ []) = false
is_hyphened (a ∷ b ∷ []) = false
is_hyphened (a ∷ b ∷ first ∷ others) = (a == 45) && (b == 45)

record Hyphened (name : List ℕ) : Type 0 where
  first : ℕ
  others : List ℕ
  are : name ≡ 45 ∷ 45 ∷ first ∷ others

hyphened : (name : List ℕ) → is_hyphened name ≡ true → Hyphened name
hyphened [] is = cc
hyphened (a ∷ []) is = cc
hyphened (a ∷ b ∷ []) is = cc
hyphened (a ∷ b ∷ first ∷ others) is =
    let parts = and_parts (a == 45) (b == 45) is in
    record { first = first; others = others; are = ap₂ (λ x y. x ∷ y ∷ first ∷ others) (eqb-true a 45 parts.0) (eqb-true b 45 parts.1) }

has_sign : (name value : List ℕ) → has_byte 61 (name ++ 61 ∷ value) ≡ true
has_sign [] value = refl
has_sign (b ∷ bs) value = by (b == 61) (has_sign bs value)
  where
    by : (t : Bool) → has_byte 61 (bs ++ 61 ∷ value) ≡ true → (t || has_byte 61 (bs ++ 61 ∷ value)) ≡ true
    by true rest = refl
    by false rest = rest

has_none : (name : List ℕ) → is_plain name ≡ true → has_byte 61 name ≡ false
has_none [] plain = refl
has_none (b ∷ bs) plain = by (b == 61) plain (λ rest. has_none bs rest)
  where
    by : (t : Bool) → (not t && is_plain bs) ≡ true → (is_plain bs ≡ true → has_byte 61 bs ≡ false) → (t || has_byte 61 bs) ≡ false
    by true plain rest = cc
    by false plain rest = rest plain

-- a joined word is read as the name and the value, and a name alone as a flag
long_joined : (x : ℕ) (xs value : List ℕ) → is_plain (x ∷ xs) ≡ true → long_of (45 ∷ 45 ∷ x ∷ (xs ++ 61 ∷ value)) ≡ Some (x ∷ xs, Some value)
long_joined x xs value plain =
    let text : List ℕ = x ∷ (xs ++ 61 ∷ value) in
    ap (λ b. Some (before_first is_equals_sign text, cond b (Some (after_first is_equals_sign text)) None)) (has_sign (x ∷ xs) value)
    ∙ ap₂ (λ (n v : List ℕ). Some (n, Some v)) (before_sign (x ∷ xs) value plain) (after_sign (x ∷ xs) value plain)

long_alone : (x : ℕ) (xs : List ℕ) → is_plain (x ∷ xs) ≡ true → long_of (45 ∷ 45 ∷ x ∷ xs) ≡ Some (x ∷ xs, None)
long_alone x xs plain =
    ap (λ b. Some (before_first is_equals_sign (x ∷ xs), cond b (Some (after_first is_equals_sign (x ∷ xs))) None)) (has_none (x ∷ xs) plain)
    ∙ ap (λ (n : List ℕ). Some (n, None)) (before_none (x ∷ xs) plain)

-- ---- the rows

-- the text that a use has as its value
abbrev pub text_given : Option (List ℕ) → List ℕ
text_given None = codes "true"
text_given (Some text) = text

abbrev pub row_of_item : Item → Row
row_of_item i = use_row i.name AsWritten (text_given i.value)

-- between two words, where nothing waits
abbrev pub resting : List Row → Walk
resting rows = walk_from (record { rows = rows; pending = None; skip = 0 })

flipped : (a b : List ℕ) → bytes_eq a b ≡ false → bytes_eq b a ≡ false
flipped a b other = by (bytes_eq b a) refl
  where
    by : (t : Bool) → bytes_eq b a ≡ t → t ≡ false
    by false is = refl
    by true is = absurd (true≢false (sym ((bytes_eq-Decides a b).1 (sym ((bytes_eq-Decides b a).0 is))) ∙ other))

abbrev AreFree : List Row → List Item → Type 0
AreFree rows items = Each (λ (i : Item). has_row i.name rows ≡ false) items

-- after a use the items with other names have no row still
still_free : (i : Item) (rows : List Row) (items : List Item) → AreFree rows items → Each (λ (other : Item). bytes_eq other.name i.name ≡ false) items → AreFree (rows ++ row_of_item i ∷ []) items
still_free i rows [] free apart = tt
still_free i rows (other ∷ items) free apart =
    (has_row-append other.name rows (row_of_item i ∷ []) ∙ ap₂ (λ a b. a || (b || false)) free.0 (flipped other.name i.name apart.0), still_free i rows items free.1 apart.1)

-- ---- one word

module _ (s : Shape) where
  -- a word with two hyphens goes by its long name
  module _ (word : Text) (rows : List Row) where
    abbrev after : Held × Step → Walk
    after met = after_step s.rules word (resting rows) met.0 met.1

    abbrev met_by : Option (Text × Option Text) → Held × Step
    met_by named = long_or_other s.rules idle word named (resting rows).held

    abbrev met_as : Option Text → Option Rule → Held × Step
    met_as value rule = after_flag s.rules idle word (long_met s.rules rule value (resting rows).held).0 (long_met s.rules rule value (resting rows).held).1

    abbrev passes_by : Option (Text × Option Text) → Bool
    passes_by named = flag_word_passes s.rules s.args_override_self named word (resting rows).held && step_passes s 1 (met_by named).0 (met_by named).1

    abbrev passes_as : Option Text → Option Rule → Bool
    passes_as value rule = long_passes s.rules s.args_override_self rule value (resting rows).held && step_passes s 1 (met_as value rule).0 (met_as value rule).1

  -- the word adds this row, and passes
  record Adds (word : Text) (row : Row) (rows : List Row) : Type 0 where
    walks : walked s.rules [] (resting rows) word ≡ resting (rows ++ row ∷ [])
    passes : turn_passes s [] (resting rows) word ≡ true

  value_adds : (x : ℕ) (xs value : List ℕ) (rows : List Row) → is_plain (x ∷ xs) ≡ true
      → arg_by_long s.rules (x ∷ xs) ≡ Some (filled (option_rule (45 ∷ 45 ∷ x ∷ xs) (x ∷ xs))) → has_row (45 ∷ 45 ∷ x ∷ xs) rows ≡ false
      → Adds (45 ∷ 45 ∷ x ∷ (xs ++ 61 ∷ value)) (use_row (45 ∷ 45 ∷ x ∷ xs) AsWritten value) rows
  unfolding walked
  value_adds x xs value rows plain known none =
      let word : Text = 45 ∷ 45 ∷ x ∷ (xs ++ 61 ∷ value) in
      record {
        walks = ap (λ named. after word rows (met_by word rows named)) (long_joined x xs value plain) ∙ ap (λ rule. after word rows (met_as word rows (Some value) rule)) known
            ∙ ap resting (used_new (45 ∷ 45 ∷ x ∷ xs) AsWritten value rows none);
        passes = ap (passes_by word rows) (long_joined x xs value plain) ∙ ap (passes_as word rows (Some value)) known
            ∙ ap (λ b. ((not b || s.args_override_self) && true) && true) none;
      }

  flag_adds : (x : ℕ) (xs : List ℕ) (rows : List Row) → is_plain (x ∷ xs) ≡ true
      → arg_by_long s.rules (x ∷ xs) ≡ Some (filled (flag_rule (45 ∷ 45 ∷ x ∷ xs) (x ∷ xs))) → has_row (45 ∷ 45 ∷ x ∷ xs) rows ≡ false
      → Adds (45 ∷ 45 ∷ x ∷ xs) (use_row (45 ∷ 45 ∷ x ∷ xs) AsWritten (codes "true")) rows
  unfolding walked
  flag_adds x xs rows plain known none =
      let word : Text = 45 ∷ 45 ∷ x ∷ xs in
      record {
        walks = ap (λ named. after word rows (met_by word rows named)) (long_alone x xs plain) ∙ ap (λ rule. after word rows (met_as word rows None rule)) known
            ∙ ap resting (used_new (45 ∷ 45 ∷ x ∷ xs) AsWritten (codes "true") rows none);
        passes = ap (passes_by word rows) (long_alone x xs plain) ∙ ap (passes_as word rows None) known
            ∙ ap (λ b. ((not b || s.args_override_self) && true) && true) none;
      }

-- ---- all words

-- the default of an item: a flag that isn't there is false
abbrev pub default_for : Entry → Option Row
default_for e = cond (has_value (Some e.kind)) None (default_row e.name AsWritten (codes "false" ∷ []))

-- clap has the argument of this item, and its default
abbrev pub KnowsEntry : List Rule → Entry → Type 0
KnowsEntry rules e = (is_hyphened e.name ≡ true) × (arg_by_long rules (drop 2 e.name) ≡ Some (filled (rule_for e))) × (defaults_at e.name rules ≡ default_for e)

-- and so for all items of a table
pub record Knows (rules : List Rule) (table : List Entry) : Type 0 where
  pub entries : Each (KnowsEntry rules) table
  pub plain : are_plain table ≡ true

-- what holds of each entry of a table holds of the one with this name
in_table : (P : Entry → Type 0) (table : List Entry) (name : List ℕ) (kind : ValueKind) → Each P table → kind_in table name ≡ Some kind → P (entry name kind)
in_table P [] name kind each is = cc
in_table P (e ∷ table) name kind each is = by (bytes_eq name e.name) refl (λ later. in_table P table name kind each.1 later) is
  where
    by : (b : Bool) → bytes_eq name e.name ≡ b → (kind_in table name ≡ Some kind → P (entry name kind)) → cond b (Some e.kind) (kind_in table name) ≡ Some kind → P (entry name kind)
    by true same rest is =
        let it : e.kind ≡ kind = cc in
        subst P (ap₂ entry (sym (same_name name e.name same)) it) each.0
    by false other rest is = rest is

module _ (s : Shape) (table : List Entry) (knows : Knows s.rules table) where
  abbrev pub IsFit : Item → Type 0
  IsFit i = fits (kind_in table i.name) i.value ≡ true

  pub record WalksOver (rows : List Row) (words : List Text) (more : List Row) : Type 0 where
    pub walks : fold (walked s.rules []) (resting rows) words ≡ resting (rows ++ more)
    pub passes : walk_passes s [] (resting rows) words ≡ true

  then_word : (word : Text) (row : Row) (rows more : List Row) (words : List Text) → Adds s word row rows → WalksOver (rows ++ row ∷ []) words more → WalksOver rows (word ∷ words) (row ∷ more)
  unfolding walk_passes
  then_word word row rows more words adds rest = record {
    walks = ap (λ w. fold (walked s.rules []) w words) adds.walks ∙ rest.walks ∙ ap resting (append_assoc rows (row ∷ []) more);
    passes = ap₂ (λ a b. a && b) adds.passes (ap (λ w. walk_passes s [] w words) adds.walks ∙ rest.passes);
  }

  -- one item
  abbrev Continues : List ℕ → Option (List ℕ) → List Row → List Text → List Row → Type 0
  Continues name value rows words more = WalksOver (rows ++ row_of_item (item name value) ∷ []) words more
      → WalksOver rows (words_of_item name value true ++ words) (row_of_item (item name value) ∷ more)

  item_walks : (name : List ℕ) (value : Option (List ℕ)) (rows more : List Row) (words : List Text) → fits (kind_in table name) value ≡ true → has_row name rows ≡ false → Continues name value rows words more
  item_walks name value rows more words fit none = by (kind_in table name) refl value fit
    where
      plain_of : (kind : ValueKind) → kind_in table name ≡ Some kind → is_plain name ≡ true
      plain_of kind is = kind_plain table name kind knows.plain is

      known_of : (kind : ValueKind) → kind_in table name ≡ Some kind → arg_by_long s.rules (drop 2 name) ≡ Some (filled (rule_for (entry name kind)))
      known_of kind is = (in_table (KnowsEntry s.rules) table name kind knows.entries is).1

      hyphened_of : (kind : ValueKind) → kind_in table name ≡ Some kind → Hyphened name
      hyphened_of kind is = hyphened name (in_table (KnowsEntry s.rules) table name kind knows.entries is).0

      with_value : (x : ℕ) (xs text : List ℕ) → name ≡ 45 ∷ 45 ∷ x ∷ xs → is_plain name ≡ true
          → arg_by_long s.rules (drop 2 name) ≡ Some (filled (option_rule name (drop 2 name))) → Continues name (Some text) rows words more
      with_value x xs text are = subst
          (λ n. has_row n rows ≡ false → is_plain n ≡ true → arg_by_long s.rules (drop 2 n) ≡ Some (filled (option_rule n (drop 2 n))) → Continues n (Some text) rows words more)
          (sym are)
          (λ none plain known rest. then_word _ _ rows more words (value_adds s x xs text rows plain known none) rest)
          none

      as_flag : (x : ℕ) (xs : List ℕ) → name ≡ 45 ∷ 45 ∷ x ∷ xs → is_plain name ≡ true
          → arg_by_long s.rules (drop 2 name) ≡ Some (filled (flag_rule name (drop 2 name))) → Continues name None rows words more
      as_flag x xs are = subst
          (λ n. has_row n rows ≡ false → is_plain n ≡ true → arg_by_long s.rules (drop 2 n) ≡ Some (filled (flag_rule n (drop 2 n))) → Continues n None rows words more)
          (sym are)
          (λ none plain known rest. then_word _ _ rows more words (flag_adds s x xs rows plain known none) rest)
          none

      by : (kind : Option ValueKind) → kind_in table name ≡ kind → (value : Option (List ℕ)) → fits kind value ≡ true → Continues name value rows words more
      by None is value fit = cc
      by (Some Flag) is (Some text) fit = cc
      by (Some Flag) is None fit = let h = hyphened_of Flag is in as_flag h.first h.others h.are (plain_of Flag is) (known_of Flag is)
      by (Some TextKind) is None fit = cc
      by (Some TextKind) is (Some text) fit = let h = hyphened_of TextKind is in with_value h.first h.others text h.are (plain_of TextKind is) (known_of TextKind is)
      by (Some (Number least greatest)) is None fit = cc
      by (Some (Number least greatest)) is (Some text) fit =
          let h = hyphened_of (Number least greatest) is in
          with_value h.first h.others text h.are (plain_of (Number least greatest) is) (known_of (Number least greatest) is)

  pub items_walk : (items : List Item) (rows : List Row) → Each IsFit items → AreDistinct items → AreFree rows items → WalksOver rows (joined_words items) (map row_of_item items)
  unfolding walk_passes
  items_walk [] rows fit distinct free = record { walks = ap resting (sym (append-nil rows)); passes = refl }
  items_walk (i ∷ items) rows fit distinct free =
      item_walks i.name i.value rows (map row_of_item items) (joined_words items) fit.0 free.0
      (items_walk items (rows ++ row_of_item i ∷ []) fit.1 distinct.1 (still_free i rows items free.1 distinct.0))

  -- ---- the values

  abbrev pub ended : List Item → List Row
  ended items = fold with_default (map row_of_item items) s.rules

  item_again : (name : List ℕ) (value : Option (List ℕ)) → fits (kind_in table name) value ≡ true → item_of_row table (row_of_item (item name value)) ≡ item name value
  item_again name value fit = by (kind_in table name) value fit
    where
      by : (kind : Option ValueKind) (value : Option (List ℕ)) → fits kind value ≡ true → item name (cond (has_value kind) (slice_get (text_given value ∷ []) 0) None) ≡ item name value
      by None value fit = cc
      by (Some Flag) None fit = refl
      by (Some Flag) (Some text) fit = cc
      by (Some TextKind) None fit = cc
      by (Some TextKind) (Some text) fit = refl
      by (Some (Number least greatest)) None fit = cc
      by (Some (Number least greatest)) (Some text) fit = refl

  items_again : (items : List Item) → Each IsFit items → map (item_of_row table) (given_rows (map row_of_item items)) ≡ items
  items_again [] fit = refl
  items_again (i ∷ items) fit = ap₂ (λ (x : Item) (xs : List Item). x ∷ xs) (item_again i.name i.value fit.0) (items_again items fit.1)

  pub matched_items : (items : List Item) → Each IsFit items → items_matched table (ended items) ≡ items
  matched_items items fit = ap (map (item_of_row table)) (given-defaults (map row_of_item items) s.rules) ∙ items_again items fit

  found-items : (name : List ℕ) (items : List Item) → found name (map row_of_item items) ≡ option_map row_of_item (item_named name items)
  found-items name [] = refl
  found-items name (i ∷ items) = by (bytes_eq i.name name) (found-items name items)
    where
      by : (b : Bool) → found name (map row_of_item items) ≡ option_map row_of_item (item_named name items)
          → cond b (Some (row_of_item i)) (found name (map row_of_item items)) ≡ option_map row_of_item (cond b (Some i) (item_named name items))
      by true rest = refl
      by false rest = rest

  named_fits : (name : List ℕ) (items : List Item) → Each IsFit items → IfSome (item_named name items) (λ (i : Item). fits (kind_in table name) i.value ≡ true)
  named_fits name [] fit = tt
  named_fits name (i ∷ items) fit = by (bytes_eq i.name name) refl (named_fits name items fit.1)
    where
      by : (b : Bool) → bytes_eq i.name name ≡ b → IfSome (item_named name items) (λ (i : Item). fits (kind_in table name) i.value ≡ true)
          → IfSome (cond b (Some i) (item_named name items)) (λ (i : Item). fits (kind_in table name) i.value ≡ true)
      by true same rest = ap (λ n. fits (kind_in table n) i.value) (sym (same_name i.name name same)) ∙ fit.0
      by false other rest = rest

  -- the row of a name in the end
  row_at : (name : List ℕ) (items : List Item) → found name (ended items) ≡ or_else (option_map row_of_item (item_named name items)) (defaults_at name s.rules)
  row_at name items = found-defaults name (map row_of_item items) s.rules ∙ ap (λ o. or_else o (defaults_at name s.rules)) (found-items name items)

  default_of : (name : List ℕ) (kind : ValueKind) → kind_in table name ≡ Some kind → defaults_at name s.rules ≡ default_for (entry name kind)
  default_of name kind is = (in_table (KnowsEntry s.rules) table name kind knows.entries is).2

  abbrev first_in : Option Row → Option (List ℕ)
  first_in o = option_and_then (λ (r : Row). slice_get r.values 0) o

  abbrev value_at : Option Item → Option (List ℕ)
  value_at o = option_and_then (λ (i : Item). i.value) o

  texts_at : (kind : Option ValueKind) (o : Option Item) → has_value kind ≡ true → IfSome o (λ (i : Item). fits kind i.value ≡ true)
      → (first_in (or_else (option_map row_of_item o) None) ≡ value_at o) × (is_some (value_at o) ≡ is_some o)
  texts_at kind None takes fit = (refl, refl)
  texts_at kind (Some i) takes fit = by kind i.value takes fit
    where
      by : (kind : Option ValueKind) (value : Option (List ℕ)) → has_value kind ≡ true → fits kind value ≡ true → (Some (text_given value) ≡ value) × (is_some value ≡ true)
      by None value takes fit = cc
      by (Some Flag) value takes fit = cc
      by (Some TextKind) None takes fit = cc
      by (Some TextKind) (Some text) takes fit = (refl, refl)
      by (Some (Number least greatest)) None takes fit = cc
      by (Some (Number least greatest)) (Some text) takes fit = (refl, refl)

  none_at : (kind : Option ValueKind) (o : Option Item) → has_value kind ≡ false → IfSome o (λ (i : Item). fits kind i.value ≡ true) → value_at o ≡ None
  none_at kind None takes fit = refl
  none_at kind (Some i) takes fit = by kind i.value takes fit
    where
      by : (kind : Option ValueKind) (value : Option (List ℕ)) → has_value kind ≡ false → fits kind value ≡ true → value ≡ None
      by None value takes fit = cc
      by (Some Flag) None takes fit = refl
      by (Some Flag) (Some text) takes fit = cc
      by (Some TextKind) value takes fit = cc
      by (Some (Number least greatest)) value takes fit = cc

  flag_at : (name : List ℕ) (o : Option Item) → IfSome o (λ (i : Item). fits (Some Flag) i.value ≡ true)
      → option_and_then row_text (or_else (option_map row_of_item o) (default_row name AsWritten (codes "false" ∷ []))) ≡ Some (flag_text (is_some o))
  flag_at name None fit = refl
  flag_at name (Some i) fit = by i.value fit
    where
      by : (value : Option (List ℕ)) → fits (Some Flag) value ≡ true → Some (text_given value) ≡ Some (codes "true")
      by None fit = refl
      by (Some text) fit = cc

  unknown_at : (o : Option Item) → IfSome o (λ (i : Item). fits None i.value ≡ true) → is_some o ≡ false
  unknown_at None fit = refl
  unknown_at (Some i) fit = cc

  default_none : (kind : Option ValueKind) (name : List ℕ) → kind_in table name ≡ kind → has_value kind ≡ true → defaults_at name s.rules ≡ None
  default_none None name is takes = cc
  default_none (Some Flag) name is takes = cc
  default_none (Some TextKind) name is takes = default_of name TextKind is
  default_none (Some (Number least greatest)) name is takes = default_of name (Number least greatest) is

  pub values_given : (items : List Item) → Each IsFit items → HasValues table (ended items) items
  values_given items fit = record {
    texts = λ name takes.
        let at = texts_at (kind_in table name) (item_named name items) takes (named_fits name items fit) in
        (ap first_in (row_at name items ∙ ap (or_else (option_map row_of_item (item_named name items))) (default_none (kind_in table name) name refl takes)) ∙ at.0, at.1);
    none = λ name takes. none_at (kind_in table name) (item_named name items) takes (named_fits name items fit);
    flags = λ name is.
        ap (option_and_then row_text) (row_at name items ∙ ap (or_else (option_map row_of_item (item_named name items))) (default_of name Flag is))
        ∙ flag_at name (item_named name items) (subst (λ (k : Option ValueKind). IfSome (item_named name items) (λ (i : Item). fits k i.value ≡ true)) is (named_fits name items fit));
    unknown = λ name is. unknown_at (item_named name items) (subst (λ (k : Option ValueKind). IfSome (item_named name items) (λ (i : Item). fits k i.value ≡ true)) is (named_fits name items fit));
  }
