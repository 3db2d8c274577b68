-- Names without `=`: the item of an argument, and the arguments that follow one another.
use Rattle.std.proofs.Common.{◌≡◌, refl, sym, ◌∙◌, ap, ap₂, ℕ, suc, ◌+◌, Bool, true, false, cond, not, ◌&&◌, nat_lt, List, [], ◌∷◌, ◌++◌, length, take, drop, Option, None, Some, arith, append_assoc, true≢false}
use Rattle.std.specs.List.{after_first, before_first, list_all, position_or_len}
use Rattle.std.specs.Str.{bytes_eq}
use Rattle.std.proofs.lemmas.Bool.{and_parts}
use Rattle.std.proofs.lemmas.Bool.Decides.{nat_tests}
use Rattle.std.proofs.lemmas.List.{drop_at, length-append, length_push, take_all, take_at}
use Rattle.std.proofs.lemmas.List.Folds.{list_all-append}
use Rattle.std.proofs.lemmas.Slice.Eq.{bytes_eq-Decides}
use Rattle.arguments.specs.declared.table.ValueKind.{ValueKind}
use Rattle.arguments.specs.Table.{Entry, has_value, kind_in}
use Rattle.arguments.specs.Items.{is_equals_sign, item, item_of_word, items_of}

pub same_name : (name other : List ℕ) → bytes_eq name other ≡ true → name ≡ other
same_name name other is = (bytes_eq-Decides name other).0 is

-- a name without `=`
abbrev pub is_plain : List ℕ → Bool
is_plain name = list_all (λ b. not (is_equals_sign b)) name

-- a table of such names
abbrev pub are_plain : List Entry → Bool
are_plain table = list_all (λ (e : Entry). is_plain e.name) table

-- each name that such a table has is one
pub kind_plain : (table : List Entry) (name : List ℕ) (kind : ValueKind) → are_plain table ≡ true → kind_in table name ≡ Some kind → is_plain name ≡ true
kind_plain [] name kind plain is = cc
kind_plain (e ∷ table) name kind plain is =
    let parts = and_parts (is_plain e.name) (are_plain table) plain in
    by (bytes_eq name e.name) refl parts.0 (λ later. kind_plain table name kind parts.1 later) is
  where
    by : (b : Bool) → bytes_eq name e.name ≡ b → is_plain e.name ≡ true → (kind_in table name ≡ Some kind → is_plain name ≡ true)
        → cond b (Some e.kind) (kind_in table name) ≡ Some kind → is_plain name ≡ true
    by true same here rest is = ap is_plain (same_name name e.name same) ∙ here
    by false other here rest is = rest is

-- a name and a value in one argument aren't in it
not_plain : (name value : List ℕ) → is_plain name ≡ true → is_plain (name ++ 61 ∷ value) ≡ false
not_plain name value plain = list_all-append (λ b. not (is_equals_sign b)) name (61 ∷ value) ∙ ap (λ b. b && false) plain

pub joined_unknown : (table : List Entry) (name value : List ℕ) → are_plain table ≡ true → is_plain name ≡ true → kind_in table (name ++ 61 ∷ value) ≡ None
joined_unknown table name value plain alone = by (kind_in table (name ++ 61 ∷ value)) refl
  where
    by : (found : Option ValueKind) → kind_in table (name ++ 61 ∷ value) ≡ found → found ≡ None
    by None is = refl
    by (Some kind) is = absurd (true≢false (sym (kind_plain table (name ++ 61 ∷ value) kind plain is) ∙ not_plain name value alone))

-- ---- one argument

sign_after : (name value : List ℕ) → is_plain name ≡ true → position_or_len is_equals_sign (name ++ 61 ∷ value) ≡ length name
sign_after [] value plain = refl
sign_after (b ∷ bs) value plain =
    let parts = and_parts (not (is_equals_sign b)) (is_plain bs) plain in
    let more : 1 + length bs ≡ suc (length bs) = omega arith in
    ap (λ t. cond t (1 + position_or_len is_equals_sign (bs ++ 61 ∷ value)) 0) parts.0 ∙ ap (λ n. 1 + n) (sign_after bs value parts.1) ∙ more

no_sign : (name : List ℕ) → is_plain name ≡ true → position_or_len is_equals_sign name ≡ length name
no_sign [] plain = refl
no_sign (b ∷ bs) plain =
    let parts = and_parts (not (is_equals_sign b)) (is_plain bs) plain in
    let more : 1 + length bs ≡ suc (length bs) = omega arith in
    ap (λ t. cond t (1 + position_or_len is_equals_sign bs) 0) parts.0 ∙ ap (λ n. 1 + n) (no_sign bs parts.1) ∙ more

pub item_alone : (name : List ℕ) → is_plain name ≡ true → item_of_word name ≡ item name None
item_alone name plain =
    let at : position_or_len is_equals_sign name ≡ length name = no_sign name plain in
    let past : nat_lt (position_or_len is_equals_sign name) (length name) ≡ false = grind (arith, nat_tests) in
    ap (λ b. cond b (item (before_first is_equals_sign name) (Some (after_first is_equals_sign name))) (item name None)) past

-- what stands before the sign, and behind it
pub before_sign : (name value : List ℕ) → is_plain name ≡ true → before_first is_equals_sign (name ++ 61 ∷ value) ≡ name
before_sign name value plain = ap (λ n. take n (name ++ 61 ∷ value)) (sign_after name value plain) ∙ take_at name (61 ∷ value) (length name) refl

pub after_sign : (name value : List ℕ) → is_plain name ≡ true → after_first is_equals_sign (name ++ 61 ∷ value) ≡ value
after_sign name value plain =
    ap (λ n. drop (n + 1) (name ++ 61 ∷ value)) (sign_after name value plain) ∙ ap (drop (length name + 1)) (sym (append_assoc name (61 ∷ []) value))
    ∙ drop_at (name ++ 61 ∷ []) value (length name + 1) (length_push name 61)

pub before_none : (name : List ℕ) → is_plain name ≡ true → before_first is_equals_sign name ≡ name
before_none name plain = ap (λ n. take n name) (no_sign name plain) ∙ take_all (length name) name (omega arith)

pub item_joined : (name value : List ℕ) → is_plain name ≡ true → item_of_word (name ++ 61 ∷ value) ≡ item name (Some value)
item_joined name value plain =
    let word : List ℕ = name ++ 61 ∷ value in
    let at : position_or_len is_equals_sign word ≡ length name = sign_after name value plain in
    let long : length word ≡ length name + length (61 ∷ value) = length-append name (61 ∷ value) in
    let within : nat_lt (position_or_len is_equals_sign word) (length word) ≡ true = grind (arith, nat_tests) in
    ap (λ b. cond b (item (before_first is_equals_sign word) (Some (after_first is_equals_sign word))) (item word None)) within
    ∙ ap₂ (λ n v. item n (Some v)) (before_sign name value plain) (after_sign name value plain)

-- ---- the arguments that follow

-- a name and its value in the next argument
pub items_apart : (table : List Entry) (word next : List ℕ) (others : List (List ℕ)) → has_value (kind_in table word) ≡ true
    → items_of table (word ∷ next ∷ others) ≡ item word (Some next) ∷ items_of table others
items_apart table word next others takes = ap (λ b. cond b (item word (Some next) ∷ items_of table others) (item_of_word word ∷ items_of table (next ∷ others))) takes

-- an item in one argument
pub items_whole : (table : List Entry) (word : List ℕ) (after : List (List ℕ)) → has_value (kind_in table word) ≡ false
    → items_of table (word ∷ after) ≡ item_of_word word ∷ items_of table after
items_whole table word [] none = refl
items_whole table word (next ∷ others) none = ap (λ b. cond b (item word (Some next) ∷ items_of table others) (item_of_word word ∷ items_of table (next ∷ others))) none
