-- Each value of the grammar is read, so a text has at most one tree.
use Rattle.std.proofs.Common.{◌≡◌, ℕ, zero, suc, ◌+◌, ◌≤◌, Bool, true, false, not, ◌||◌, ◌==◌, List, [], ◌∷◌, ◌++◌, length, Some, None, ◌⊎◌, inl, inr, ⊎_elim, refl, sym, ap, subst, ◌∙◌, arith, append_assoc, append-nil, length-append}
use Rattle.std.specs.Char.{is_ascii_digit}
use Rattle.std.proofs.lemmas.Bool.Decides.{nat_tests}
use Rattle.json_spell.specs.Tree.{Tree, null, boolean, number, string, array, object, Trees, no_trees, tree, Pairs, no_pairs, pair}
use Rattle.json_spell.specs.Closed.{ends_itself}
use Rattle.json_spell.specs.Number.{is_minus, IsOptional, IsInt, IsNumber}
use Rattle.json_spell.specs.Text.{IsString, all_spelled}
use Rattle.json_spell.specs.Grammar.{is_ws, Spaced, Within, Then, IsValue, AreValues, AreMoreValues, AreMembers, AreMoreMembers, Reads, null_name, true_name, false_name}
use Rattle.json_spell.specs.Reading.{Parse, read_map, skip, after_byte, content_at, literal_at, spaced, list_by, name_at, member_by, add_pair, values, members, number_at, scalar_at, value_by, value, value_at, before}
use Rattle.json_spell.proofs.Opened.{some_is}
use Rattle.json_spell.proofs.Skips.{stops, skip-all, before-append}
use Rattle.json_spell.proofs.Numbers.{in_number, digit1_9-digit, number_at-complete}
use Rattle.json_spell.proofs.ContentSteps.{content_at-complete}
use Rattle.json_spell.proofs.Lists.{Ends, Complete, Next, spaced-sound, spaced-complete, parts-complete, list-empty, list-parts}
use Rattle.json_spell.proofs.Values.{Member}
use Rattle.json_spell.proofs.ValueSteps.{value_at-sound}

-- a number starts with a digit or a minus sign
record Starts (x : List ℕ) : Type 0 where
  first : ℕ
  rest : List ℕ
  is_first : (is_ascii_digit first || is_minus first) ≡ true
  is : x ≡ first ∷ rest

or-left : (a b : Bool) → a ≡ true → (a || b) ≡ true
or-left true b e = refl
or-left false b e = absurd cc

or-right : (a b : Bool) → b ≡ true → (a || b) ≡ true
or-right true b e = refl
or-right false b e = e

int-starts : (m i rest : List ℕ) → IsOptional is_minus m → IsInt i → Starts (m ++ (i ++ rest))
int-starts [] [] rest h int = absurd int
int-starts [] (x ∷ i) rest h int =
    let digit : is_ascii_digit x ≡ true = ⊎_elim (λ z. rw (z.0) refl) (λ d. digit1_9-digit x d.0) int in
    record { first = x; rest = i ++ rest; is_first = or-left (is_ascii_digit x) (is_minus x) digit; is = refl }
int-starts (x ∷ m) i rest h int = record { first = x; rest = m ++ (i ++ rest); is_first = or-right (is_ascii_digit x) (is_minus x) h.0; is = refl }

number-starts : (x : List ℕ) → IsNumber x → Starts x
number-starts x h = subst Starts (sym h.is) (int-starts h.minus h.int (h.frac ++ h.exp) h.optional_minus h.int_holds)

-- which bytes such a start is not
start-none : (x : ℕ) → (is_ascii_digit x || is_minus x) ≡ true → ((x == 0x22) ≡ false) × ((x == 0x5B) ≡ false) × ((x == 0x7B) ≡ false) × ((x == 0x6E) ≡ false) × ((x == 0x74) ≡ false) × ((x == 0x66) ≡ false)
start-none x h = (grind (arith, nat_tests), grind (arith, nat_tests), grind (arith, nat_tests), grind (arith, nat_tests), grind (arith, nat_tests), grind (arith, nat_tests))

-- white space and closing brackets, with which no part of a list starts
abbrev no_start : ℕ → Bool
no_start x = is_ws x || ((x == 0x5D) || (x == 0x7D))

number-start : (x : ℕ) → (is_ascii_digit x || is_minus x) ≡ true → not (no_start x) ≡ true
number-start x h = grind (arith, nat_tests)

value-start : (t : Tree) (x r : List ℕ) → IsValue t x → stops no_start (x ++ r) ≡ true
value-start null x r h = rw h refl
value-start (boolean true) x r h = rw h refl
value-start (boolean false) x r h = rw h refl
value-start (number s) x r h = let n = number-starts x h.1 in rw (n.is) (number-start n.first n.is_first)
value-start (string m) x r h = rw (h.text_is) refl
value-start (array ts) x r h = rw (h.is) refl
value-start (object ps) x r h = rw (h.is) refl

name-start : (m x r : List ℕ) → IsString m x → stops no_start (x ++ r) ≡ true
name-start m x r h = rw (h.text_is) refl

none-of-three : (a b c : Bool) → not (a || (b || c)) ≡ true → (not a ≡ true) × (b ≡ false) × (c ≡ false)
none-of-three false false false e = (refl, refl, refl)
none-of-three true b c e = absurd cc
none-of-three false true c e = absurd cc
none-of-three false false true e = absurd cc

start-no_ws : (s : List ℕ) → stops no_start s ≡ true → stops is_ws s ≡ true
start-no_ws [] e = refl
start-no_ws (x ∷ s) e = (none-of-three (is_ws x) (x == 0x5D) (x == 0x7D) e).0

start-no_bracket : (s : List ℕ) → stops no_start s ≡ true → after_byte 0x5D s ≡ None
start-no_bracket [] e = refl
start-no_bracket (x ∷ s) e = rw ((none-of-three (is_ws x) (x == 0x5D) (x == 0x7D) e).1) refl

start-no_brace : (s : List ℕ) → stops no_start s ≡ true → after_byte 0x7D s ≡ None
start-no_brace [] e = refl
start-no_brace (x ∷ s) e = rw ((none-of-three (is_ws x) (x == 0x5D) (x == 0x7D) e).2) refl

-- so where such a part stands, its first byte comes after the white space
spaced-start : (P : List ℕ → Type 0) → ((x r : List ℕ) → P x → stops no_start (x ++ r) ≡ true) → (x r : List ℕ) → Spaced P x → stops no_start (skip is_ws (x ++ r)) ≡ true
spaced-start P starts x r h =
    let whole : x ++ r ≡ h.before ++ (h.inside ++ (h.after ++ r)) = ap (λ q. q ++ r) h.is ∙ simp append_assoc in
    let start = starts h.inside (h.after ++ r) h.holds in
    let skipped : skip is_ws (x ++ r) ≡ h.inside ++ (h.after ++ r) =
    ap (skip is_ws) whole ∙ skip-all is_ws h.before (h.inside ++ (h.after ++ r)) h.ws_before (start-no_ws (h.inside ++ (h.after ++ r)) start) in
    rw skipped start

-- names and members
content-complete : (m x r : List ℕ) (h : IsString m x) → content_at (all_spelled h.chars ++ 0x22 ∷ r) ≡ Some (m, r)
content-complete m x r h = content_at-complete h.chars r h.are_chars ∙ ap (λ q. Some (q, r)) (sym h.content_is)

string-text : (m x r : List ℕ) (h : IsString m x) → x ++ r ≡ 0x22 ∷ (all_spelled h.chars ++ 0x22 ∷ r)
string-text m x r h = ap (λ q. q ++ r) h.text_is ∙ simp append_assoc

name-complete : (bound : ℕ) → Complete name_at IsString (λ r. stops in_number r ≡ true) bound
name-complete bound m x r h ends short =
    ap name_at (string-text m x r h) ∙ content-complete m x r h

spaced_value-complete : (part : Parse Tree) (bound : ℕ) → Complete part IsValue (λ r. stops in_number r ≡ true) bound → Complete (spaced part) (λ t. Spaced (IsValue t)) Ends bound
spaced_value-complete part bound complete = spaced-complete part IsValue bound (λ t x r h. start-no_ws (x ++ r) (value-start t x r h)) complete

member-complete : (part : Parse Tree) (bound : ℕ) → Complete part IsValue (λ r. stops in_number r ≡ true) bound → Complete (member_by part) Member Ends bound
member-complete part bound complete p x r h ends short =
    let body = h.then_holds in
    let whole : x ++ r ≡ h.first ++ 0x3A ∷ (body.rest ++ r) = ap (λ q. q ++ r) (h.is ∙ ap (λ q. h.first ++ q) body.is) ∙ simp append_assoc in
    let long : length x ≡ length h.first + suc (length body.rest) = ap length (h.is ∙ ap (λ q. h.first ++ q) body.is) ∙ length-append h.first (0x3A ∷ body.rest) in
    let name = spaced-complete name_at IsString bound (λ m x r h. start-no_ws (x ++ r) (name-start m x r h)) (name-complete bound) p.0 h.first (0x3A ∷ (body.rest ++ r)) h.holds (refl, refl) (omega arith) in
    let inner = spaced_value-complete part bound complete p.1 body.rest r body.holds ends (omega arith) in
    rw (whole, name, inner) refl

-- lists in their brackets
values-cases : (l : Trees) (x : List ℕ) → AreMoreValues l x → ((l ≡ no_trees) × (x ≡ [])) ⊎ Next tree no_trees 0x5D (λ t. Spaced (IsValue t)) AreMoreValues l x
values-cases no_trees x h = inl (refl, h)
values-cases (tree t ts) x h = inr (record { head = t; tail = ts; is_cons = refl; holds = h })

members-cases : (l : Pairs) (x : List ℕ) → AreMoreMembers l x → ((l ≡ no_pairs) × (x ≡ [])) ⊎ Next add_pair no_pairs 0x7D Member AreMoreMembers l x
members-cases no_pairs x h = inl (refl, h)
members-cases (pair k t ps) x h = inr (record { head = (k, t); tail = ps; is_cons = refl; holds = h })

-- literal names and numbers
scalar-null : (r : List ℕ) → scalar_at (null_name ++ r) ≡ Some (null, r)
unfolding scalar_at literal_at
scalar-null r = refl

scalar-true : (r : List ℕ) → scalar_at (true_name ++ r) ≡ Some (boolean true, r)
unfolding scalar_at literal_at
scalar-true r = refl

scalar-false : (r : List ℕ) → scalar_at (false_name ++ r) ≡ Some (boolean false, r)
unfolding scalar_at literal_at
scalar-false r = refl

no-literal : (x : ℕ) (s : List ℕ) → (x == 0x6E) ≡ false → (x == 0x74) ≡ false → (x == 0x66) ≡ false → literal_at (x ∷ s) ≡ None
unfolding literal_at
no-literal x s n t f = rw (n, t, f) refl

scalar-number : (x : ℕ) (s m r : List ℕ) → (x == 0x6E) ≡ false → (x == 0x74) ≡ false → (x == 0x66) ≡ false → number_at (x ∷ s) ≡ Some (m, r) → scalar_at (x ∷ s) ≡ Some (number m, r)
unfolding scalar_at
scalar-number x s m r n t f e = rw (no-literal x s n t f, e) refl

value_by-scalar : (f : Parse Trees) (g : Parse Pairs) (x : ℕ) (s : List ℕ) → (x == 0x22) ≡ false → (x == 0x5B) ≡ false → (x == 0x7B) ≡ false → value_by f g (x ∷ s) ≡ scalar_at (x ∷ s)
value_by-scalar f g x s a b c = rw (a, b, c) refl

-- a list, where its parts are complete and more are bounded
list-complete : {A L : Type 0} (cons : A → L → L) (none : L) (close : ℕ) (Part : A → List ℕ → Type 0) (More : L → List ℕ → Type 0) (more : Parse L)
    → not (is_ws close) ≡ true → ((a : A) (x r : List ℕ) → Part a x → after_byte close (skip is_ws (x ++ r)) ≡ None)
    → (a : A) (l : L) (x r : List ℕ) → Then (Part a) (More l) x → more (x ++ close ∷ r) ≡ Some (cons a l, r) → list_by none close more (x ++ close ∷ r) ≡ Some (cons a l, r)
list-complete cons none close Part More more no_ws no_close a l x r h e =
    let whole : x ++ close ∷ r ≡ h.first ++ (h.second ++ close ∷ r) = ap (λ q. q ++ close ∷ r) h.is ∙ append_assoc h.first h.second (close ∷ r) in
    list-parts cons none close Part More more (x ++ close ∷ r) (ap (λ q. after_byte close (skip is_ws q)) whole ∙ no_close a h.first (h.second ++ close ∷ r) h.holds) ∙ e

-- the lists of a value reader that is complete up to a bound
array-complete : (part : Parse Tree) (n : ℕ) → Complete part IsValue (λ r. stops in_number r ≡ true) n
    → (l : Trees) (i r : List ℕ) → AreValues l i → length i ≤ n → list_by no_trees 0x5D (values part (suc (suc n))) (i ++ 0x5D ∷ r) ≡ Some (l, r)
array-complete part n complete no_trees i r h short = list-empty tree no_trees 0x5D (λ t. Spaced (IsValue t)) AreMoreValues (values part (suc (suc n))) refl i r h
array-complete part n complete (tree t ts) i r h short =
    list-complete tree no_trees 0x5D (λ t. Spaced (IsValue t)) AreMoreValues (values part (suc (suc n))) refl
    (λ u x q p. start-no_bracket (skip is_ws (x ++ q)) (spaced-start (IsValue u) (value-start u) x q p)) t ts i r h
    (parts-complete tree no_trees 0x5D (λ t. Spaced (IsValue t)) AreMoreValues (spaced part) n (spaced_value-complete part n complete) (λ q. (refl, refl)) refl values-cases (suc (suc n)) t ts i r h short (omega arith))

object-complete : (part : Parse Tree) (n : ℕ) → Complete part IsValue (λ r. stops in_number r ≡ true) n
    → (l : Pairs) (i r : List ℕ) → AreMembers l i → length i ≤ n → list_by no_pairs 0x7D (members part (suc (suc n))) (i ++ 0x7D ∷ r) ≡ Some (l, r)
object-complete part n complete no_pairs i r h short = list-empty add_pair no_pairs 0x7D Member AreMoreMembers (members part (suc (suc n))) refl i r h
object-complete part n complete (pair k t ps) i r h short =
    list-complete add_pair no_pairs 0x7D Member AreMoreMembers (members part (suc (suc n))) refl
    (λ p x q m. start-no_brace (skip is_ws (x ++ q)) (member-start p x q m)) (k, t) ps i r h
    (parts-complete add_pair no_pairs 0x7D Member AreMoreMembers (member_by part) n (member-complete part n complete) (λ q. (refl, refl)) refl members-cases (suc (suc n)) (k, t) ps i r h short (omega arith))
  where
    member-start : (p : List ℕ × Tree) (x q : List ℕ) → Member p x → stops no_start (skip is_ws (x ++ q)) ≡ true
    member-start p x q m =
        let whole : x ++ q ≡ m.first ++ (m.second ++ q) = ap (λ s. s ++ q) m.is ∙ append_assoc m.first m.second q in
        rw whole (spaced-start (IsString p.0) (name-start p.0) m.first (m.second ++ q) m.holds)

-- each kind of value, for any readers of lists that find theirs
number-complete : (f : Parse Trees) (g : Parse Pairs) (s x r : List ℕ) → IsValue (number s) x → stops in_number r ≡ true → value_by f g (x ++ r) ≡ Some (number s, r)
number-complete f g s x r h ends =
    let n = number-starts x h.1 in
    let none = start-none n.first n.is_first in
    let whole : x ++ r ≡ n.first ∷ (n.rest ++ r) = ap (λ q. q ++ r) n.is in
    let found : number_at (n.first ∷ (n.rest ++ r)) ≡ Some (s, r) = ap number_at (sym whole) ∙ number_at-complete x r h.1 ends ∙ ap (λ q. Some (q, r)) h.0 in
    ap (value_by f g) whole ∙ value_by-scalar f g n.first (n.rest ++ r) none.0 none.1 none.2 ∙ scalar-number n.first (n.rest ++ r) s r none.3 none.4 none.5 found

string-complete : (f : Parse Trees) (g : Parse Pairs) (m x r : List ℕ) → IsString m x → value_by f g (x ++ r) ≡ Some (string m, r)
string-complete f g m x r h = ap (value_by f g) (string-text m x r h) ∙ ap (read_map string) (content-complete m x r h)

within-text : (opening closing : ℕ) (P : List ℕ → Type 0) (x r : List ℕ) (h : Within opening closing P x) → x ++ r ≡ opening ∷ (h.inside ++ closing ∷ r)
within-text opening closing P x r h = ap (λ q. q ++ r) h.is ∙ simp append_assoc

within-long : (opening closing : ℕ) (P : List ℕ → Type 0) (x : List ℕ) (h : Within opening closing P x) → length x ≡ length h.inside + 2
within-long opening closing P x h = ap length h.is ∙ omega (arith, length-append h.inside (closing ∷ []))

value-long : (t : Tree) (x : List ℕ) → IsValue t x → 1 ≤ length x
value-long null x h = rw h (omega arith)
value-long (boolean true) x h = rw h (omega arith)
value-long (boolean false) x h = rw h (omega arith)
value-long (number s) x h = let n = number-starts x h.1 in rw (n.is) (omega arith)
value-long (string m) x h = rw (h.text_is) (omega arith)
value-long (array ts) x h = rw (h.is) (omega arith)
value-long (object ps) x h = rw (h.is) (omega arith)

pub value-complete : (n : ℕ) → Complete (value (suc n)) IsValue (λ r. stops in_number r ≡ true) n
unfolding value
value-complete zero t x r h ends short = absurd (omega (arith, value-long t x h))
value-complete (suc n) null x r h ends short = ap (λ q. value (suc (suc n)) (q ++ r)) h ∙ scalar-null r
value-complete (suc n) (boolean true) x r h ends short = ap (λ q. value (suc (suc n)) (q ++ r)) h ∙ scalar-true r
value-complete (suc n) (boolean false) x r h ends short = ap (λ q. value (suc (suc n)) (q ++ r)) h ∙ scalar-false r
value-complete (suc n) (number s) x r h ends short = number-complete (values (value (suc n)) (suc (suc n))) (members (value (suc n)) (suc (suc n))) s x r h ends
value-complete (suc n) (string m) x r h ends short = string-complete (values (value (suc n)) (suc (suc n))) (members (value (suc n)) (suc (suc n))) m x r h
value-complete (suc n) (array ts) x r h ends short =
    ap (value (suc (suc n))) (within-text 0x5B 0x5D (AreValues ts) x r h)
    ∙ ap (read_map array) (array-complete (value (suc n)) n (value-complete n) ts h.inside r h.holds (omega (arith, within-long 0x5B 0x5D (AreValues ts) x h)))
value-complete (suc n) (object ps) x r h ends short =
    ap (value (suc (suc n))) (within-text 0x7B 0x7D (AreMembers ps) x r h)
    ∙ ap (read_map object) (object-complete (value (suc n)) n (value-complete n) ps h.inside r h.holds (omega (arith, within-long 0x7B 0x7D (AreMembers ps) x h)))

pub value_at-complete : (bound : ℕ) → Complete value_at IsValue (λ r. stops in_number r ≡ true) bound
unfolding value_at
value_at-complete bound t x r h ends short = value-complete (length (x ++ r)) t x r h ends (omega (arith, length-append x r))

-- a whole text
pub text-sound : (bytes : List ℕ) (t : Tree) → spaced value_at bytes ≡ Some (t, []) → Reads bytes t
text-sound bytes t e =
    let f = spaced-sound value_at IsValue value_at-sound bytes t [] e in
    subst (Spaced (IsValue t)) (sym (f.is ∙ append-nil f.text)) f.holds

pub text-complete : (bytes : List ℕ) (t : Tree) → Reads bytes t → spaced value_at bytes ≡ Some (t, [])
text-complete bytes t h =
    ap (spaced value_at) (sym (append-nil bytes))
    ∙ spaced_value-complete value_at (length bytes) (value_at-complete (length bytes)) t bytes [] h (refl, refl) (omega arith)

-- a text has at most one tree
pub one_tree : (bytes : List ℕ) (t u : Tree) → Reads bytes t → Reads bytes u → t ≡ u
one_tree bytes t u h k = ap (λ p. p.0) (some_is (sym (text-complete bytes t h) ∙ text-complete bytes u k))

-- what stands in brackets or in quotation marks ends by itself, whatever follows it
pub closed-complete : (n : ℕ) (t : Tree) (x r : List ℕ) → ends_itself t ≡ true → IsValue t x → length x ≤ n → value (suc n) (x ++ r) ≡ Some (t, r)
unfolding value
closed-complete zero t x r closed h short = absurd (omega (arith, value-long t x h))
closed-complete (suc n) null x r closed h short = absurd cc
closed-complete (suc n) (boolean b) x r closed h short = absurd cc
closed-complete (suc n) (number s) x r closed h short = absurd cc
closed-complete (suc n) (string m) x r closed h short = string-complete (values (value (suc n)) (suc (suc n))) (members (value (suc n)) (suc (suc n))) m x r h
closed-complete (suc n) (array ts) x r closed h short =
    ap (value (suc (suc n))) (within-text 0x5B 0x5D (AreValues ts) x r h)
    ∙ ap (read_map array) (array-complete (value (suc n)) n (value-complete n) ts h.inside r h.holds (omega (arith, within-long 0x5B 0x5D (AreValues ts) x h)))
closed-complete (suc n) (object ps) x r closed h short =
    ap (value (suc (suc n))) (within-text 0x7B 0x7D (AreMembers ps) x r h)
    ∙ ap (read_map object) (object-complete (value (suc n)) n (value-complete n) ps h.inside r h.holds (omega (arith, within-long 0x7B 0x7D (AreMembers ps) x h)))

-- so where its text stands, it is read
pub known_value : (t : Tree) (x r : List ℕ) → ends_itself t ≡ true → IsValue t x → value_at (x ++ r) ≡ Some (t, r)
unfolding value_at
known_value t x r closed h = closed-complete (length (x ++ r)) t x r closed h (omega (arith, length-append x r))

-- with white space around it
pub known_spaced : (t : Tree) (x s r : List ℕ) → ends_itself t ≡ true → IsValue t x → skip is_ws s ≡ x ++ r → spaced value_at s ≡ Some (t, skip is_ws r)
known_spaced t x s r closed h e = rw (e, known_value t x r closed h) refl

-- the text of a value that was read is what stands before the rest
pub value_span : (s : List ℕ) (t : Tree) (r : List ℕ) → value_at s ≡ Some (t, r) → IsValue t (before r s) × (s ≡ before r s ++ r)
value_span s t r e =
    let f = value_at-sound s t r e in
    let same : before r s ≡ f.text = ap (before r) f.is ∙ before-append f.text r in
    (subst (λ (q : List ℕ). IsValue t q) (sym same) f.holds, f.is ∙ ap (λ q. q ++ r) (sym same))
