-- The parts of a JSON value whose texts are UTF-8: its texts, numbers, lists and maps.
use Rattle.std.proofs.Common.{◌≡◌, ℕ, ◌+◌, Bool, true, false, cond, List, [], ◌∷◌, Option, Some, None, sym, ap, subst}
use Rattle.std.specs.Prelude.{IfSome}
use Rattle.std.specs.List.{All}
use Rattle.std.specs.Str.{IsUtf8, bytes_eq}
use Rattle.std.proofs.lemmas.List.Elements.{All-nil, All-cons, All-head, All-same}
use Rattle.json_spell.specs.Tree.{Tree, null, boolean, number, string, array, object, Trees, no_trees, tree, Pairs, no_pairs, pair, first_there, last_member, member_of}
use Rattle.json_spell.proofs.Opened.{some_is}
use Rattle.entity_json.specs.Leaves.{◌>>=◌, text_of, number_of, items_of, list_of}
use Rattle.entity_json.specs.Maps.{has_key, entries, map_of, only_value, only_of}
use Rattle.entity_json.specs.Members.{HasOptionalText}
use Rattle.entity_json.specs.Joined.{numbered, One, InList, InOptionalList, InMap}
use Rattle.entity_json.proofs.LightTrees.{joined-all, one-all}
use Rattle.meaning_texts.specs.Trees.{AreUtf8Pairs, AreUtf8Trees, IsUtf8Tree}

-- ---- members

first_utf8 : (first second : Option Tree) → IfSome first IsUtf8Tree → IfSome second IsUtf8Tree → IfSome (first_there first second) IsUtf8Tree
first_utf8 None second a b = b
first_utf8 (Some t) second a b = a

here_utf8 : (b : Bool) (t : Tree) → IsUtf8Tree t → IfSome (cond b (Some t) None) IsUtf8Tree
here_utf8 true t is = is
here_utf8 false t is = tt

last_utf8 : (name : List ℕ) (ps : Pairs) → AreUtf8Pairs ps → IfSome (last_member name ps) IsUtf8Tree
last_utf8 name no_pairs are = tt
last_utf8 name (pair k t ps) are = first_utf8 (last_member name ps) _ (last_utf8 name ps are.2) (here_utf8 (bytes_eq k name) t are.1)

pub member_utf8 : (name : List ℕ) (t : Tree) → IsUtf8Tree t → IfSome (member_of name t) IsUtf8Tree
member_utf8 name null is = tt
member_utf8 name (boolean b) is = tt
member_utf8 name (number s) is = tt
member_utf8 name (string s) is = tt
member_utf8 name (array ts) is = tt
member_utf8 name (object ps) is = last_utf8 name ps is

-- the value of a member that is there
pub at_member : (name : List ℕ) (t u : Tree) → IsUtf8Tree t → member_of name t ≡ Some u → IsUtf8Tree u
at_member name t u is there = subst (λ o. IfSome o IsUtf8Tree) there (member_utf8 name t is)

-- ---- leaves

pub text_utf8 : (o : Option Tree) (s : List ℕ) → IfSome o IsUtf8Tree → (o >>= text_of) ≡ Some s → IsUtf8 s
text_utf8 None s is e = absurd cc
text_utf8 (Some null) s is e = absurd cc
text_utf8 (Some (boolean b)) s is e = absurd cc
text_utf8 (Some (number c)) s is e = absurd cc
text_utf8 (Some (string c)) s is e = subst IsUtf8 (some_is e) is
text_utf8 (Some (array ts)) s is e = absurd cc
text_utf8 (Some (object ps)) s is e = absurd cc

pub number_utf8 : (o : Option Tree) (s : List ℕ) → IfSome o IsUtf8Tree → (o >>= number_of) ≡ Some s → IsUtf8 s
number_utf8 None s is e = absurd cc
number_utf8 (Some null) s is e = absurd cc
number_utf8 (Some (boolean b)) s is e = absurd cc
number_utf8 (Some (number c)) s is e = subst IsUtf8 (some_is e) is
number_utf8 (Some (string c)) s is e = absurd cc
number_utf8 (Some (array ts)) s is e = absurd cc
number_utf8 (Some (object ps)) s is e = absurd cc

pub optional_utf8 : (name : List ℕ) (t : Tree) (o : Option (List ℕ)) → IsUtf8Tree t → HasOptionalText name t o → IfSome o IsUtf8
optional_utf8 name t None is h = tt
optional_utf8 name t (Some s) is h = text_utf8 (member_of name t) s (member_utf8 name t is) h

-- ---- lists and maps

-- the value of an entry
abbrev pub HasUtf8 : {K : Type 0} → K × Tree → Type 0
HasUtf8 p = IsUtf8Tree p.1

entry_utf8 : (k : List ℕ) (t : Tree) (es : List (List ℕ × Tree)) (b : Bool) → IsUtf8Tree t → All HasUtf8 es → All HasUtf8 (cond b es ((k, t) ∷ es))
entry_utf8 k t es true is are = are
entry_utf8 k t es false is are = All-cons HasUtf8 (k, t) es is are

entries_utf8 : (ps : Pairs) → AreUtf8Pairs ps → All HasUtf8 (entries ps)
entries_utf8 no_pairs are = All-nil (HasUtf8 {K = List ℕ})
entries_utf8 (pair k t ps) are = entry_utf8 k t (entries ps) (has_key k ps) are.1 (entries_utf8 ps are.2)

only_value_utf8 : (es : List (List ℕ × Tree)) (t : Tree) → All HasUtf8 es → only_value es ≡ Some t → IsUtf8Tree t
only_value_utf8 [] t are e = absurd cc
only_value_utf8 (x ∷ []) t are e = subst IsUtf8Tree (some_is e) (All-head HasUtf8 x [] are)
only_value_utf8 (x ∷ y ∷ es) t are e = absurd cc

-- the value of an object's only key
pub only_of_utf8 : (u t : Tree) → IsUtf8Tree u → only_of u ≡ Some t → IsUtf8Tree t
only_of_utf8 null t is e = absurd cc
only_of_utf8 (boolean b) t is e = absurd cc
only_of_utf8 (number c) t is e = absurd cc
only_of_utf8 (string c) t is e = absurd cc
only_of_utf8 (array ts) t is e = absurd cc
only_of_utf8 (object ps) t is e = only_value_utf8 (entries ps) t (entries_utf8 ps is) e

map_of_utf8 : (o : Option Tree) (es : List (List ℕ × Tree)) → IfSome o IsUtf8Tree → map_of o ≡ Some es → All HasUtf8 es
map_of_utf8 None es is e = All-same HasUtf8 es [] (sym (some_is e)) (All-nil HasUtf8)
map_of_utf8 (Some null) es is e = absurd cc
map_of_utf8 (Some (boolean b)) es is e = absurd cc
map_of_utf8 (Some (number c)) es is e = absurd cc
map_of_utf8 (Some (string c)) es is e = absurd cc
map_of_utf8 (Some (array no_trees)) es is e = All-same HasUtf8 es [] (sym (some_is e)) (All-nil HasUtf8)
map_of_utf8 (Some (array (tree t ts))) es is e = absurd cc
map_of_utf8 (Some (object ps)) es is e = All-same HasUtf8 es (entries ps) (sym (some_is e)) (entries_utf8 ps is)

values_utf8 : (k : ℕ) (ts : Trees) → AreUtf8Trees ts → All HasUtf8 (numbered k (items_of ts))
values_utf8 k no_trees are = All-nil (HasUtf8 {K = ℕ})
values_utf8 k (tree t ts) are = All-cons HasUtf8 (k, t) (numbered (k + 1) (items_of ts)) are.0 (values_utf8 (k + 1) ts are.1)

list_of_utf8 : (t : Tree) (vs : List Tree) → IsUtf8Tree t → list_of t ≡ Some vs → All HasUtf8 (numbered 0 vs)
list_of_utf8 null vs is e = absurd cc
list_of_utf8 (boolean b) vs is e = absurd cc
list_of_utf8 (number c) vs is e = absurd cc
list_of_utf8 (string c) vs is e = absurd cc
list_of_utf8 (array ts) vs is e = All-same HasUtf8 (numbered 0 vs) (numbered 0 (items_of ts)) (ap (numbered 0) (sym (some_is e))) (values_utf8 0 ts is)
list_of_utf8 (object ps) vs is e = absurd cc

-- what holds of each part that a value gives holds of the parts of a list of values, and of a map
pub in_list : {A : Type 0} (P : ℕ × Tree → A → Type 0) (Q : A → Type 0) → ((p : ℕ × Tree) (a : A) → IsUtf8Tree p.1 → P p a → Q a)
    → (t : Tree) (ys : List A) → IsUtf8Tree t → InList P (list_of t) ys → All Q ys
in_list P Q each t ys is h = joined-all HasUtf8 (One P) Q (one-all HasUtf8 P Q each) (numbered 0 h.values) ys (list_of_utf8 t h.values is h.is_list) h.joined

pub in_optional_list : {A : Type 0} (P : ℕ × Tree → A → Type 0) (Q : A → Type 0) → ((p : ℕ × Tree) (a : A) → IsUtf8Tree p.1 → P p a → Q a)
    → (o : Option Tree) (ys : List A) → IfSome o IsUtf8Tree → InOptionalList P o ys → All Q ys
in_optional_list P Q each None ys is h = All-same Q ys [] h (All-nil Q)
in_optional_list P Q each (Some t) ys is h = in_list P Q each t ys is h

pub in_map : {A : Type 0} (R : List ℕ × Tree → List A → Type 0) (Q : A → Type 0) → ((p : List ℕ × Tree) (ys : List A) → IsUtf8Tree p.1 → R p ys → All Q ys)
    → (name : List ℕ) (t : Tree) (ys : List A) → IsUtf8Tree t → InMap R name t ys → All Q ys
in_map R Q each name t ys is h = joined-all HasUtf8 R Q each h.members ys (map_of_utf8 (member_of name t) h.members (member_utf8 name t is) h.is_map) h.joined
