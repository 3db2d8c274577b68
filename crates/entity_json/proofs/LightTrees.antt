-- The parts of a light tree are light: its texts, numbers, lists and maps.
use Rattle.std.proofs.Common.{◌≡◌, ℕ, ◌+◌, ◌≤◌, Bool, true, false, cond, List, [], ◌∷◌, ◌++◌, length, Option, Some, None, refl, sym, ap, arith}
use Rattle.std.specs.List.{All}
use Rattle.std.proofs.lemmas.List.Elements.{All-nil, All-cons, All-head, All-tail, All-same, All-append}
use Rattle.json_spell.specs.Tree.{Tree, null, boolean, number, string, array, object, Trees, no_trees, tree, Pairs, no_pairs, pair, member_of}
use Rattle.json_spell.specs.Weight.{weight, values_weight, members_weight, weight_there}
use Rattle.json_spell.proofs.Names.{names_weight}
use Rattle.json_spell.proofs.Opened.{some_is}
use Rattle.entity_model.specs.Value.{optional_length}
use Rattle.entity_json.specs.Leaves.{◌>>=◌, text_of, number_of, items_of, list_of}
use Rattle.entity_json.specs.Maps.{has_key, entries, map_of, only_value, only_of}
use Rattle.entity_json.specs.Members.{HasOptionalText}
use Rattle.entity_json.specs.Joined.{numbered, Joined, One, InList, InOptionalList, InMap}

-- a text is no longer than the value that it is
pub text-length : (o : Option Tree) (s : List ℕ) → (o >>= text_of) ≡ Some s → length s ≤ weight_there o
text-length None s e = absurd cc
text-length (Some null) s e = absurd cc
text-length (Some (boolean b)) s e = absurd cc
text-length (Some (number c)) s e = absurd cc
text-length (Some (string c)) s e = omega (arith, ap length (some_is e))
text-length (Some (array ts)) s e = absurd cc
text-length (Some (object ps)) s e = absurd cc

pub number-length : (o : Option Tree) (s : List ℕ) → (o >>= number_of) ≡ Some s → length s ≤ weight_there o
number-length None s e = absurd cc
number-length (Some null) s e = absurd cc
number-length (Some (boolean b)) s e = absurd cc
number-length (Some (number c)) s e = omega (arith, ap length (some_is e))
number-length (Some (string c)) s e = absurd cc
number-length (Some (array ts)) s e = absurd cc
number-length (Some (object ps)) s e = absurd cc

pub optional_text-length : (name : List ℕ) (t : Tree) (o : Option (List ℕ)) → HasOptionalText name t o → optional_length o ≤ weight_there (member_of name t)
optional_text-length name t None h = omega arith
optional_text-length name t (Some s) h = text-length (member_of name t) s h

-- a member is no heavier than its object
pub member-light : (name : List ℕ) (t : Tree) → weight_there (member_of name t) ≤ weight t
member-light name t = let whole = names_weight (name ∷ []) refl t in omega (arith, whole)

-- the value of an entry has the weight n at most
abbrev pub Light : {K : Type 0} → ℕ → K × Tree → Type 0
Light n p = weight p.1 ≤ n

entry-light : (n : ℕ) (k : List ℕ) (t : Tree) (es : List (List ℕ × Tree)) (b : Bool) → weight t ≤ n → All (Light n) es → All (Light n) (cond b es ((k, t) ∷ es))
entry-light n k t es true light rest = rest
entry-light n k t es false light rest = All-cons (Light n) (k, t) es light rest

entries-light : (n : ℕ) (ps : Pairs) → members_weight ps ≤ n → All (Light n) (entries ps)
entries-light n no_pairs l = All-nil (Light {K = List ℕ} n)
entries-light n (pair k t ps) l = entry-light n k t (entries ps) (has_key k ps) (omega arith) (entries-light n ps (omega arith))

only_value-light : (n : ℕ) (es : List (List ℕ × Tree)) (t : Tree) → All (Light n) es → only_value es ≡ Some t → weight t ≤ n
only_value-light n [] t l e = absurd cc
only_value-light n (x ∷ []) t l e = let light : weight x.1 ≤ n = All-head (Light n) x [] l in omega (arith, ap weight (some_is e))
only_value-light n (x ∷ y ∷ es) t l e = absurd cc

-- the value of an object's only key
pub only_of-light : (n : ℕ) (u t : Tree) → weight u ≤ n → only_of u ≡ Some t → weight t ≤ n
only_of-light n null t l e = absurd cc
only_of-light n (boolean b) t l e = absurd cc
only_of-light n (number c) t l e = absurd cc
only_of-light n (string c) t l e = absurd cc
only_of-light n (array ts) t l e = absurd cc
only_of-light n (object ps) t l e = only_value-light n (entries ps) t (entries-light n ps l) e

map_of-light : (n : ℕ) (o : Option Tree) (es : List (List ℕ × Tree)) → weight_there o ≤ n → map_of o ≡ Some es → All (Light n) es
map_of-light n None es l e = All-same (Light n) es [] (sym (some_is e)) (All-nil (Light n))
map_of-light n (Some null) es l e = absurd cc
map_of-light n (Some (boolean b)) es l e = absurd cc
map_of-light n (Some (number c)) es l e = absurd cc
map_of-light n (Some (string c)) es l e = absurd cc
map_of-light n (Some (array no_trees)) es l e = All-same (Light n) es [] (sym (some_is e)) (All-nil (Light n))
map_of-light n (Some (array (tree t ts))) es l e = absurd cc
map_of-light n (Some (object ps)) es l e = All-same (Light n) es (entries ps) (sym (some_is e)) (entries-light n ps l)

values-light : (n k : ℕ) (ts : Trees) → values_weight ts ≤ n → All (Light n) (numbered k (items_of ts))
values-light n k no_trees l = All-nil (Light {K = ℕ} n)
values-light n k (tree t ts) l = All-cons (Light n) (k, t) (numbered (k + 1) (items_of ts)) (omega arith) (values-light n (k + 1) ts (omega arith))

list_of-light : (n k : ℕ) (t : Tree) (vs : List Tree) → weight t ≤ n → list_of t ≡ Some vs → All (Light n) (numbered k vs)
list_of-light n k null vs l e = absurd cc
list_of-light n k (boolean b) vs l e = absurd cc
list_of-light n k (number c) vs l e = absurd cc
list_of-light n k (string c) vs l e = absurd cc
list_of-light n k (array ts) vs l e = All-same (Light n) (numbered k vs) (numbered k (items_of ts)) (ap (numbered k) (sym (some_is e))) (values-light n k ts l)
list_of-light n k (object ps) vs l e = absurd cc

-- what holds of all that each gives holds of what they give together
pub joined-all : {X A : Type 0} (W : X → Type 0) (R : X → List A → Type 0) (Q : A → Type 0) → ((x : X) (ys : List A) → W x → R x ys → All Q ys)
    → (xs : List X) (ys : List A) → All W xs → Joined R xs ys → All Q ys
joined-all W R Q each [] ys l j = All-same Q ys [] j (All-nil Q)
joined-all W R Q each (x ∷ xs) ys l j =
    All-same Q ys (j.front ++ j.rest) j.is
    (All-append Q j.front j.rest (each x j.front (All-head W x xs l) j.holds) (joined-all W R Q each xs j.rest (All-tail W x xs l) j.then_holds))

pub one-all : {X A : Type 0} (W : X → Type 0) (P : X → A → Type 0) (Q : A → Type 0) → ((x : X) (a : A) → W x → P x a → Q a)
    → (x : X) (ys : List A) → W x → One P x ys → All Q ys
one-all W P Q each x ys l h = All-same Q ys (h.item ∷ []) h.is (All-cons Q h.item [] (each x h.item l h.holds) (All-nil Q))

-- the parts of a list, and of a map, of a light tree
pub in_list-all : {A : Type 0} (n : ℕ) (P : ℕ × Tree → A → Type 0) (Q : A → Type 0) → ((p : ℕ × Tree) (a : A) → weight p.1 ≤ n → P p a → Q a)
    → (t : Tree) (ys : List A) → weight t ≤ n → InList P (list_of t) ys → All Q ys
in_list-all n P Q each t ys l h =
    joined-all (Light n) (One P) Q (one-all (Light n) P Q each) (numbered 0 h.values) ys (list_of-light n 0 t h.values l h.is_list) h.joined

pub in_optional_list-all : {A : Type 0} (n : ℕ) (P : ℕ × Tree → A → Type 0) (Q : A → Type 0) → ((p : ℕ × Tree) (a : A) → weight p.1 ≤ n → P p a → Q a)
    → (o : Option Tree) (ys : List A) → weight_there o ≤ n → InOptionalList P o ys → All Q ys
in_optional_list-all n P Q each None ys l h = All-same Q ys [] h (All-nil Q)
in_optional_list-all n P Q each (Some t) ys l h = in_list-all n P Q each t ys l h

pub in_map-all : {A : Type 0} (n : ℕ) (R : List ℕ × Tree → List A → Type 0) (Q : A → Type 0) → ((p : List ℕ × Tree) (ys : List A) → weight p.1 ≤ n → R p ys → All Q ys)
    → (name : List ℕ) (t : Tree) (ys : List A) → weight t ≤ n → InMap R name t ys → All Q ys
in_map-all n R Q each name t ys l h =
    let map_light : weight_there (member_of name t) ≤ n = omega (arith, member-light name t) in
    joined-all (Light n) R Q each h.members ys (map_of-light n (member_of name t) h.members map_light h.is_map) h.joined
