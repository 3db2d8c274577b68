-- How many parts a document has: no more than its page has bytes.
use Rattle.std.proofs.Common.{◌≡◌, ℕ, ◌+◌, ◌≤◌, Bool, true, false, ◌&&◌, cond, nat_le, List, [], ◌∷◌, ◌++◌, length, Option, Some, None, refl, ap, subst, arith}
use Rattle.std.specs.Prelude.{codes}
use Rattle.std.specs.Char.{is_ascii_alphanumeric}
use Rattle.std.specs.List.{list_all, sum_by}
use Rattle.std.specs.Str.{bytes_eq}
use Rattle.std.proofs.lemmas.Bool.{and_parts}
use Rattle.std.proofs.lemmas.Bool.Decides.{nat_tests}
use Rattle.std.proofs.lemmas.List.Sums.{sum_by-append, sum_by-cons}
use Rattle.std.proofs.lemmas.Slice.Eq.{bytes_eq-Decides}
use Rattle.json_spell.specs.Tree.{Tree, null, boolean, number, string, array, object, Trees, no_trees, tree, Pairs, no_pairs, pair, first_there, last_member, member_of}
use Rattle.json_spell.specs.Weight.{weight, values_weight, members_weight, weight_there}
use Rattle.json_spell.proofs.{Names.names_weight, Opened.some_is}
use Rattle.entity_model.specs.declared.id.IdKind.{IdKind}
use Rattle.entity_model.specs.declared.id.IdKind.TheVariants.{P, Q, L}
use Rattle.entity_model.specs.declared.id.EntityId.{EntityId}
use Rattle.entity_model.specs.declared.value.Tagged.{Tagged}
use Rattle.entity_model.specs.declared.snak.Snak.{Snak}
use Rattle.entity_model.specs.declared.statement.Reference.{Reference}
use Rattle.entity_model.specs.declared.statement.Statement.{Statement}
use Rattle.entity_model.specs.declared.entity.Link.{Link}
use Rattle.entity_model.specs.declared.lexeme.Part.{Part}
use Rattle.entity_model.specs.EntityId.{id_text}
use Rattle.entity_model.specs.Reference.{is_hash}
use Rattle.entity_json.specs.Leaves.{◌>>=◌, text_of, items_of, list_of}
use Rattle.entity_json.specs.Maps.{has_key, entries, map_of}
use Rattle.entity_json.specs.Joined.{numbered, Joined, One, InList, InOptionalList, InMap}
use Rattle.entity_json.specs.Properties.{UnderProperty}
use Rattle.entity_json.specs.Tagged.{IsTagged, AreLabels, AreAliases}
use Rattle.entity_json.specs.Items.{AreItemIds, IsItemId}
use Rattle.entity_json.specs.Snaks.{IsSnak, AreSnaks}
use Rattle.entity_json.specs.Statements.{IsReference, IsStatement, AreStatements}
use Rattle.entity_json.specs.declared.lexeme.PartKind.{PartKind}
use Rattle.entity_json.specs.declared.lexeme.PartKind.TheVariants.{Form, Sense}
use Rattle.entity_json.specs.Lexemes.{AreParts, HasFeatures, IsPart, list_name, texts_name}
use Rattle.entity_json.specs.Links.{IsLink}
use Rattle.entity_json.specs.Pages.{HasLinks}
use Rattle.entity_json.proofs.LightTrees.{member-light, text-length}

-- ---- how many parts

abbrev pub one : {A : Type 0} → A → ℕ
one x = 1

abbrev pub reference_size : Reference → ℕ
reference_size r = 1 + sum_by one r.snaks

abbrev pub statement_size : Statement → ℕ
statement_size s = 1 + sum_by one s.qualifiers + sum_by reference_size s.references

abbrev pub part_size : Part → ℕ
part_size p = 1 + sum_by one p.texts + sum_by one p.features + sum_by statement_size p.statements

abbrev pub badges_size : Link → ℕ
badges_size l = sum_by one l.badges

-- ---- lists and maps

-- the weight of an entry's value
abbrev heavy : {K : Type 0} → K × Tree → ℕ
heavy p = weight p.1

entry_sum : (k : List ℕ) (t : Tree) (es : List (List ℕ × Tree)) (n : ℕ) (b : Bool) → sum_by heavy es ≤ n → sum_by heavy (cond b es ((k, t) ∷ es)) ≤ length k + (weight t + n)
entry_sum k t es n true few = omega (arith, few)
entry_sum k t es n false few = omega (arith, few, sum_by-cons heavy (k, t) es)

entries_sum : (ps : Pairs) → sum_by heavy (entries ps) ≤ members_weight ps
entries_sum no_pairs = omega arith
entries_sum (pair k t ps) = entry_sum k t (entries ps) (members_weight ps) (has_key k ps) (entries_sum ps)

map_sum : (o : Option Tree) (es : List (List ℕ × Tree)) → map_of o ≡ Some es → sum_by heavy es ≤ weight_there o
map_sum None es e = subst (λ (l : List (List ℕ × Tree)). sum_by heavy l ≤ 0) (some_is e) (omega arith)
map_sum (Some null) es e = absurd cc
map_sum (Some (boolean b)) es e = absurd cc
map_sum (Some (number c)) es e = absurd cc
map_sum (Some (string c)) es e = absurd cc
map_sum (Some (array no_trees)) es e = subst (λ (l : List (List ℕ × Tree)). sum_by heavy l ≤ 0) (some_is e) (omega arith)
map_sum (Some (array (tree t ts))) es e = absurd cc
map_sum (Some (object ps)) es e = subst (λ (l : List (List ℕ × Tree)). sum_by heavy l ≤ members_weight ps) (some_is e) (entries_sum ps)

values_sum : (k : ℕ) (ts : Trees) → sum_by heavy (numbered k (items_of ts)) ≤ values_weight ts
values_sum k no_trees = omega arith
values_sum k (tree t ts) = omega (arith, values_sum (k + 1) ts, sum_by-cons heavy (k, t) (numbered (k + 1) (items_of ts)))

list_sum : (t : Tree) (vs : List Tree) → list_of t ≡ Some vs → sum_by heavy (numbered 0 vs) ≤ weight t
list_sum null vs e = absurd cc
list_sum (boolean b) vs e = absurd cc
list_sum (number c) vs e = absurd cc
list_sum (string c) vs e = absurd cc
list_sum (array ts) vs e = subst (λ (l : List Tree). sum_by heavy (numbered 0 l) ≤ values_weight ts) (some_is e) (values_sum 0 ts)
list_sum (object ps) vs e = absurd cc

module _ {A : Type 0} (size : A → ℕ) where
  joined_sum : {K : Type 0} (R : K × Tree → List A → Type 0) → ((p : K × Tree) (ys : List A) → R p ys → sum_by size ys ≤ weight p.1) → (xs : List (K × Tree)) (ys : List A) → Joined R xs ys → sum_by size ys ≤ sum_by heavy xs
  joined_sum R each [] ys j = omega (arith, ap (sum_by size) j)
  joined_sum R each (x ∷ xs) ys j =
      omega (arith, ap (sum_by size) j.is, sum_by-append size j.front j.rest, each x j.front j.holds, joined_sum R each xs j.rest j.then_holds, sum_by-cons heavy x xs)

  one_sum : {K : Type 0} (R : K × Tree → A → Type 0) → ((p : K × Tree) (a : A) → R p a → size a ≤ weight p.1) → (p : K × Tree) (ys : List A) → One R p ys → sum_by size ys ≤ weight p.1
  one_sum R each p ys h = omega (arith, ap (sum_by size) h.is, each p h.item h.holds, sum_by-cons size h.item [])

  in_list : (R : ℕ × Tree → A → Type 0) → ((p : ℕ × Tree) (a : A) → R p a → size a ≤ weight p.1) → (t : Tree) (ys : List A) → InList R (list_of t) ys → sum_by size ys ≤ weight t
  in_list R each t ys h = omega (arith, joined_sum (One R) (one_sum R each) (numbered 0 h.values) ys h.joined, list_sum t h.values h.is_list)

  in_optional : (R : ℕ × Tree → A → Type 0) → ((p : ℕ × Tree) (a : A) → R p a → size a ≤ weight p.1) → (o : Option Tree) (ys : List A) → InOptionalList R o ys → sum_by size ys ≤ weight_there o
  in_optional R each None ys h = omega (arith, ap (sum_by size) h)
  in_optional R each (Some t) ys h = in_list R each t ys h

  in_map : (R : List ℕ × Tree → List A → Type 0) → ((p : List ℕ × Tree) (ys : List A) → R p ys → sum_by size ys ≤ weight p.1) → (name : List ℕ) (t : Tree) (ys : List A) → InMap R name t ys → sum_by size ys ≤ weight_there (member_of name t)
  in_map R each name t ys h = omega (arith, joined_sum R each h.members ys h.joined, map_sum (member_of name t) h.members h.is_map)

-- ---- what is there has some weight

last_weight : (name : List ℕ) (ps : Pairs) (u : Tree) → last_member name ps ≡ Some u → length name ≤ members_weight ps
last_weight name no_pairs u e = absurd cc
last_weight name (pair k t ps) u e = by (last_member name ps) (bytes_eq k name) refl refl e (λ v. last_weight name ps v)
  where
    by : (o : Option Tree) (b : Bool) → last_member name ps ≡ o → bytes_eq k name ≡ b → first_there o (cond b (Some t) None) ≡ Some u → ((v : Tree) → last_member name ps ≡ Some v → length name ≤ members_weight ps) →
        length name ≤ members_weight (pair k t ps)
    by (Some v) b later same e more = omega (arith, more v later)
    by None true later same e more = let is : k ≡ name = (bytes_eq-Decides k name).0 same in omega (arith, ap length is)
    by None false later same e more = absurd cc

name_weight : (name : List ℕ) (t u : Tree) → member_of name t ≡ Some u → length name ≤ weight t
name_weight name null u e = absurd cc
name_weight name (boolean b) u e = absurd cc
name_weight name (number c) u e = absurd cc
name_weight name (string c) u e = absurd cc
name_weight name (array ts) u e = absurd cc
name_weight name (object ps) u e = last_weight name ps u e

text_there : (name : List ℕ) (t : Tree) (o : Option Tree) (s : List ℕ) → member_of name t ≡ o → (o >>= text_of) ≡ Some s → length name ≤ weight t
text_there name t None s is e = absurd cc
text_there name t (Some u) s is e = name_weight name t u is

-- ---- parts

tagged_size : (name : List ℕ) (t : Tree) (x : Tagged) → IsTagged name t x → 1 ≤ weight t
tagged_size name t x h = omega (arith, text_there (codes "language") t (member_of (codes "language") t) x.language refl h.language)

pub labels_few : (name : List ℕ) (t : Tree) (xs : List Tagged) → AreLabels name t xs → sum_by one xs ≤ weight_there (member_of name t)
labels_few name t xs h =
    in_map one (One (λ member x. IsTagged (codes "value") member.1 x)) (one_sum one (λ member x. IsTagged (codes "value") member.1 x) (λ m x. tagged_size (codes "value") m.1 x)) name t xs h

pub aliases_few : (t : Tree) (xs : List Tagged) → AreAliases t xs → sum_by one xs ≤ weight_there (member_of (codes "aliases") t)
aliases_few t xs h =
    in_map one (λ member ys. InList (λ value x. IsTagged (codes "value") value.1 x) (list_of member.1) ys)
    (λ m ys s. in_list one (λ value x. IsTagged (codes "value") value.1 x) (λ v x. tagged_size (codes "value") v.1 x) m.1 ys s) (codes "aliases") t xs h

snak_size : (p : EntityId) (n : ℕ) (t : Tree) (x : Snak) → IsSnak p n t x → 1 ≤ weight t
snak_size p n t x h = omega (arith, text_there (codes "property") t (member_of (codes "property") t) (id_text p) refl h.under_key)

snaks_few : (name : List ℕ) (t : Tree) (xs : List Snak) → AreSnaks name t xs → sum_by one xs ≤ weight_there (member_of name t)
snaks_few name t xs h =
    in_map one (UnderProperty (λ p value x. IsSnak p value.0 value.1 x))
    (λ m ys s. in_list one (λ value x. IsSnak s.property value.0 value.1 x) (λ v x. snak_size s.property v.0 v.1 x) m.1 ys s.parts) name t xs h

hash_some : (hash : List ℕ) → is_hash hash ≡ true → 1 ≤ length hash
hash_some hash is =
    let sizes = and_parts (nat_le 1 (length hash) && nat_le (length hash) 64) (list_all is_ascii_alphanumeric hash) is in
    let low = (and_parts (nat_le 1 (length hash)) (nat_le (length hash) 64) sizes.0).0 in
    grind (arith, nat_tests)

reference_few : (t : Tree) (x : Reference) → IsReference t x → reference_size x ≤ weight t
reference_few t x h =
    omega (arith, names_weight (codes "hash" ∷ codes "snaks" ∷ []) refl t, hash_some x.hash h.is_hash, text-length (member_of (codes "hash") t) x.hash h.hash, snaks_few (codes "snaks") t x.snaks h.snaks)

statement_few : (p : EntityId) (t : Tree) (x : Statement) → IsStatement p t x → statement_size x ≤ weight t
statement_few p t x h =
    omega (
      arith,
      names_weight (codes "mainsnak" ∷ codes "qualifiers" ∷ codes "references" ∷ []) refl t,
      ap weight_there h.main.is_main,
      snak_size p 0 h.main.main x.main h.main.holds,
      snaks_few (codes "qualifiers") t x.qualifiers h.qualifiers,
      in_optional reference_size (λ value y. IsReference value.1 y) (λ v y. reference_few v.1 y) (member_of (codes "references") t) x.references h.references,
    )

pub statements_few : (t : Tree) (xs : List Statement) → AreStatements t xs → sum_by statement_size xs ≤ weight_there (member_of (codes "claims") t)
statements_few t xs h =
    in_map statement_size (UnderProperty (λ p value x. IsStatement p value.1 x))
    (λ m ys s. in_list statement_size (λ value x. IsStatement s.property value.1 x) (λ v x. statement_few s.property v.1 x) m.1 ys s.parts) (codes "claims") t xs h

item_size : (t : Tree) (x : EntityId) → IsItemId t x → 1 ≤ weight t
item_size t x h = omega (arith, text-length (Some t) (id_text x) h.text)

items_few : (name : List ℕ) (t : Tree) (xs : List EntityId) → AreItemIds name t xs → sum_by one xs ≤ weight_there (member_of name t)
items_few name t xs h = in_optional one (λ value x. IsItemId value.1 x) (λ v x. item_size v.1 x) (member_of name t) xs h

link_size : (t : Tree) (x : Link) → IsLink t x → 1 ≤ weight t
link_size t x h = omega (arith, text_there (codes "site") t (member_of (codes "site") t) x.site refl h.site)

badges_few : (t : Tree) (x : Link) → IsLink t x → badges_size x ≤ weight t
badges_few t x h = omega (arith, items_few (codes "badges") t x.badges h.badges, member-light (codes "badges") t)

-- links, and the badges of all of them
pub links_few : (kind : IdKind) (t : Tree) (xs : List Link) → HasLinks kind t xs → (sum_by one xs ≤ weight t) × (sum_by badges_size xs ≤ weight t)
links_few P t xs h = (omega (arith, ap (sum_by one) h), omega (arith, ap (sum_by badges_size) h))
links_few L t xs h = (omega (arith, ap (sum_by one) h), omega (arith, ap (sum_by badges_size) h))
links_few Q t xs h =
    let light = member-light (codes "sitelinks") t in (
      omega (arith, light, in_map one (One (λ member x. IsLink member.1 x)) (one_sum one (λ member x. IsLink member.1 x) (λ m x. link_size m.1 x)) (codes "sitelinks") t xs h),
      omega (arith, light, in_map badges_size (One (λ member x. IsLink member.1 x)) (one_sum badges_size (λ member x. IsLink member.1 x) (λ m x. badges_few m.1 x)) (codes "sitelinks") t xs h),
    )

features_few : (kind : PartKind) (t : Tree) (xs : List EntityId) → HasFeatures kind t xs → sum_by one xs ≤ weight_there (member_of (codes "grammaticalFeatures") t)
features_few Form t xs h = items_few (codes "grammaticalFeatures") t xs h
features_few Sense t xs h = omega (arith, ap (sum_by one) h)

names_apart : (kind : PartKind) (t : Tree) → weight_there (member_of (codes "id") t) + (weight_there (member_of (texts_name kind) t) + (weight_there (member_of (codes "grammaticalFeatures") t) + weight_there (member_of (codes "claims") t))) ≤ weight t
names_apart Form t = omega (arith, names_weight (codes "id" ∷ codes "representations" ∷ codes "grammaticalFeatures" ∷ codes "claims" ∷ []) refl t)
names_apart Sense t = omega (arith, names_weight (codes "id" ∷ codes "glosses" ∷ codes "grammaticalFeatures" ∷ codes "claims" ∷ []) refl t)

id_long : (x : EntityId) (mark : List ℕ) (n : ℕ) (id digits : List ℕ) → id ≡ id_text x ++ mark ++ digits → 1 ≤ length id
id_long x mark n id digits is = omega (arith, ap length is)

part_few : (x : EntityId) (kind : PartKind) (t : Tree) (p : Part) → IsPart x kind t p → part_size p ≤ weight t
part_few x kind t p h =
    omega (
      arith,
      names_apart kind t,
      id_long x _ h.is_id.number p.id _ h.is_id.is,
      text-length (member_of (codes "id") t) p.id h.id,
      labels_few (texts_name kind) t p.texts h.texts,
      features_few kind t p.features h.features,
      statements_few t p.statements h.statements,
    )

pub parts_few : (x : EntityId) (kind : PartKind) (t : Tree) (ps : List Part) → AreParts x kind t ps → sum_by part_size ps ≤ weight t
parts_few x kind t ps h =
    omega (arith, member-light (list_name kind) t, in_optional part_size (λ value p. IsPart x kind value.1 p) (λ v p. part_few x kind v.1 p) (member_of (list_name kind) t) ps h)
