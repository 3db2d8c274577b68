-- A page of a light tree has a small document.
use Rattle.std.proofs.Common.{◌≡◌, ℕ, ◌<◌, ◌≤◌, ◌^◌, Bool, true, false, ◌&&◌, ◌||◌, ◌==◌, nat_le, List, [], ◌∷◌, length, get_or, Option, Some, None, refl, ap, ◌∙◌, arith}
use Rattle.std.specs.Option.{unwrap_or}
use Rattle.std.specs.List.{All, list_all}
use Rattle.std.specs.Char.{is_ascii_alphanumeric}
use Rattle.std.specs.Fmt.{decimal}
use Rattle.std.specs.Str.Parse.{AllDigits}
use Rattle.std.specs.Prelude.{codes}
use Rattle.std.proofs.lemmas.Bool.{and_from}
use Rattle.std.proofs.lemmas.Bool.Decides.{nat_tests}
use Rattle.std.proofs.lemmas.List.Elements.{All-nil, All-same, All-from_get_or}
use Rattle.std.proofs.lemmas.List.Sums.{list_all-from_AllPass}
use Rattle.std.proofs.lemmas.Str.Parse.{digit_at}
use Rattle.std.proofs.lemmas.Fmt.{digits_decimal, length-decimal-le}
use Rattle.digits.proofs.Decimals.{decimal_numerals}
use Rattle.json_spell.specs.Tree.{Tree, member_of}
use Rattle.json_spell.specs.Weight.{weight, weight_there, are_distinct}
use Rattle.json_spell.proofs.Names.{names_weight}
use Rattle.entity_model.specs.declared.id.IdKind.{IdKind}
use Rattle.entity_model.specs.declared.id.IdKind.TheVariants.{P, Q, L}
use Rattle.entity_model.specs.declared.id.EntityId.{EntityId}
use Rattle.entity_model.specs.declared.value.Tagged.{Tagged}
use Rattle.entity_model.specs.declared.value.TimeParts.{TimeParts}
use Rattle.entity_model.specs.declared.value.QuantityParts.{QuantityParts}
use Rattle.entity_model.specs.declared.value.GlobeParts.{GlobeParts}
use Rattle.entity_model.specs.declared.value.Value.{Value}
use Rattle.entity_model.specs.declared.value.Value.TheVariants.{Entity, Str, Time, Quantity, Globe, Mono, Other}
use Rattle.entity_model.specs.declared.snak.Content.{Content}
use Rattle.entity_model.specs.declared.snak.Content.TheVariants.{Value as AValue, NoValue, SomeValue}
use Rattle.entity_model.specs.declared.snak.Snak.{Snak}
use Rattle.entity_model.specs.declared.statement.Reference.{Reference}
use Rattle.entity_model.specs.declared.statement.Statement.{Statement}
use Rattle.entity_model.specs.declared.entity.Link.{Link}
use Rattle.entity_model.specs.declared.entity.Entity.{Entity as AnyEntity}
use Rattle.entity_model.specs.declared.document.Document.{Document}
use Rattle.entity_model.specs.declared.document.Document.TheVariants.{Entity as AnEntity, Redirect, Lexeme as ALexeme}
use Rattle.entity_model.specs.declared.lexeme.Lexeme.{Lexeme}
use Rattle.entity_model.specs.declared.lexeme.Part.{Part}
use Rattle.entity_model.specs.Value.{is_entity_text, IsSmallTagged, optional_length, text_length, IsSmallValue}
use Rattle.entity_model.specs.Snak.{IsSmallContent, IsSmallSnak}
use Rattle.entity_model.specs.Statement.{IsSmallReference, IsSmallStatement}
use Rattle.entity_model.specs.Document.{IsSmallLink, IsSmallEntity, IsSmall}
use Rattle.entity_model.specs.Lexeme.{IsSmallLexeme, IsSmallPart}
use Rattle.entity_json.specs.declared.page.Page.{Page}
use Rattle.entity_json.specs.Leaves.{◌>>=◌, text_at, list_of}
use Rattle.entity_json.specs.Joined.{One, InList}
use Rattle.entity_json.specs.Properties.{UnderProperty}
use Rattle.entity_json.specs.Tagged.{IsTagged, AreLabels, AreAliases}
use Rattle.entity_json.specs.declared.values.NumberedType.{NumberedType}
use Rattle.entity_json.specs.declared.values.NumberedType.TheVariants.{Property, Item}
use Rattle.entity_json.specs.Values.{numbered_letter, IsEntityValue, IsTime, IsQuantity, HasPrecision, IsGlobe, IsValue}
use Rattle.entity_json.specs.Snaks.{HasValue, IsContent, IsDatatype, IsSnak, AreSnaks, value_type}
use Rattle.entity_json.specs.Statements.{IsReference, HasMain, IsStatement, AreStatements}
use Rattle.entity_json.specs.declared.lexeme.PartKind.{PartKind}
use Rattle.entity_json.specs.declared.lexeme.PartKind.TheVariants.{Form, Sense}
use Rattle.entity_json.specs.Lexemes.{AreParts, IsLexeme, IsPart, list_name, mark_of, texts_name}
use Rattle.entity_json.specs.Links.{IsLink}
use Rattle.entity_json.specs.Pages.{HasDatatype, HasLinks, IsEntity, IsDocument, StandsAt, IsPage}
use Rattle.entity_json.proofs.LightTrees.{text-length, number-length, optional_text-length, member-light, Light, only_of-light, one-all, in_list-all, in_optional_list-all, in_map-all}

-- what an entity's id is made of
abbrev in_entity_text : ℕ → Bool
in_entity_text c = is_ascii_alphanumeric c || (c == 45)

digits-in_text : (ds : List ℕ) → AllDigits 10 ds → list_all in_entity_text ds ≡ true
digits-in_text ds h = list_all-from_AllPass in_entity_text ds (All-from_get_or (λ c. in_entity_text c ≡ true) ds 0 (λ i l. at (get_or ds i 0) (digit_at ds i h l).0 (digit_at ds i h l).1))
  where
    at : (c : ℕ) → 48 ≤ c → c ≤ 57 → in_entity_text c ≡ true
    at c low high = grind (arith, nat_tests)

letter-in_text : (type : NumberedType) → in_entity_text (numbered_letter type) ≡ true
letter-in_text Property = refl
letter-in_text Item = refl

entity_text-from : (text : List ℕ) → 1 ≤ length text → length text ≤ 64 → list_all in_entity_text text ≡ true → is_entity_text text ≡ true
entity_text-from text some short letters =
    let low : nat_le 1 (length text) ≡ true = grind (arith, nat_tests) in
    let high : nat_le (length text) 64 ≡ true = grind (arith, nat_tests) in
    rw (low, high, letters) refl

-- the id of an entity that is named by its number
numbered-entity : (type : NumberedType) (n : ℕ) → 0 < n → n < 2 ^ 32 → is_entity_text (numbered_letter type ∷ decimal n) ≡ true
numbered-entity type n low high =
    let text : List ℕ = numbered_letter type ∷ decimal n in
    let short : length (decimal n) ≤ 10 = length-decimal-le 10 n (omega arith) (omega arith) (omega arith) in
    let letters : list_all in_entity_text text ≡ true =
    and_from (in_entity_text (numbered_letter type)) (list_all in_entity_text (decimal n)) (letter-in_text type)
    (digits-in_text (decimal n) (digits_decimal decimal_numerals n (omega arith))) in
    entity_text-from text (omega arith) (omega arith) letters

entity_text : (o : Option Tree) (t : Tree) (text : List ℕ) → IsEntityValue o t text → is_entity_text text ≡ true
entity_text None t text h = ap is_entity_text h.is ∙ numbered-entity h.type h.number h.positive h.small
entity_text (Some id) t text h = h.1

entity_text-short : (text : List ℕ) → is_entity_text text ≡ true → length text ≤ 64
entity_text-short text h = by (nat_le 1 (length text)) (nat_le (length text) 64) (list_all in_entity_text text) refl h
  where
    by : (a b c : Bool) → nat_le (length text) 64 ≡ b → (a && b && c) ≡ true → length text ≤ 64
    by a true c s e = grind (arith, nat_tests)
    by true false true s e = absurd cc
    by true false false s e = absurd cc
    by false false c s e = absurd cc

tagged-small : (name : List ℕ) → are_distinct (codes "language" ∷ name ∷ []) ≡ true → (t : Tree) (x : Tagged) → weight t ≤ 8388608 → IsTagged name t x → IsSmallTagged x
tagged-small name apart t x l h =
    omega (arith, names_weight (codes "language" ∷ name ∷ []) apart t, text-length (member_of (codes "language") t) x.language h.language, text-length (member_of name t) x.text h.text)

time-small : (t : Tree) (x : TimeParts) → weight t ≤ 8388608 → IsTime t x → text_length (Time x) ≤ 8388608
time-small t x l h =
    omega (
      arith,
      names_weight (codes "time" ∷ codes "precision" ∷ codes "timezone" ∷ codes "calendarmodel" ∷ []) refl t,
      text-length (member_of (codes "time") t) x.time h.time,
      number-length (member_of (codes "precision") t) x.precision_text h.precision_text,
      number-length (member_of (codes "timezone") t) x.timezone h.timezone,
      text-length (member_of (codes "calendarmodel") t) x.calendar h.calendar,
    )

quantity-small : (t : Tree) (x : QuantityParts) → weight t ≤ 8388608 → IsQuantity t x → text_length (Quantity x) ≤ 8388608
quantity-small t x l h =
    omega (
      arith,
      names_weight (codes "amount" ∷ codes "unit" ∷ codes "upperBound" ∷ codes "lowerBound" ∷ []) refl t,
      text-length (member_of (codes "amount") t) x.amount h.amount,
      text-length (member_of (codes "unit") t) x.unit h.unit,
      optional_text-length (codes "upperBound") t x.upper h.upper,
      optional_text-length (codes "lowerBound") t x.lower h.lower,
    )

precision-length : (t : Tree) (o : Option (List ℕ)) → HasPrecision t o → optional_length o ≤ weight_there (member_of (codes "precision") t)
precision-length t None h = omega arith
precision-length t (Some s) h = number-length (member_of (codes "precision") t) s h

globe-small : (t : Tree) (x : GlobeParts) → weight t ≤ 8388608 → IsGlobe t x → text_length (Globe x) ≤ 8388608
globe-small t x l h =
    omega (
      arith,
      names_weight (codes "latitude" ∷ codes "longitude" ∷ codes "precision" ∷ codes "globe" ∷ []) refl t,
      number-length (member_of (codes "latitude") t) x.latitude h.latitude,
      number-length (member_of (codes "longitude") t) x.longitude h.longitude,
      precision-length t x.precision h.precision,
      text-length (member_of (codes "globe") t) x.globe h.globe,
    )

value-small : (type : List ℕ) (t : Tree) (x : Value) → weight t ≤ 8388608 → IsValue type t x → IsSmallValue x
value-small type t (Entity text) l h =
    let is : is_entity_text text ≡ true = entity_text (member_of (codes "id") t) t text h.1 in
    record { texts = omega (arith, entity_text-short text is); id = is }
value-small type t (Str text) l h = record { texts = omega (arith, text-length (Some t) text h.1); id = tt }
value-small type t (Time x) l h = record { texts = time-small t x l h.1; id = tt }
value-small type t (Quantity x) l h = record { texts = quantity-small t x l h.1; id = tt }
value-small type t (Globe x) l h = record { texts = globe-small t x l h.1; id = tt }
value-small type t (Mono x) l h = record { texts = tagged-small (codes "text") refl t x l h.1; id = tt }
value-small type t Other l h = record { texts = omega arith; id = tt }

has_value-small : (t : Tree) (x : Value) → weight t ≤ 8388608 → HasValue t x → IsSmallValue x
has_value-small t x l h =
    let outer : weight h.datavalue ≤ 8388608 = omega (arith, member-light (codes "datavalue") t, ap weight_there h.is_datavalue) in
    let inner : weight h.value ≤ 8388608 = omega (arith, member-light (codes "value") h.datavalue, ap weight_there h.is_value) in
    value-small h.type h.value x inner h.holds

content-small : (t : Tree) (x : Content) → weight t ≤ 8388608 → IsContent t x → IsSmallContent x
content-small t (AValue x) l h = has_value-small t x l h.1
content-small t NoValue l h = tt
content-small t SomeValue l h = tt

-- the type of a value is no longer than the value
text_or_empty-length : (o : Option (List ℕ)) (n : ℕ) → ((s : List ℕ) → o ≡ Some s → length s ≤ n) → length (unwrap_or o []) ≤ n
text_or_empty-length None n short = omega arith
text_or_empty-length (Some s) n short = short s refl

type-length : (o : Option Tree) → length (unwrap_or (o >>= text_at (codes "type")) []) ≤ weight_there o
type-length None = omega arith
type-length (Some u) =
    text_or_empty-length (text_at (codes "type") u) (weight u) (λ s e. omega (arith, text-length (member_of (codes "type") u) s e, member-light (codes "type") u))

datatype-length : (o : Option Tree) (t : Tree) (s : List ℕ) → weight_there o ≤ 8388608 → weight t ≤ 8388608 → IsDatatype o t s → length s ≤ 8388608
unfolding value_type
datatype-length None t s m l h = omega (arith, ap length h, type-length (member_of (codes "datavalue") t), member-light (codes "datavalue") t)
datatype-length (Some u) t s m l h = omega (arith, text-length (Some u) s h)

snak-small : (p : EntityId) (n : ℕ) (t : Tree) (x : Snak) → weight t ≤ 8388608 → IsSnak p n t x → IsSmallSnak x
snak-small p n t x l h = record {
  datatype = datatype-length (member_of (codes "datatype") t) t x.datatype (omega (arith, member-light (codes "datatype") t)) l h.datatype;
  content = content-small t x.content l h.content;
}

snaks-small : (name : List ℕ) (t : Tree) (xs : List Snak) → weight t ≤ 8388608 → AreSnaks name t xs → All IsSmallSnak xs
snaks-small name t xs l h =
    in_map-all 8388608 (UnderProperty (λ p value x. IsSnak p value.0 value.1 x)) IsSmallSnak
    (λ m ys light s. in_list-all 8388608 (λ value x. IsSnak s.property value.0 value.1 x) IsSmallSnak (λ v x. snak-small s.property v.0 v.1 x) m.1 ys light s.parts)
    name t xs l h

reference-small : (t : Tree) (x : Reference) → weight t ≤ 8388608 → IsReference t x → IsSmallReference x
reference-small t x l h = record { hash = h.is_hash; snaks = snaks-small (codes "snaks") t x.snaks l h.snaks }

main-small : (p : EntityId) (t : Tree) (x : Snak) → weight t ≤ 8388608 → HasMain p t x → IsSmallSnak x
main-small p t x l h = snak-small p 0 h.main x (omega (arith, member-light (codes "mainsnak") t, ap weight_there h.is_main)) h.holds

statement-small : (p : EntityId) (t : Tree) (x : Statement) → weight t ≤ 8388608 → IsStatement p t x → IsSmallStatement x
statement-small p t x l h = record {
  id = omega (arith, text-length (member_of (codes "id") t) x.id h.id, member-light (codes "id") t);
  main = main-small p t x.main l h.main;
  qualifiers = snaks-small (codes "qualifiers") t x.qualifiers l h.qualifiers;
  references =
      in_optional_list-all 8388608 (λ value y. IsReference value.1 y) IsSmallReference (λ v y. reference-small v.1 y)
      (member_of (codes "references") t) x.references (omega (arith, member-light (codes "references") t)) h.references;
}

statements-small : (t : Tree) (xs : List Statement) → weight t ≤ 8388608 → AreStatements t xs → All IsSmallStatement xs
statements-small t xs l h =
    in_map-all 8388608 (UnderProperty (λ p value x. IsStatement p value.1 x)) IsSmallStatement
    (λ m ys light s. in_list-all 8388608 (λ value x. IsStatement s.property value.1 x) IsSmallStatement (λ v x. statement-small s.property v.1 x) m.1 ys light s.parts)
    (codes "claims") t xs l h

link-small : (t : Tree) (x : Link) → weight t ≤ 8388608 → IsLink t x → IsSmallLink x
link-small t x l h =
    omega (
      arith,
      names_weight (codes "site" ∷ codes "title" ∷ []) refl t,
      text-length (member_of (codes "site") t) x.site h.site,
      text-length (member_of (codes "title") t) x.title h.title,
    )

links-small : (kind : IdKind) (t : Tree) (xs : List Link) → weight t ≤ 8388608 → HasLinks kind t xs → All IsSmallLink xs
links-small P t xs l h = All-same IsSmallLink xs [] h (All-nil IsSmallLink)
links-small L t xs l h = All-same IsSmallLink xs [] h (All-nil IsSmallLink)
links-small Q t xs l h =
    in_map-all 8388608 (One (λ member x. IsLink member.1 x)) IsSmallLink
    (one-all (Light 8388608) (λ member x. IsLink member.1 x) IsSmallLink (λ m x. link-small m.1 x)) (codes "sitelinks") t xs l h

labels-small : (name : List ℕ) (t : Tree) (xs : List Tagged) → weight t ≤ 8388608 → AreLabels name t xs → All IsSmallTagged xs
labels-small name t xs l h =
    in_map-all 8388608 (One (λ member x. IsTagged (codes "value") member.1 x)) IsSmallTagged
    (one-all (Light 8388608) (λ member x. IsTagged (codes "value") member.1 x) IsSmallTagged (λ m x. tagged-small (codes "value") refl m.1 x)) name t xs l h

aliases-small : (t : Tree) (xs : List Tagged) → weight t ≤ 8388608 → AreAliases t xs → All IsSmallTagged xs
aliases-small t xs l h =
    in_map-all 8388608 (λ member ys. InList (λ value x. IsTagged (codes "value") value.1 x) (list_of member.1) ys) IsSmallTagged
    (λ m ys light s. in_list-all 8388608 (λ value x. IsTagged (codes "value") value.1 x) IsSmallTagged (λ v x. tagged-small (codes "value") refl v.1 x) m.1 ys light s)
    (codes "aliases") t xs l h

entity_datatype-length : (kind : IdKind) (t : Tree) (o : Option (List ℕ)) → weight t ≤ 8388608 → HasDatatype kind t o → optional_length o ≤ 8388608
entity_datatype-length P t None l h = absurd h
entity_datatype-length P t (Some s) l h = omega (arith, text-length (member_of (codes "datatype") t) s h, member-light (codes "datatype") t)
entity_datatype-length Q t o l h = omega (arith, ap optional_length h)
entity_datatype-length L t o l h = absurd h

entity-small : (t : Tree) (x : AnyEntity) → weight t ≤ 8388608 → IsEntity t x → IsSmallEntity x
entity-small t x l h = record {
  datatype = entity_datatype-length x.id.kind t x.datatype l h.datatype;
  modified = omega (arith, optional_text-length (codes "modified") t x.modified h.modified, member-light (codes "modified") t);
  labels = labels-small (codes "labels") t x.labels l h.labels;
  descriptions = labels-small (codes "descriptions") t x.descriptions l h.descriptions;
  aliases = aliases-small t x.aliases l h.aliases;
  statements = statements-small t x.statements l h.statements;
  links = links-small x.id.kind t x.links l h.links;
}

part-small : (x : EntityId) (kind : PartKind) (t : Tree) (p : Part) → weight t ≤ 8388608 → IsPart x kind t p → IsSmallPart x (mark_of kind) p
part-small x kind t p l h =
    record { id = h.is_id; texts = labels-small (texts_name kind) t p.texts l h.texts; statements = statements-small t p.statements l h.statements }

parts-small : (x : EntityId) (kind : PartKind) (t : Tree) (ps : List Part) → weight t ≤ 8388608 → AreParts x kind t ps → All (IsSmallPart x (mark_of kind)) ps
parts-small x kind t ps l h =
    in_optional_list-all 8388608 (λ value p. IsPart x kind value.1 p) (IsSmallPart x (mark_of kind)) (λ v p light part. part-small x kind v.1 p light part)
    (member_of (list_name kind) t) ps (omega (arith, member-light (list_name kind) t)) h

lexeme-small : (t : Tree) (x : Lexeme) → weight t ≤ 8388608 → IsLexeme t x → IsSmallLexeme x
lexeme-small t x l h = record {
  modified = omega (arith, optional_text-length (codes "modified") t x.modified h.modified, member-light (codes "modified") t);
  lemmas = labels-small (codes "lemmas") t x.lemmas l h.lemmas;
  statements = statements-small t x.statements l h.statements;
  forms = parts-small x.id Form t x.forms l h.forms;
  senses = parts-small x.id Sense t x.senses l h.senses;
}

document-small : (t : Tree) (id : EntityId) (document : Document) → weight t ≤ 8388608 → IsDocument t id document → IsSmall document
document-small t id (AnEntity x) l h = entity-small t x l h.1
document-small t id (Redirect y) l h = tt
document-small t id (ALexeme x) l h = lexeme-small t x l h.1

page_tree-light : (o : Option Tree) (tree t : Tree) → weight_there o ≤ 8388608 → weight tree ≤ 8388608 → StandsAt o tree t → weight t ≤ 8388608
page_tree-light None tree t m l h = omega (arith, ap weight h)
page_tree-light (Some es) tree t m l h = only_of-light 8388608 es t m h

-- a page of a light tree has a small document
pub page_small : (tree : Tree) (page : Page) → weight tree ≤ 8388608 → IsPage tree page → IsSmall page.document
page_small tree page l h =
    let light : weight h.page_tree ≤ 8388608 =
    page_tree-light (member_of (codes "entities") tree) tree h.page_tree (omega (arith, member-light (codes "entities") tree)) l h.stands in
    document-small h.page_tree page.id page.document light h.holds
