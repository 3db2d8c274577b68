-- The document of a page whose JSON value is UTF-8 in all its texts is so too.
use Rattle.std.proofs.Common.{◌≡◌, ℕ, ◌<◌, List, [], Option, Some, None, sym, subst, arith}
use Rattle.std.specs.Prelude.{IfSome, codes}
use Rattle.std.specs.List.{All}
use Rattle.std.specs.Str.{IsUtf8}
use Rattle.std.proofs.lemmas.List.Elements.{All-nil, All-same}
use Rattle.json_spell.specs.Tree.{Tree, member_of}
use Rattle.entity_model.specs.declared.id.IdKind.{IdKind}
use Rattle.entity_model.specs.declared.id.IdKind.TheVariants.{P, Q, L}
use Rattle.entity_model.specs.declared.id.EntityId.{EntityId}
use Rattle.entity_model.specs.declared.value.Tagged.{Tagged}
use Rattle.entity_model.specs.declared.value.TimeParts.{TimeParts}
use Rattle.entity_model.specs.declared.value.QuantityParts.{QuantityParts}
use Rattle.entity_model.specs.declared.value.GlobeParts.{GlobeParts}
use Rattle.entity_model.specs.declared.value.Value.{Value}
use Rattle.entity_model.specs.declared.value.Value.TheVariants.{Entity, Str, Time, Quantity, Globe, Mono, Other}
use Rattle.entity_model.specs.declared.snak.Content.{Content}
use Rattle.entity_model.specs.declared.snak.Content.TheVariants.{Value as AValue, NoValue, SomeValue}
use Rattle.entity_model.specs.declared.snak.Snak.{Snak}
use Rattle.entity_model.specs.declared.statement.Reference.{Reference}
use Rattle.entity_model.specs.declared.statement.Statement.{Statement}
use Rattle.entity_model.specs.declared.entity.Link.{Link}
use Rattle.entity_model.specs.declared.entity.Entity.{Entity as AnyEntity}
use Rattle.entity_model.specs.declared.document.Document.{Document}
use Rattle.entity_model.specs.declared.document.Document.TheVariants.{Entity as AnEntity, Redirect, Lexeme as ALexeme}
use Rattle.entity_model.specs.declared.lexeme.Lexeme.{Lexeme}
use Rattle.entity_model.specs.declared.lexeme.Part.{Part}
use Rattle.entity_json.specs.Leaves.{◌>>=◌, list_of, number_of, text_of}
use Rattle.entity_json.specs.Joined.{One, InList}
use Rattle.entity_json.specs.Properties.{UnderProperty}
use Rattle.entity_json.specs.Tagged.{IsTagged, AreLabels, AreAliases}
use Rattle.entity_json.specs.Values.{numbered_letter, IsEntityValue, IsTime, IsQuantity, HasPrecision, IsGlobe, IsValue}
use Rattle.entity_json.specs.declared.values.NumberedType.{NumberedType}
use Rattle.entity_json.specs.declared.values.NumberedType.TheVariants.{Property, Item}
use Rattle.entity_json.specs.Snaks.{IsContent, IsSnak, AreSnaks}
use Rattle.entity_json.specs.Statements.{IsReference, IsStatement, AreStatements}
use Rattle.entity_json.specs.declared.lexeme.PartKind.{PartKind}
use Rattle.entity_json.specs.declared.lexeme.PartKind.TheVariants.{Form, Sense}
use Rattle.entity_json.specs.Lexemes.{AreParts, IsLexeme, IsPart, list_name, texts_name}
use Rattle.entity_json.specs.Links.{IsLink}
use Rattle.entity_json.specs.Pages.{HasLinks, IsEntity, IsDocument, StandsAt}
use Rattle.entity_json.specs.Unfit.{HasDocument}
use Rattle.entity_json.specs.Document.{document_of}
use Rattle.entity_json.proofs.Fitness.{documents}
use Rattle.entity_json.proofs.LightTrees.{one-all}
use Rattle.meaning_texts.specs.Trees.{IsUtf8Tree}
use Rattle.meaning_texts.specs.Documents.{IsUtf8Content, IsUtf8Document, IsUtf8Entity, IsUtf8Globe, IsUtf8Lexeme, IsUtf8Link, IsUtf8Part, IsUtf8Quantity, IsUtf8Reference, IsUtf8Snak, IsUtf8Statement, IsUtf8Tagged, IsUtf8Time, IsUtf8Value}
use Rattle.meaning_texts.proofs.Ascii.{decimal_utf8, low_utf8}
use Rattle.meaning_texts.proofs.Members.{HasUtf8, at_member, in_list, in_map, in_optional_list, member_utf8, number_utf8, only_of_utf8, optional_utf8, text_utf8}
use Rattle.meaning_texts.proofs.Read.{text_utf8 as tree_utf8}

-- ---- the texts and numbers of an object

text_in : (name : List ℕ) (t : Tree) (s : List ℕ) → IsUtf8Tree t → (member_of name t >>= text_of) ≡ Some s → IsUtf8 s
text_in name t s is e = text_utf8 (member_of name t) s (member_utf8 name t is) e

number_in : (name : List ℕ) (t : Tree) (s : List ℕ) → IsUtf8Tree t → (member_of name t >>= number_of) ≡ Some s → IsUtf8 s
number_in name t s is e = number_utf8 (member_of name t) s (member_utf8 name t is) e

-- ---- values

tagged_utf8 : (name : List ℕ) (t : Tree) (x : Tagged) → IsUtf8Tree t → IsTagged name t x → IsUtf8Tagged x
tagged_utf8 name t x is h = record { text = text_in name t x.text is h.text; language = text_in (codes "language") t x.language is h.language }

letter_low : (type : NumberedType) → numbered_letter type < 128
letter_low Property = omega arith
letter_low Item = omega arith

-- the id of an entity, which has its text or its type and number
entity_utf8 : (o : Option Tree) (t : Tree) (text : List ℕ) → IfSome o IsUtf8Tree → IsEntityValue o t text → IsUtf8 text
entity_utf8 None t text is h = subst IsUtf8 (sym h.is) (low_utf8 (numbered_letter h.type) _ (letter_low h.type) (decimal_utf8 h.number))
entity_utf8 (Some id) t text is h = text_utf8 (Some id) text is h.0

time_utf8 : (t : Tree) (x : TimeParts) → IsUtf8Tree t → IsTime t x → IsUtf8Time x
time_utf8 t x is h = record {
  time = text_in (codes "time") t x.time is h.time;
  precision = number_in (codes "precision") t x.precision_text is h.precision_text;
  timezone = number_in (codes "timezone") t x.timezone is h.timezone;
  calendar = text_in (codes "calendarmodel") t x.calendar is h.calendar;
}

quantity_utf8 : (t : Tree) (x : QuantityParts) → IsUtf8Tree t → IsQuantity t x → IsUtf8Quantity x
quantity_utf8 t x is h = record {
  amount = text_in (codes "amount") t x.amount is h.amount;
  unit = text_in (codes "unit") t x.unit is h.unit;
  upper = optional_utf8 (codes "upperBound") t x.upper is h.upper;
  lower = optional_utf8 (codes "lowerBound") t x.lower is h.lower;
}

precision_utf8 : (t : Tree) (o : Option (List ℕ)) → IsUtf8Tree t → HasPrecision t o → IfSome o IsUtf8
precision_utf8 t None is h = tt
precision_utf8 t (Some s) is h = number_in (codes "precision") t s is h

globe_utf8 : (t : Tree) (x : GlobeParts) → IsUtf8Tree t → IsGlobe t x → IsUtf8Globe x
globe_utf8 t x is h = record {
  latitude = number_in (codes "latitude") t x.latitude is h.latitude;
  longitude = number_in (codes "longitude") t x.longitude is h.longitude;
  precision = precision_utf8 t x.precision is h.precision;
  globe = text_in (codes "globe") t x.globe is h.globe;
}

data_utf8 : (type : List ℕ) (t : Tree) (x : Value) → IsUtf8Tree t → IsValue type t x → IsUtf8Value x
data_utf8 type t (Entity text) is h = entity_utf8 (member_of (codes "id") t) t text (member_utf8 (codes "id") t is) h.1
data_utf8 type t (Str text) is h = text_utf8 (Some t) text is h.1
data_utf8 type t (Time x) is h = time_utf8 t x is h.1
data_utf8 type t (Quantity x) is h = quantity_utf8 t x is h.1
data_utf8 type t (Globe x) is h = globe_utf8 t x is h.1
data_utf8 type t (Mono x) is h = tagged_utf8 (codes "text") t x is h.1
data_utf8 type t Other is h = tt

-- ---- statements

content_utf8 : (t : Tree) (x : Content) → IsUtf8Tree t → IsContent t x → IsUtf8Content x
content_utf8 t (AValue x) is h =
    let value = at_member (codes "value") h.1.datavalue h.1.value (at_member (codes "datavalue") t h.1.datavalue is h.1.is_datavalue) h.1.is_value in
    data_utf8 h.1.type h.1.value x value h.1.holds
content_utf8 t NoValue is h = tt
content_utf8 t SomeValue is h = tt

snak_utf8 : (p : EntityId) (n : ℕ) (t : Tree) (x : Snak) → IsUtf8Tree t → IsSnak p n t x → IsUtf8Snak x
snak_utf8 p n t x is h = content_utf8 t x.content is h.content

snaks_utf8 : (name : List ℕ) (t : Tree) (xs : List Snak) → IsUtf8Tree t → AreSnaks name t xs → All IsUtf8Snak xs
snaks_utf8 name t xs is h =
    in_map (UnderProperty (λ p value x. IsSnak p value.0 value.1 x)) IsUtf8Snak
    (λ m ys of_m s. in_list (λ value x. IsSnak s.property value.0 value.1 x) IsUtf8Snak (λ v x. snak_utf8 s.property v.0 v.1 x) m.1 ys of_m s.parts)
    name t xs is h

reference_utf8 : (t : Tree) (x : Reference) → IsUtf8Tree t → IsReference t x → IsUtf8Reference x
reference_utf8 t x is h = record { hash = text_in (codes "hash") t x.hash is h.hash; snaks = snaks_utf8 (codes "snaks") t x.snaks is h.snaks }

statement_utf8 : (p : EntityId) (t : Tree) (x : Statement) → IsUtf8Tree t → IsStatement p t x → IsUtf8Statement x
statement_utf8 p t x is h = record {
  main = snak_utf8 p 0 h.main.main x.main (at_member (codes "mainsnak") t h.main.main is h.main.is_main) h.main.holds;
  qualifiers = snaks_utf8 (codes "qualifiers") t x.qualifiers is h.qualifiers;
  references = in_optional_list (λ value y. IsReference value.1 y) IsUtf8Reference (λ v y. reference_utf8 v.1 y) (member_of (codes "references") t) x.references (member_utf8 (codes "references") t is) h.references;
}

statements_utf8 : (t : Tree) (xs : List Statement) → IsUtf8Tree t → AreStatements t xs → All IsUtf8Statement xs
statements_utf8 t xs is h =
    in_map (UnderProperty (λ p value x. IsStatement p value.1 x)) IsUtf8Statement
    (λ m ys of_m s. in_list (λ value x. IsStatement s.property value.1 x) IsUtf8Statement (λ v x. statement_utf8 s.property v.1 x) m.1 ys of_m s.parts)
    (codes "claims") t xs is h

-- ---- links and texts

link_utf8 : (t : Tree) (x : Link) → IsUtf8Tree t → IsLink t x → IsUtf8Link x
link_utf8 t x is h = text_in (codes "title") t x.title is h.title

links_utf8 : (kind : IdKind) (t : Tree) (xs : List Link) → IsUtf8Tree t → HasLinks kind t xs → All IsUtf8Link xs
links_utf8 P t xs is h = All-same IsUtf8Link xs [] h (All-nil IsUtf8Link)
links_utf8 L t xs is h = All-same IsUtf8Link xs [] h (All-nil IsUtf8Link)
links_utf8 Q t xs is h =
    in_map (One (λ member x. IsLink member.1 x)) IsUtf8Link (one-all HasUtf8 (λ member x. IsLink member.1 x) IsUtf8Link (λ m x. link_utf8 m.1 x)) (codes "sitelinks") t xs is h

labels_utf8 : (name : List ℕ) (t : Tree) (xs : List Tagged) → IsUtf8Tree t → AreLabels name t xs → All IsUtf8Tagged xs
labels_utf8 name t xs is h =
    in_map (One (λ member x. IsTagged (codes "value") member.1 x)) IsUtf8Tagged
    (one-all HasUtf8 (λ member x. IsTagged (codes "value") member.1 x) IsUtf8Tagged (λ m x. tagged_utf8 (codes "value") m.1 x)) name t xs is h

aliases_utf8 : (t : Tree) (xs : List Tagged) → IsUtf8Tree t → AreAliases t xs → All IsUtf8Tagged xs
aliases_utf8 t xs is h =
    in_map (λ member ys. InList (λ value x. IsTagged (codes "value") value.1 x) (list_of member.1) ys) IsUtf8Tagged
    (λ m ys of_m s. in_list (λ value x. IsTagged (codes "value") value.1 x) IsUtf8Tagged (λ v x. tagged_utf8 (codes "value") v.1 x) m.1 ys of_m s)
    (codes "aliases") t xs is h

-- ---- pages

of_entity : (t : Tree) (x : AnyEntity) → IsUtf8Tree t → IsEntity t x → IsUtf8Entity x
of_entity t x is h = record {
  modified = optional_utf8 (codes "modified") t x.modified is h.modified;
  labels = labels_utf8 (codes "labels") t x.labels is h.labels;
  descriptions = labels_utf8 (codes "descriptions") t x.descriptions is h.descriptions;
  aliases = aliases_utf8 t x.aliases is h.aliases;
  statements = statements_utf8 t x.statements is h.statements;
  links = links_utf8 x.id.kind t x.links is h.links;
}

of_part : (x : EntityId) (kind : PartKind) (t : Tree) (p : Part) → IsUtf8Tree t → IsPart x kind t p → IsUtf8Part p
of_part x kind t p is h = record {
  id = text_in (codes "id") t p.id is h.id;
  texts = labels_utf8 (texts_name kind) t p.texts is h.texts;
  statements = statements_utf8 t p.statements is h.statements;
}

of_parts : (x : EntityId) (kind : PartKind) (t : Tree) (ps : List Part) → IsUtf8Tree t → AreParts x kind t ps → All IsUtf8Part ps
of_parts x kind t ps is h =
    in_optional_list (λ value p. IsPart x kind value.1 p) IsUtf8Part (λ v p. of_part x kind v.1 p) (member_of (list_name kind) t) ps (member_utf8 (list_name kind) t is) h

of_lexeme : (t : Tree) (x : Lexeme) → IsUtf8Tree t → IsLexeme t x → IsUtf8Lexeme x
of_lexeme t x is h = record {
  modified = optional_utf8 (codes "modified") t x.modified is h.modified;
  lemmas = labels_utf8 (codes "lemmas") t x.lemmas is h.lemmas;
  statements = statements_utf8 t x.statements is h.statements;
  forms = of_parts x.id Form t x.forms is h.forms;
  senses = of_parts x.id Sense t x.senses is h.senses;
}

of_document : (t : Tree) (id : EntityId) (document : Document) → IsUtf8Tree t → IsDocument t id document → IsUtf8Document document
of_document t id (AnEntity x) is h = of_entity t x is h.1
of_document t id (Redirect y) is h = tt
of_document t id (ALexeme x) is h = of_lexeme t x is h.1

page_tree_utf8 : (o : Option Tree) (tree t : Tree) → IfSome o IsUtf8Tree → IsUtf8Tree tree → StandsAt o tree t → IsUtf8Tree t
page_tree_utf8 None tree t there is h = subst IsUtf8Tree (sym h) is
page_tree_utf8 (Some es) tree t there is h = only_of_utf8 es t there h

-- the document of the bytes of a page
pub page_utf8 : (x : EntityId) (bytes : List ℕ) (document : Document) → HasDocument x bytes document → IsUtf8Document document
page_utf8 x bytes document h =
    let is = tree_utf8 bytes h.tree h.has_tree.reads in
    let page = page_tree_utf8 (member_of (codes "entities") h.tree) h.tree h.is_page.page_tree (member_utf8 (codes "entities") h.tree is) is h.is_page.stands in
    of_document h.is_page.page_tree x document page h.is_page.holds

pub document_utf8 : (x : EntityId) (bytes : List ℕ) (document : Document) → document_of x bytes ≡ Some document → IsUtf8Document document
document_utf8 x bytes document is = page_utf8 x bytes document ((documents x bytes document).0 is)
