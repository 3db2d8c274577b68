-- How many triples the rules give for a document: at most a fixed number for each of its parts.
use Rattle.std.proofs.Common.{◌≡◌, ℕ, ◌+◌, ◌*◌, ◌≤◌, Bool, true, false, cond, List, [], ◌∷◌, ◌++◌, length, map, Option, Some, None, arith}
use Rattle.std.specs.List.{flat_map, sum_by}
use Rattle.std.proofs.lemmas.List.{length-append, length-map}
use Rattle.std.proofs.lemmas.List.Sums.{sum_by-cons}
use Rattle.rdf_term.specs.declared.term.Term.{Term}
use Rattle.rdf_term.specs.declared.term.Term.TheVariants.{Iri}
use Rattle.rdf_term.specs.declared.triple.Triple.{Triple}
use Rattle.rdf_term.specs.Grammar.{iri_of, is_word, tagged_of}
use Rattle.entity_model.specs.declared.id.IdKind.{IdKind}
use Rattle.entity_model.specs.declared.id.IdKind.TheVariants as Letter
use Rattle.entity_model.specs.declared.id.EntityId.{EntityId}
use Rattle.entity_model.specs.declared.mapping.MappingVersion.{MappingVersion}
use Rattle.entity_model.specs.declared.value.Value.{Value}
use Rattle.entity_model.specs.declared.value.Value.TheVariants.{Entity, Str, Time, Quantity, Globe, Mono, Other}
use Rattle.entity_model.specs.declared.snak.Snak.{Snak}
use Rattle.entity_model.specs.declared.snak.Content.{Content}
use Rattle.entity_model.specs.declared.snak.Content.TheVariants as Contents
use Rattle.entity_model.specs.declared.statement.Reference.{Reference}
use Rattle.entity_model.specs.declared.statement.Statement.{Statement}
use Rattle.entity_model.specs.declared.entity.Link.{Link}
use Rattle.entity_model.specs.declared.entity.Entity.{Entity as AnyEntity}
use Rattle.entity_model.specs.declared.lexeme.Lexeme.{Lexeme}
use Rattle.entity_model.specs.declared.lexeme.Part.{Part}
use Rattle.rdf_vocabulary.specs.declared.datatype.Datatype.TheVariants.{Double}
use Rattle.rdf_vocabulary.specs.declared.predicate.Predicate.{Predicate}
use Rattle.rdf_vocabulary.specs.declared.predicate.Predicate.TheVariants as Say
use Rattle.rdf_vocabulary.specs.declared.prefix.Prefix.TheVariants.{Wdv}
use Rattle.rdf_vocabulary.specs.declared.resource.Resource.TheVariants as Resources
use Rattle.rdf_vocabulary.specs.Datatype.{typed}
use Rattle.rdf_vocabulary.specs.Predicate.{about}
use Rattle.rdf_vocabulary.specs.Prefix.{entity_term, id_term, prefixed}
use Rattle.rdf_vocabulary.specs.Resource.{class_triple}
use Rattle.value_nodes.specs.Name.{node_name}
use Rattle.value_nodes.specs.Nodes.{bound_triples, named_triples, node_triples, precision_triples, unit_term, value_part_triples}
use Rattle.value_nodes.specs.Said.{object_triples}
use Rattle.value_nodes.specs.Terms.{amount_term, simple_term}
use Rattle.sitelinks.specs.declared.sites.Site.{Site}
use Rattle.sitelinks.specs.Article.{article_head_triples, article_iri, article_triples, badge_triple, found_triples, group_triple}
use Rattle.sitelinks.specs.Site.{site_of}
use Rattle.statement_facts.specs.declared.role.Role.{Role}
use Rattle.statement_facts.specs.declared.role.Role.TheVariants as Roles
use Rattle.statement_facts.specs.Node.{reference_node, statement_node}
use Rattle.statement_facts.specs.Ranking.{is_best}
use Rattle.statement_facts.specs.Role.{node_prefix, value_prefix}
use Rattle.statement_rdf.specs.Snak.{content_triples, link_triples, snak_triples}
use Rattle.statement_rdf.specs.Statement.{direct_content, direct_triples, head_triples, main_triples, qualifier_triples, reference_triples, source_triples, statement_triples, where_best}
use Rattle.statement_rdf.specs.Statements.{judged_triples, statements_triples}
use Rattle.page_rdf.specs.About.{alias_triples, class_triples, dataset_triples, description_triples, label_triples, link_count, text_triples}
use Rattle.page_rdf.specs.Dataset.{change_triples, dataset_term, number_triples, page_triples}
use Rattle.page_rdf.specs.Entry.{entry_triples, lemma_triples}
use Rattle.page_rdf.specs.Form.{feature_triples, form_head, form_triples}
use Rattle.page_rdf.specs.LexemePage.{lexeme_page_triples}
use Rattle.page_rdf.specs.LexemeTexts.{text_triples as lexeme_text_triples}
use Rattle.page_rdf.specs.Part.{part_term}
use Rattle.page_rdf.specs.Property.{datatype_triples, is_datatype_char, other_predicates, property_triples, property_triples_of, value_predicates}
use Rattle.page_rdf.specs.Sense.{sense_head, sense_triples}
use Rattle.page_rdf.specs.Spoken.{spoken_triples}
use Rattle.entity_rdf.specs.LexemeDump.{lexdump, part_triples, spoken_triples as lexeme_spoken}
use Rattle.entity_rdf.specs.LexemeStatements.{all_statements, part_statements}
use Rattle.entity_rdf.specs.Dump.{entity_triples}
use Rattle.meaning_texts.proofs.Sizes.{badges_size, one, part_size, reference_size, statement_size}

-- ---- lists

flat_few : {A B : Type 0} (f : A → List B) (size : A → ℕ) → ((x : A) → length (f x) ≤ 32 * size x) → (xs : List A) → length (flat_map f xs) ≤ 32 * sum_by size xs
flat_few f size each [] = omega arith
flat_few f size each (x ∷ xs) = omega (arith, each x, flat_few f size each xs, length-append (f x) (flat_map f xs), sum_by-cons size x xs)

flat_both : {A B : Type 0} (f : A → List B) (size other : A → ℕ) → ((x : A) → length (f x) ≤ 32 * size x + 32 * other x) → (xs : List A) → length (flat_map f xs) ≤ 32 * sum_by size xs + 32 * sum_by other xs
flat_both f size other each [] = omega arith
flat_both f size other each (x ∷ xs) = omega (arith, each x, flat_both f size other each xs, length-append (f x) (flat_map f xs), sum_by-cons size x xs, sum_by-cons other x xs)

ones : {A : Type 0} (xs : List A) → sum_by one xs ≡ length xs
ones [] = omega arith
ones (x ∷ xs) = omega (arith, ones xs, sum_by-cons one x xs)

-- ---- values

bound_few : (node : Term) (predicate : Predicate) (bound : Option (List ℕ)) → length (bound_triples node predicate bound) ≤ 1
bound_few node predicate None = omega arith
bound_few node predicate (Some bound) = omega arith

precision_few : (node : Term) (precision : Option (List ℕ)) → length (precision_triples node precision) ≤ 1
precision_few node None = omega arith
precision_few node (Some precision) = omega arith

value_few : (node : Term) (value : Value) → length (value_part_triples node value) ≤ 6
value_few node (Time time) = omega arith
value_few node (Quantity quantity) =
    let front = about node Say.QuantityAmount (amount_term quantity.amount) ∷ about node Say.QuantityUnit (unit_term quantity.unit) ∷ [] in
    let upper = bound_triples node Say.QuantityUpperBound quantity.upper in
    let lower = bound_triples node Say.QuantityLowerBound quantity.lower in
    omega (arith, bound_few node Say.QuantityUpperBound quantity.upper, bound_few node Say.QuantityLowerBound quantity.lower, length-append front upper, length-append (front ++ upper) lower)
value_few node (Globe globe) =
    let front = about node Say.GeoLatitude (typed globe.latitude Double) ∷ about node Say.GeoLongitude (typed globe.longitude Double) ∷ [] in
    let precision = precision_triples node globe.precision in
    omega (arith, precision_few node globe.precision, length-append front precision, length-append (front ++ precision) (about node Say.GeoGlobe (iri_of globe.globe) ∷ []))
value_few node (Entity id) = omega arith
value_few node (Str text) = omega arith
value_few node (Mono tagged) = omega arith
value_few node Other = omega arith

named_few : (value : Value) (name : Option (List ℕ)) → length (named_triples value name) ≤ 6
named_few value None = omega arith
named_few value (Some name) = value_few (prefixed Wdv name) value

-- ---- statements

object_few : (subject predicate : Term) (object : Option Term) → length (object_triples subject predicate object) ≤ 1
object_few subject predicate None = omega arith
object_few subject predicate (Some object) = omega arith

link_few : (subject predicate : Term) (name : Option (List ℕ)) → length (link_triples subject predicate name) ≤ 1
link_few subject predicate None = omega arith
link_few subject predicate (Some name) = omega arith

content_few : (version : MappingVersion) (subject : Term) (id : List ℕ) (role : Role) (snak : Snak) (content : Content) → length (content_triples version subject id role snak content) ≤ 8
content_few version subject id role snak (Contents.Value value) =
    let by_value = id_term (value_prefix role) snak.property in
    let by_node = id_term (node_prefix role) snak.property in
    let objects = object_triples subject by_value (simple_term snak.datatype value) in
    let links = link_triples subject by_node (node_name version value) in
    omega (
      arith,
      object_few subject by_value (simple_term snak.datatype value),
      link_few subject by_node (node_name version value),
      named_few value (node_name version value),
      length-append objects links,
      length-append (objects ++ links) (node_triples version value),
    )
content_few version subject id role snak Contents.NoValue = omega arith
content_few version subject id role snak Contents.SomeValue = omega arith

snaks_few : (version : MappingVersion) (subject : Term) (id : List ℕ) (role : Role) (snaks : List Snak) → length (flat_map (snak_triples version subject id role) snaks) ≤ 32 * sum_by one snaks
snaks_few version subject id role snaks = flat_few (snak_triples version subject id role) one (λ snak. omega (arith, content_few version subject id role snak snak.content)) snaks

direct_few : (entity : Term) (id : List ℕ) (snak : Snak) (content : Content) → length (direct_content entity id snak content) ≤ 1
direct_few entity id snak (Contents.Value value) = object_few entity _ (simple_term snak.datatype value)
direct_few entity id snak Contents.NoValue = omega arith
direct_few entity id snak Contents.SomeValue = omega arith

best_few : (best : Bool) (triples : List Triple) → length triples ≤ 1 → length (where_best best triples) ≤ 1
best_few true triples few = few
best_few false triples few = omega arith

reference_few : (version : MappingVersion) (node : Term) (id : List ℕ) (r : Reference) → length (reference_triples version node id r) ≤ 32 * reference_size r
reference_few version node id r =
    let source = reference_node r.hash in
    let role = Roles.Reference r.hash in
    omega (arith, snaks_few version source id role r.snaks, length-append (source_triples node source) (flat_map (snak_triples version source id role) r.snaks))

statement_few : (version : MappingVersion) (entity : Term) (best : Bool) (s : Statement) → length (statement_triples version entity s best) ≤ 32 * statement_size s
statement_few version entity best s =
    let node = statement_node s.id in
    let head = head_triples entity node s best in
    let said = snak_triples version node s.id Roles.Main s.main in
    let direct = direct_triples entity s.id s.main in
    let main = main_triples version entity node s best in
    let qualifiers = qualifier_triples version node s in
    let references = flat_map (reference_triples version node s.id) s.references in
    omega (
      arith,
      best_few best (class_triple node Resources.BestRank ∷ []) (omega arith),
      content_few version node s.id Roles.Main s.main s.main.content,
      best_few best direct (direct_few entity s.id s.main s.main.content),
      snaks_few version node s.id Roles.Qualifier s.qualifiers,
      flat_few (reference_triples version node s.id) reference_size (reference_few version node s.id) s.references,
      length-append said (where_best best direct),
      length-append head main,
      length-append (head ++ main) qualifiers,
      length-append (head ++ main ++ qualifiers) references,
    )

statements_few : (version : MappingVersion) (subject : Term) (all : List Statement) → length (statements_triples version subject all) ≤ 32 * sum_by statement_size all
statements_few version subject all = flat_few (judged_triples version subject all) statement_size (λ s. statement_few version subject (is_best all s) s) all

-- ---- links

found_few : (entity : EntityId) (link : Link) (found : Option Site) → length (found_triples entity link found) ≤ 32 * one link + 32 * badges_size link
found_few entity link None = omega arith
found_few entity link (Some site) =
    let article = Iri (article_iri site link.title) in
    let head = article_head_triples article entity site in
    let name = about article Say.Name (tagged_of link.title site.language) ∷ [] in
    let badges = map (badge_triple article) link.badges in
    omega (
      arith,
      ones link.badges,
      length-map link.badges (badge_triple article),
      length-append head name,
      length-append (head ++ name) badges,
      length-append (head ++ name ++ badges) (group_triple site ∷ []),
    )

articles_few : (x : EntityId) (links : List Link) → length (flat_map (article_triples x) links) ≤ 32 * sum_by one links + 32 * sum_by badges_size links
articles_few x links = flat_both (article_triples x) one badges_size (λ link. found_few x link (site_of link.site)) links

-- ---- the page of an item or a property

change_few : (dataset : Term) (time : Option (List ℕ)) → length (change_triples dataset time) ≤ 1
change_few dataset None = omega arith
change_few dataset (Some time) = omega arith

count_few : (kind : IdKind) (dataset : Term) (n : ℕ) → length (link_count kind dataset n) ≤ 1
count_few Letter.P dataset n = omega arith
count_few Letter.Q dataset n = omega arith
count_few Letter.L dataset n = omega arith

typed_few : (b : Bool) (triple : Triple) → length (cond b (triple ∷ []) []) ≤ 1
typed_few true triple = omega arith
typed_few false triple = omega arith

datatype_few : (entity : Term) (datatype : Option (List ℕ)) → length (datatype_triples entity datatype) ≤ 1
datatype_few entity None = omega arith
datatype_few entity (Some datatype) = typed_few (is_word is_datatype_char datatype) _

property_few : (kind : IdKind) (x : EntityId) (datatype : Option (List ℕ)) → length (property_triples_of kind x datatype) ≤ 10
property_few Letter.P x datatype =
    let types = datatype_triples (entity_term x) datatype in
    omega (arith, datatype_few (entity_term x) datatype, length-append types (value_predicates x), length-append (types ++ value_predicates x) (other_predicates x))
property_few Letter.Q x datatype = omega arith
property_few Letter.L x datatype = omega arith

texts_few : (x : EntityId) (e : AnyEntity) → length (text_triples x e) ≤ 1 + 32 * sum_by one e.labels + 32 * sum_by one e.descriptions + 32 * sum_by one e.aliases
texts_few x e =
    let node = entity_term x in
    let labels = flat_map (label_triples node) e.labels in
    let descriptions = flat_map (description_triples node) e.descriptions in
    let aliases = flat_map (alias_triples node) e.aliases in
    omega (
      arith,
      flat_few (label_triples node) one (λ l. omega arith) e.labels,
      flat_few (description_triples node) one (λ d. omega arith) e.descriptions,
      flat_few (alias_triples node) one (λ a. omega arith) e.aliases,
      length-append (class_triples x) labels,
      length-append (class_triples x ++ labels) descriptions,
      length-append (class_triples x ++ labels ++ descriptions) aliases,
    )

dataset_few : (x : EntityId) (rev : ℕ) (e : AnyEntity) → length (dataset_triples x rev e) ≤ 9
dataset_few x rev e =
    let node = dataset_term x in
    let numbers = number_triples node rev e.statements in
    let count = link_count x.kind node (length e.links) in
    omega (
      arith,
      count_few x.kind node (length e.links),
      change_few node e.modified,
      length-append (page_triples x) numbers,
      length-append (page_triples x ++ numbers) count,
      length-append (page_triples x ++ numbers ++ count) (change_triples node e.modified),
    )

pub entity_few : (version : MappingVersion) (x : EntityId) (rev : ℕ) (e : AnyEntity) → length (entity_triples version x rev e)
    ≤ 20 + 32 * sum_by one e.labels + 32 * sum_by one e.descriptions + 32 * sum_by one e.aliases + 32 * sum_by one e.links + 32 * sum_by badges_size e.links + 32 * sum_by statement_size e.statements
entity_few version x rev e =
    let texts = text_triples x e in
    let set = dataset_triples x rev e in
    let spoken = spoken_triples x rev e in
    let articles = flat_map (article_triples x) e.links in
    omega (
      arith,
      texts_few x e,
      dataset_few x rev e,
      property_few x.kind x e.datatype,
      articles_few x e.links,
      statements_few version (entity_term x) e.statements,
      length-append texts set,
      length-append (texts ++ set) (property_triples x e.datatype),
      length-append spoken articles,
      length-append (spoken ++ articles) (statements_triples version (entity_term x) e.statements),
    )

-- ---- the page of a lexeme

form_few : (entity : Term) (f : Part) → length (form_triples entity f) ≤ 32 * part_size f
form_few entity f =
    let node = part_term f.id in
    let texts = flat_map (lexeme_text_triples Say.Representation node) f.texts in
    let features = flat_map (feature_triples node) f.features in
    omega (
      arith,
      flat_few (lexeme_text_triples Say.Representation node) one (λ t. omega arith) f.texts,
      flat_few (feature_triples node) one (λ i. omega arith) f.features,
      length-append (form_head entity node) texts,
      length-append (form_head entity node ++ texts) features,
    )

sense_few : (entity : Term) (s : Part) → length (sense_triples entity s) ≤ 32 * part_size s
sense_few entity s =
    let node = part_term s.id in
    omega (
      arith,
      flat_few (lexeme_text_triples Say.Definition node) one (λ t. omega arith) s.texts,
      length-append (sense_head entity node) (flat_map (lexeme_text_triples Say.Definition node) s.texts),
    )

part_statements_few : (version : MappingVersion) (p : Part) → length (part_statements version p) ≤ 32 * part_size p
part_statements_few version p = omega (arith, statements_few version (part_term p.id) p.statements)

pub lexeme_few : (version : MappingVersion) (x : EntityId) (rev : ℕ) (l : Lexeme) → length (lexdump version x rev l)
    ≤ 12 + 32 * sum_by one l.lemmas + 32 * sum_by statement_size l.statements + 64 * sum_by part_size l.forms + 64 * sum_by part_size l.senses
unfolding lexdump
lexeme_few version x rev l =
    let entity = entity_term x in
    let numbers = number_triples (dataset_term x) rev l.statements in
    let page = lexeme_page_triples x rev l in
    let spoken = lexeme_spoken x rev l in
    let forms = flat_map (form_triples entity) l.forms in
    let senses = flat_map (sense_triples entity) l.senses in
    let own = statements_triples version entity l.statements in
    let of_forms = flat_map (part_statements version) l.forms in
    let of_senses = flat_map (part_statements version) l.senses in
    omega (
      arith,
      flat_few (lexeme_text_triples Say.Lemma entity) one (λ t. omega arith) l.lemmas,
      change_few (dataset_term x) l.modified,
      flat_few (form_triples entity) part_size (form_few entity) l.forms,
      flat_few (sense_triples entity) part_size (sense_few entity) l.senses,
      statements_few version entity l.statements,
      flat_few (part_statements version) part_size (part_statements_few version) l.forms,
      flat_few (part_statements version) part_size (part_statements_few version) l.senses,
      length-append (page_triples x) numbers,
      length-append (page_triples x ++ numbers) (change_triples (dataset_term x) l.modified),
      length-append (entry_triples x l) (lemma_triples x l),
      length-append (entry_triples x l ++ lemma_triples x l) page,
      length-append forms senses,
      length-append own of_forms,
      length-append (own ++ of_forms) of_senses,
      length-append spoken (part_triples x l),
      length-append (spoken ++ part_triples x l) (all_statements version x l),
    )
