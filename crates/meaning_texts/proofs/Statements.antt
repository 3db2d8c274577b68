-- What the rules give for statements whose texts are UTF-8 has terms of UTF-8.
use Rattle.std.proofs.Common.{◌≡◌, ℕ, ◌<◌, Bool, true, false, cond, List, [], ◌∷◌, Option, Some, None, refl, sym, subst, arith}
use Rattle.std.specs.Prelude.{IfSome, option_map}
use Rattle.std.specs.List.{All}
use Rattle.std.specs.Str.{IsUtf8}
use Rattle.std.proofs.lemmas.Bool.Decides.{nat_tests}
use Rattle.std.proofs.lemmas.List.Elements.{recursion_from_All}
use Rattle.std.proofs.lemmas.Str.{IsUtf8-nil}
use Rattle.sorted_sets.specs.Rising.{In}
use Rattle.rdf_term.specs.declared.term.Term.{Term}
use Rattle.rdf_term.specs.declared.triple.Triple.{Triple}
use Rattle.rdf_term.proofs.Utf8Texts.{blank_utf8}
use Rattle.entity_model.specs.declared.mapping.MappingVersion.{MappingVersion}
use Rattle.entity_model.specs.declared.snak.Snak.{Snak}
use Rattle.entity_model.specs.declared.snak.Content.TheVariants as Contents
use Rattle.entity_model.specs.declared.value.Value.{Value}
use Rattle.entity_model.specs.declared.statement.Reference.{Reference}
use Rattle.entity_model.specs.declared.statement.Statement.{Statement}
use Rattle.rdf_vocabulary.specs.declared.predicate.Predicate.TheVariants as Predicates
use Rattle.rdf_vocabulary.specs.declared.prefix.Prefix.TheVariants.{P, Wdno, Wdref, Wds, Wdt, Wdv}
use Rattle.rdf_vocabulary.specs.declared.resource.Resource.TheVariants as Resources
use Rattle.rdf_vocabulary.specs.Fields.{hashed_name}
use Rattle.rdf_vocabulary.specs.Prefix.{prefixed}
use Rattle.rdf_vocabulary.proofs.Shared.{chosen}
use Rattle.value_nodes.specs.Name.{name_fields}
use Rattle.value_nodes.specs.Nodes.{node_triples}
use Rattle.value_nodes.specs.Terms.{simple_term}
use Rattle.statement_facts.specs.declared.role.Role.{Role}
use Rattle.statement_facts.specs.declared.role.Role.TheVariants as Roles
use Rattle.statement_facts.specs.Label.{unknown_node}
use Rattle.statement_facts.specs.Node.{is_continuation, is_node_char, name_byte, name_char, reference_node, statement_name, statement_node}
use Rattle.statement_facts.specs.Role.{node_prefix, value_prefix}
use Rattle.statement_rdf.specs.Gives.{DirectGives, SnakGives, StatementGives, best_rank, best_snak, claim, derived, direct_no_value, direct_unknown, direct_value, main_snak, no_value, node_part, qualifier_snak, simple_value, source_class, source_snak, statement_class, statement_rank, unknown_value, value_node}
use Rattle.statement_rdf.specs.Statement.{rank_resource}
use Rattle.statement_rdf.proofs.Each.{of_member}
use Rattle.meaning_texts.specs.Documents.{IsUtf8Content, IsUtf8Reference, IsUtf8Snak, IsUtf8Statement, IsUtf8Value}
use Rattle.meaning_texts.specs.Terms.{HasUtf8Terms, IsUtf8Term}
use Rattle.meaning_texts.proofs.Ascii.{each_utf8, low_utf8}
use Rattle.meaning_texts.proofs.Values.{name_utf8, node_utf8, simple_utf8}
use Rattle.meaning_texts.proofs.Vocabulary.{hashed_utf8, id_utf8, predicate_utf8, prefixed_utf8, resource_utf8, triple_utf8}

-- what holds of each element of a list holds of a member
pub of_all : {A : Type 0} (Holds : A → Type 0) (xs : List A) (a : A) → All Holds xs → In a xs → Holds a
of_all Holds xs a all there = of_member Holds xs a (recursion_from_All Holds xs all) there

-- a triple that is one of UTF-8
pub same_utf8 : (t u : Triple) → HasUtf8Terms u → t ≡ u → HasUtf8Terms t
same_utf8 t u is same = subst HasUtf8Terms (sym same) is

-- ---- nodes

node_char_low : (c : ℕ) → is_node_char c ≡ true → c < 128
node_char_low c is = grind (arith, nat_tests)

name_char_low : (c : ℕ) → name_char c < 128
name_char_low c = by (is_node_char c) refl
  where
    by : (b : Bool) → is_node_char c ≡ b → cond b c 45 < 128
    by true is = node_char_low c is
    by false is = omega arith

name_byte_utf8 : (b : ℕ) → IsUtf8 (name_byte b)
name_byte_utf8 b = chosen IsUtf8 (is_continuation b) [] (name_char b ∷ []) IsUtf8-nil (low_utf8 (name_char b) [] (name_char_low b) IsUtf8-nil)

statement_node_utf8 : (id : List ℕ) → IsUtf8Term (statement_node id)
statement_node_utf8 id = prefixed_utf8 Wds (statement_name id) (each_utf8 name_byte name_byte_utf8 id)

unknown_utf8 : (id : List ℕ) (role : Role) (snak : Snak) → IsUtf8Term (unknown_node id role snak)
unknown_utf8 id role snak = blank_utf8 _ (hashed_utf8 _)

-- ---- snaks

value_of : (snak : Snak) (value : Value) → IsUtf8Snak snak → snak.content ≡ Contents.Value value → IsUtf8Value value
value_of snak value is content = subst IsUtf8Content content is

term_of : (snak : Snak) (value : Value) (term : Term) → IsUtf8Snak snak → snak.content ≡ Contents.Value value → simple_term snak.datatype value ≡ Some term → IsUtf8Term term
term_of snak value term is content there = subst (λ o. IfSome o IsUtf8Term) there (simple_utf8 snak.datatype value (value_of snak value is content))

named : (fields : Option (List ℕ)) → IfSome (option_map hashed_name fields) (λ name. IsUtf8Term (prefixed Wdv name))
named None = tt
named (Some fields) = name_utf8 fields

module _ (version : MappingVersion) (subject : Term) (id : List ℕ) (role : Role) (snak : Snak) (t : Triple) (s : IsUtf8Term subject) (is : IsUtf8Snak snak) where
  pub snak_utf8 : SnakGives version subject id role snak t → HasUtf8Terms t
  snak_utf8 (simple_value value term content there same) = same_utf8 t _ (triple_utf8 subject _ term s (id_utf8 (value_prefix role) snak.property) (term_of snak value term is content there)) same
  snak_utf8 (value_node value name content there same) =
      same_utf8 t _ (triple_utf8 subject _ _ s (id_utf8 (node_prefix role) snak.property) (subst (λ o. IfSome o (λ n. IsUtf8Term (prefixed Wdv n))) there (named (name_fields version value)))) same
  snak_utf8 (node_part value content there) = of_member HasUtf8Terms (node_triples version value) t (node_utf8 version value (value_of snak value is content)) there
  snak_utf8 (no_value content same) = same_utf8 t _ (triple_utf8 subject _ _ s (predicate_utf8 Predicates.RdfType) (id_utf8 Wdno snak.property)) same
  snak_utf8 (unknown_value content same) = same_utf8 t _ (triple_utf8 subject _ _ s (id_utf8 (value_prefix role) snak.property) (unknown_utf8 id role snak)) same

module _ (entity : Term) (id : List ℕ) (snak : Snak) (t : Triple) (e : IsUtf8Term entity) (is : IsUtf8Snak snak) where
  direct_utf8 : DirectGives entity id snak t → HasUtf8Terms t
  direct_utf8 (direct_value value term content there same) = same_utf8 t _ (triple_utf8 entity _ term e (id_utf8 Wdt snak.property) (term_of snak value term is content there)) same
  direct_utf8 (direct_no_value content same) = same_utf8 t _ (triple_utf8 entity _ _ e (predicate_utf8 Predicates.RdfType) (id_utf8 Wdno snak.property)) same
  direct_utf8 (direct_unknown content same) = same_utf8 t _ (triple_utf8 entity _ _ e (id_utf8 Wdt snak.property) (unknown_utf8 id Roles.Main snak)) same

-- ---- statements

module _ (version : MappingVersion) (entity : Term) (s : Statement) (best : Bool) (t : Triple) (e : IsUtf8Term entity) (is : IsUtf8Statement s) where
  n : IsUtf8Term (statement_node s.id)
  n = statement_node_utf8 s.id

  reference : (r : Reference) → In r s.references → IsUtf8Reference r
  reference r there = of_all IsUtf8Reference s.references r is.references there

  source : (r : Reference) → In r s.references → IsUtf8Term (reference_node r.hash)
  source r there = prefixed_utf8 Wdref r.hash (reference r there).hash

  pub statement_utf8 : StatementGives version entity s best t → HasUtf8Terms t
  statement_utf8 (claim same) = same_utf8 t _ (triple_utf8 entity _ _ e (id_utf8 P s.property) n) same
  statement_utf8 (statement_class same) = same_utf8 t _ (triple_utf8 _ _ _ n (predicate_utf8 Predicates.RdfType) (resource_utf8 Resources.Statement)) same
  statement_utf8 (statement_rank same) = same_utf8 t _ (triple_utf8 _ _ _ n (predicate_utf8 Predicates.Rank) (resource_utf8 (rank_resource s.rank))) same
  statement_utf8 (best_rank so same) = same_utf8 t _ (triple_utf8 _ _ _ n (predicate_utf8 Predicates.RdfType) (resource_utf8 Resources.BestRank)) same
  statement_utf8 (main_snak gives) = snak_utf8 version (statement_node s.id) s.id Roles.Main s.main t n is.main gives
  statement_utf8 (best_snak so gives) = direct_utf8 entity s.id s.main t e is.main gives
  statement_utf8 (qualifier_snak snak there gives) = snak_utf8 version (statement_node s.id) s.id Roles.Qualifier snak t n (of_all IsUtf8Snak s.qualifiers snak is.qualifiers there) gives
  statement_utf8 (derived r there same) = same_utf8 t _ (triple_utf8 _ _ _ n (predicate_utf8 Predicates.WasDerivedFrom) (source r there)) same
  statement_utf8 (source_class r there same) = same_utf8 t _ (triple_utf8 _ _ _ (source r there) (predicate_utf8 Predicates.RdfType) (resource_utf8 Resources.Reference)) same
  statement_utf8 (source_snak r snak there within gives) = snak_utf8 version (reference_node r.hash) s.id (Roles.Reference r.hash) snak t (source r there) (of_all IsUtf8Snak r.snaks snak (reference r there).snaks within) gives
