-- The triples of a small lexeme have fit and short terms.
use Rattle.std.proofs.Common.{ℕ, lit≤, ◌++◌, refl}
use Rattle.std.specs.List.{flat_map}
use Rattle.std.proofs.lemmas.List.Elements.{recursion_from_All}
use Rattle.sorted_sets.specs.Rising.{sorted}
use Rattle.rdf_term.specs.Fit.{HasFitAndShortTerms}
use Rattle.rdf_term.specs.Order.{triple_cmp}
use Rattle.entity_model.specs.declared.id.EntityId.{EntityId}
use Rattle.entity_model.specs.declared.lexeme.Lexeme.{Lexeme}
use Rattle.entity_model.specs.declared.lexeme.Part.{Part}
use Rattle.entity_model.specs.declared.mapping.MappingVersion.{MappingVersion}
use Rattle.entity_model.specs.Lexeme.{form_mark, IsSmallLexeme, IsSmallPart, sense_mark}
use Rattle.rdf_vocabulary.specs.declared.predicate.Predicate.TheVariants as Say
use Rattle.rdf_vocabulary.specs.Prefix.{entity_term}
use Rattle.rdf_vocabulary.proofs.Fit.{AreFit, join, join_all}
use Rattle.munger.proofs.Fit.{sorted_each}
use Rattle.page_rdf.proofs.Fit.{entity_fit}
use Rattle.statement_rdf.specs.Statements.{statements_triples}
use Rattle.statement_rdf.proofs.Fit.{statements_fit}
use Rattle.page_rdf.specs.Entry.{entry_triples, lemma_triples}
use Rattle.page_rdf.specs.Form.{form_triples}
use Rattle.page_rdf.specs.LexemePage.{lexeme_page_triples}
use Rattle.page_rdf.specs.Part.{part_term}
use Rattle.page_rdf.specs.Sense.{sense_triples}
use Rattle.page_rdf.proofs.LexemeFit.{entry_fit, form_fit, lexeme_page_fit, part_fit, sense_fit, texts_fit}
use Rattle.entity_rdf.specs.LexemeDump.{lexdump, part_triples, spoken_triples}
use Rattle.entity_rdf.specs.LexemeStatements.{all_statements, part_statements}

form_statements_fit : (version : MappingVersion) (x : EntityId) (f : Part) → IsSmallPart x form_mark f → AreFit (part_statements version f)
unfolding form_mark
form_statements_fit version x f small = statements_fit version (part_term f.id) f.statements (part_fit x form_mark f.id refl (lit≤ tt) small.id) small.statements

sense_statements_fit : (version : MappingVersion) (x : EntityId) (s : Part) → IsSmallPart x sense_mark s → AreFit (part_statements version s)
unfolding sense_mark
sense_statements_fit version x s small = statements_fit version (part_term s.id) s.statements (part_fit x sense_mark s.id refl (lit≤ tt) small.id) small.statements

spoken_fit : (x : EntityId) (rev : ℕ) (l : Lexeme) → IsSmallLexeme l → AreFit (spoken_triples x rev l)
spoken_fit x rev l small =
    join (entry_triples x l ++ lemma_triples x l) (lexeme_page_triples x rev l)
    (join (entry_triples x l) (lemma_triples x l) (entry_fit x l) (texts_fit Say.Lemma (entity_term x) l.lemmas (entity_fit x) small.lemmas))
    (lexeme_page_fit x rev l small)

parts_fit : (x : EntityId) (l : Lexeme) → IsSmallLexeme l → AreFit (part_triples x l)
parts_fit x l small =
    let entity = entity_term x in
    let IsForm = IsSmallPart l.id form_mark in
    let IsSense = IsSmallPart l.id sense_mark in
    join (flat_map (form_triples entity) l.forms) (flat_map (sense_triples entity) l.senses)
    (join_all IsForm (form_triples entity) l.forms (form_fit entity l.id (entity_fit x)) (recursion_from_All IsForm l.forms small.forms))
    (join_all IsSense (sense_triples entity) l.senses (sense_fit entity l.id (entity_fit x)) (recursion_from_All IsSense l.senses small.senses))

all_statements_fit : (version : MappingVersion) (x : EntityId) (l : Lexeme) → IsSmallLexeme l → AreFit (all_statements version x l)
all_statements_fit version x l small =
    let own = statements_triples version (entity_term x) l.statements in
    let forms = flat_map (part_statements version) l.forms in
    let IsForm = IsSmallPart l.id form_mark in
    let IsSense = IsSmallPart l.id sense_mark in
    join (own ++ forms) (flat_map (part_statements version) l.senses)
    (join own forms (statements_fit version (entity_term x) l.statements (entity_fit x) small.statements)
    (join_all IsForm (part_statements version) l.forms (form_statements_fit version l.id) (recursion_from_All IsForm l.forms small.forms)))
    (join_all IsSense (part_statements version) l.senses (sense_statements_fit version l.id) (recursion_from_All IsSense l.senses small.senses))

pub lexdump_list_fit : (version : MappingVersion) (x : EntityId) (rev : ℕ) (l : Lexeme) → IsSmallLexeme l → AreFit (lexdump version x rev l)
unfolding lexdump
lexdump_list_fit version x rev l small =
    let spoken = spoken_triples x rev l in
    let of_parts = part_triples x l in
    join (spoken ++ of_parts) (all_statements version x l)
    (join spoken of_parts (spoken_fit x rev l small) (parts_fit x l small))
    (all_statements_fit version x l small)

-- the set of a small lexeme's triples
pub lexdump_fit : (version : MappingVersion) (x : EntityId) (rev : ℕ) (l : Lexeme) → IsSmallLexeme l → AreFit (sorted triple_cmp (lexdump version x rev l))
lexdump_fit version x rev l small = sorted_each HasFitAndShortTerms triple_cmp (lexdump version x rev l) (lexdump_list_fit version x rev l small)
