-- The rules, one after the other; the forms and the senses are one part.
use Rattle.std.proofs.Common.{◌++◌}
use Rattle.std.specs.List.{flat_map}
use Rattle.std.proofs.lemmas.Result.{on_ok_weaker}
use Rattle.triple_sink.proofs.Gained.{gains_then}
use Rattle.rdf_vocabulary.specs.Prefix.{entity_term}
use Rattle.entity_rdf.specs.LexemeDump.{lexdump}
use Rattle.page_rdf.specs.Entry.{entry_triples, lemma_triples}
use Rattle.page_rdf.specs.Form.{form_triples}
use Rattle.page_rdf.specs.LexemePage.{lexeme_page_triples}
use Rattle.page_rdf.specs.Sense.{sense_triples}
use Rattle.entity_rdf.specs.LexemeStatements.{all_statements}
use Rattle.entity_rdf.proofs.lexeme_walk.emit_lexeme.Goals as goal

pub returns-clause-gains : goal.returns-clause-gains
unfolding lexdump
returns-clause-gains g c =
    let s = g.S.TripleSink in
    let id = c.args.id in
    let lexeme = c.args.lexeme.now in
    let entry = entry_triples id lexeme in
    let lemmas = lemma_triples id lexeme in
    let page = lexeme_page_triples id c.args.rev lexeme in
    let forms = flat_map (form_triples (entity_term id)) lexeme.forms in
    let senses = flat_map (sense_triples (entity_term id)) lexeme.senses in
    let statements = all_statements c.args.setting.version id lexeme in
    let named = gains_then s.items s.keeps c.args.out.now c.emit_entry.new.out c.emit_texts.new.out entry lemmas
    c.in_ok-emit_entry.ensures.gains (rw c.as_slice-lemmas.ensures at c.in_ok-emit_texts.ensures.gains) in
    let spoken = gains_then s.items s.keeps c.args.out.now c.emit_texts.new.out c.emit_lexeme_page.new.out (entry ++ lemmas) page
    named c.in_ok-emit_lexeme_page.ensures.gains in
    let parts = gains_then s.items s.keeps c.emit_lexeme_page.new.out c.emit_parts.new.out c.emit_parts-2.new.out forms senses
    (rw c.as_slice-forms.ensures at c.in_ok-emit_parts.ensures.gains) (rw c.as_slice-senses.ensures at c.in_ok-emit_parts-2.ensures.gains) in
    let told = gains_then s.items s.keeps c.args.out.now c.emit_lexeme_page.new.out c.emit_parts-2.new.out (entry ++ lemmas ++ page) (forms ++ senses) spoken parts in
    on_ok_weaker c.emit_all_statements.result
    (λ h. gains_then s.items s.keeps c.args.out.now c.emit_parts-2.new.out c.emit_all_statements.new.out (entry ++ lemmas ++ page ++ (forms ++ senses)) statements told h)
    c.emit_all_statements.ensures.gains
