-- The two classes, the language and the category, one after the other.
use Rattle.std.proofs.Common.{[], ◌∷◌, ◌++◌}
use Rattle.std.proofs.lemmas.Result.{on_ok_weaker}
use Rattle.rdf_vocabulary.specs.declared.predicate.Predicate.TheVariants as Say
use Rattle.rdf_vocabulary.specs.declared.resource.Resource.TheVariants as Classes
use Rattle.rdf_vocabulary.specs.Predicate.{about}
use Rattle.rdf_vocabulary.specs.Prefix.{entity_term}
use Rattle.rdf_vocabulary.specs.Resource.{class_triple}
use Rattle.triple_sink.proofs.Gained.{gains_then}
use Rattle.page_rdf.proofs.entry.emit_entry.Goals as goal

pub returns-clause-gains : goal.returns-clause-gains
returns-clause-gains g c =
    let s = g.S.TripleSink in
    let entity = entity_term c.args.id in
    let lexeme = c.args.lexeme.now in
    let entry = class_triple entity Classes.LexicalEntry ∷ [] in
    let class = class_triple entity Classes.Lexeme ∷ [] in
    let language = about entity Say.Language (entity_term lexeme.language) ∷ [] in
    let category = about entity Say.LexicalCategory (entity_term lexeme.category) ∷ [] in
    let two = gains_then s.items s.keeps c.args.out.now c.emit_class.new.out c.emit_class-2.new.out entry class
    c.in_ok-emit_class.ensures.gains c.in_ok-emit_class-2.ensures.gains in
    let three = gains_then s.items s.keeps c.args.out.now c.emit_class-2.new.out c.emit_about.new.out (entry ++ class) language two c.in_ok-emit_about.ensures.gains in
    on_ok_weaker c.emit_about-2.result
    (λ h. gains_then s.items s.keeps c.args.out.now c.emit_about.new.out c.emit_about-2.new.out (entry ++ class ++ language) category three h)
    c.emit_about-2.ensures.gains
