-- The head, the main snak, the qualifiers and the references, one after the other.
use Rattle.std.proofs.Common.{◌≡◌, ◌++◌, ◌∙◌, ap, subst}
use Rattle.std.specs.List.{flat_map}
use Rattle.std.proofs.lemmas.Result.{on_ok_weaker}
use Rattle.triple_sink.specs.Gains.{Gains}
use Rattle.triple_sink.specs.TermRef.{meant}
use Rattle.triple_sink.proofs.Gained.{gains_then}
use Rattle.statement_rdf.specs.Statement.{head_triples, main_triples, qualifier_triples, reference_triples}
use Rattle.statement_rdf.proofs.statement.emit_all_parts.Goals as goal

pub returns-clause-gains : goal.returns-clause-gains
returns-clause-gains g c =
    let s = g.S.TripleSink in
    let version = c.args.setting.version in
    let entity = meant c.args.entity.now in
    let node = meant c.args.node.now in
    let statement = c.args.statement.now in
    let head = head_triples entity node statement c.args.best in
    let main = main_triples version entity node statement c.args.best in
    let qualifiers = qualifier_triples version node statement in
    let references = flat_map (reference_triples version node statement.id) statement.references in
    let two = gains_then s.items s.keeps c.args.out.now c.emit_head.new.out c.emit_main.new.out head main
    c.in_ok-emit_head.ensures.gains c.in_ok-emit_main.ensures.gains in
    let three = gains_then s.items s.keeps c.args.out.now c.emit_main.new.out c.emit_qualifiers.new.out (head ++ main) qualifiers two
    c.in_ok-emit_qualifiers.ensures.gains in
    let id : c.emit_qualifiers.new.labels ≡ statement.id =
    c.in_ok-emit_qualifiers.ensures.same ∙ c.in_ok-emit_main.ensures.same ∙ c.new-labels.ensures ∙ c.as_str.ensures in
    let is : flat_map (reference_triples version node c.emit_qualifiers.new.labels) c.as_slice-references.result.now ≡ references =
    ap (λ l. flat_map (reference_triples version node l) c.as_slice-references.result.now) id
    ∙ ap (flat_map (reference_triples version node statement.id)) c.as_slice-references.ensures in
    on_ok_weaker c.emit_references.result
    (λ h. gains_then s.items s.keeps c.args.out.now c.emit_qualifiers.new.out c.emit_references.new.out (head ++ main ++ qualifiers) references three
    (subst (λ l. Gains s.items s.keeps c.emit_qualifiers.new.out c.emit_references.new.out l) is h))
    c.emit_references.ensures.gains
