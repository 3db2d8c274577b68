-- The type of the property, then its predicates.
use Rattle.std.proofs.Common.{OnOk, ◌++◌, append_assoc, subst, sym}
use Rattle.std.specs.Option.{option_copied}
use Rattle.std.proofs.lemmas.Result.{on_ok_weaker}
use Rattle.triple_sink.specs.Gains.{Gains}
use Rattle.triple_sink.proofs.Gained.{gains_then}
use Rattle.rdf_vocabulary.specs.Prefix.{entity_term}
use Rattle.page_rdf.specs.Property.{datatype_triples, other_predicates, property_triples_of, value_predicates}
use Rattle.page_rdf.proofs.property.emit_property.Goals as goal

pub returns-in_ok-emit_datatype-in-P-clause-gains : goal.returns-in_ok-emit_datatype-in-P-clause-gains
returns-in_ok-emit_datatype-in-P-clause-gains g c =
    let s = g.S.TripleSink in
    let said = option_copied c.args.datatype in
    let datatype = datatype_triples (entity_term c.args.id) said in
    let values = value_predicates c.args.id in
    let others = other_predicates c.args.id in
    subst (λ kind. OnOk c.emit_predicates.result (Gains s.items s.keeps c.args.out.now c.emit_predicates.new.out (property_triples_of kind c.args.id said))) (sym c.in-P.is)
    (subst (λ triples. OnOk c.emit_predicates.result (Gains s.items s.keeps c.args.out.now c.emit_predicates.new.out triples)) (sym (append_assoc datatype values others))
    (on_ok_weaker c.emit_predicates.result
    (λ h. gains_then s.items s.keeps c.args.out.now c.emit_datatype.new.out c.emit_predicates.new.out datatype (values ++ others) c.in_ok-emit_datatype-in-P.ensures.gains h)
    c.emit_predicates.ensures.gains))
