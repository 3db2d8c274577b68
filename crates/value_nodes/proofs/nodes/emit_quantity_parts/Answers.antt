-- The amount, the unit and the two bounds, one after the other.
use Rattle.std.proofs.Common.{[], ◌∷◌, ◌++◌}
use Rattle.std.proofs.lemmas.Result.{on_ok_weaker}
use Rattle.rdf_vocabulary.specs.declared.predicate.Predicate.TheVariants.{QuantityAmount, QuantityUnit, QuantityUpperBound, QuantityLowerBound}
use Rattle.rdf_vocabulary.specs.Predicate.{about}
use Rattle.triple_sink.specs.TermRef.{meant}
use Rattle.triple_sink.proofs.Gained.{gains_then}
use Rattle.value_nodes.specs.Nodes.{bound_triples, unit_term}
use Rattle.value_nodes.specs.Terms.{amount_term}
use Rattle.value_nodes.proofs.nodes.emit_quantity_parts.Goals as goal

pub returns-clause-gains : goal.returns-clause-gains
returns-clause-gains g c =
    let s = g.S.TripleSink in
    let node = meant c.args.node.now in
    let quantity = c.args.quantity.now in
    let amount = about node QuantityAmount (amount_term quantity.amount) ∷ [] in
    let unit = about node QuantityUnit (unit_term quantity.unit) ∷ [] in
    let upper = bound_triples node QuantityUpperBound quantity.upper in
    let lower = bound_triples node QuantityLowerBound quantity.lower in
    let two = gains_then s.items s.keeps c.args.out.now c.emit_amount.new.out c.emit_unit.new.out amount unit
    (rw (c.new.ensures, c.as_str.ensures) at c.in_ok-emit_amount.ensures.gains) (rw c.as_str-2.ensures at c.in_ok-emit_unit.ensures.gains) in
    let three = gains_then s.items s.keeps c.args.out.now c.emit_unit.new.out c.emit_bound.new.out (amount ++ unit) upper two
    (rw c.as_ref-upper.ensures.value at c.in_ok-emit_bound.ensures.gains) in
    on_ok_weaker c.emit_bound-2.result
    (λ h. gains_then s.items s.keeps c.args.out.now c.emit_bound.new.out c.emit_bound-2.new.out (amount ++ unit ++ upper) lower three h)
    (rw c.as_ref-lower.ensures.value at c.emit_bound-2.ensures.gains)
