-- The position, the precision and the globe, one after the other.
use Rattle.std.proofs.Common.{[], ◌∷◌, ◌++◌}
use Rattle.std.proofs.lemmas.Result.{on_ok_weaker}
use Rattle.rdf_term.specs.Grammar.{iri_of}
use Rattle.rdf_vocabulary.specs.declared.datatype.Datatype.TheVariants.{Double}
use Rattle.rdf_vocabulary.specs.declared.predicate.Predicate.TheVariants.{GeoGlobe, GeoLatitude, GeoLongitude}
use Rattle.rdf_vocabulary.specs.Datatype.{typed}
use Rattle.rdf_vocabulary.specs.Predicate.{about}
use Rattle.triple_sink.specs.TermRef.{meant}
use Rattle.triple_sink.proofs.Gained.{gains_then}
use Rattle.value_nodes.specs.Nodes.{precision_triples}
use Rattle.value_nodes.proofs.nodes.emit_globe_parts.Goals as goal

pub returns-clause-gains : goal.returns-clause-gains
returns-clause-gains g c =
    let s = g.S.TripleSink in
    let node = meant c.args.node.now in
    let globe = c.args.globe.now in
    let position = about node GeoLatitude (typed globe.latitude Double) ∷ about node GeoLongitude (typed globe.longitude Double) ∷ [] in
    let precision = precision_triples node globe.precision in
    let two = gains_then s.items s.keeps c.args.out.now c.emit_position.new.out c.emit_precision.new.out position precision
    c.in_ok-emit_position.ensures.gains (rw c.as_ref.ensures.value at c.in_ok-emit_precision.ensures.gains) in
    on_ok_weaker c.emit_iri.result
    (λ h. gains_then s.items s.keeps c.args.out.now c.emit_precision.new.out c.emit_iri.new.out (position ++ precision) (about node GeoGlobe (iri_of globe.globe) ∷ []) two h)
    (rw (c.new.ensures, c.as_str.ensures) at c.emit_iri.ensures.gains)
