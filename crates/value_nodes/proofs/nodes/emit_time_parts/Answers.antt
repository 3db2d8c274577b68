-- The time, its precision, its time zone and its calendar, one after the other.
use Rattle.std.proofs.Common.{[], ◌∷◌, ◌++◌}
use Rattle.std.proofs.lemmas.Result.{on_ok_weaker}
use Rattle.rdf_term.specs.Grammar.{iri_of}
use Rattle.rdf_vocabulary.specs.declared.datatype.Datatype.TheVariants.{Integer}
use Rattle.rdf_vocabulary.specs.declared.predicate.Predicate.TheVariants.{TimeValue, TimePrecision, TimeTimezone, TimeCalendarModel}
use Rattle.rdf_vocabulary.specs.Datatype.{typed}
use Rattle.rdf_vocabulary.specs.Predicate.{about}
use Rattle.triple_sink.specs.TermRef.{meant}
use Rattle.triple_sink.proofs.Gained.{gains_then}
use Rattle.value_nodes.specs.Terms.{time_term}
use Rattle.value_nodes.proofs.nodes.emit_time_parts.Goals as goal

pub returns-clause-gains : goal.returns-clause-gains
returns-clause-gains g c =
    let s = g.S.TripleSink in
    let node = meant c.args.node.now in
    let parts = c.args.time.now in
    let time = about node TimeValue (time_term parts) ∷ [] in
    let precision = about node TimePrecision (typed parts.precision_text Integer) ∷ [] in
    let timezone = about node TimeTimezone (typed parts.timezone Integer) ∷ [] in
    let calendar = about node TimeCalendarModel (iri_of parts.calendar) ∷ [] in
    let two = gains_then s.items s.keeps c.args.out.now c.emit_time.new.out c.emit_integer.new.out time precision
    (rw c.new.ensures at c.in_ok-emit_time.ensures.gains) (rw c.as_str-precision.ensures at c.in_ok-emit_integer.ensures.gains) in
    let three = gains_then s.items s.keeps c.args.out.now c.emit_integer.new.out c.emit_integer-2.new.out (time ++ precision) timezone two
    (rw c.as_str-timezone.ensures at c.in_ok-emit_integer-2.ensures.gains) in
    on_ok_weaker c.emit_iri.result
    (λ h. gains_then s.items s.keeps c.args.out.now c.emit_integer-2.new.out c.emit_iri.new.out (time ++ precision ++ timezone) calendar three h)
    (rw (c.new-2.ensures, c.as_str.ensures) at c.emit_iri.ensures.gains)
