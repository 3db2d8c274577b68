-- What is said of a part, one after the other, by its kind.
use Rattle.std.proofs.Common.{◌++◌}
use Rattle.std.specs.List.{flat_map}
use Rattle.std.proofs.lemmas.Result.{on_ok_weaker}
use Rattle.triple_sink.specs.TermRef.{meant}
use Rattle.triple_sink.proofs.Gained.{gains_then}
use Rattle.rdf_vocabulary.specs.declared.predicate.Predicate.TheVariants.{Definition, Representation}
use Rattle.page_rdf.specs.Form.{feature_triples, form_head}
use Rattle.page_rdf.specs.Part.{part_term}
use Rattle.page_rdf.specs.Sense.{sense_head}
use Rattle.page_rdf.specs.LexemeTexts.{text_triples}
use Rattle.page_rdf.proofs.parts.emit_part.Goals as goal

pub returns-in_ok-emit_texts-in-Form-clause-gains : goal.returns-in_ok-emit_texts-in-Form-clause-gains
returns-in_ok-emit_texts-in-Form-clause-gains g c =
    let s = g.S.TripleSink in
    let part = c.args.part.now in
    let node = part_term part.id in
    let head = form_head (meant c.args.entity.now) node in
    let texts = flat_map (text_triples Representation node) part.texts in
    let features = flat_map (feature_triples node) part.features in
    let said = gains_then s.items s.keeps c.args.out.now c.emit_head.new.out c.emit_texts.new.out head texts
    (rw (c.in-Form.is, c.as_str.ensures) at c.in_ok-emit_head.ensures.gains)
    (rw (c.as_str.ensures, c.as_slice-texts.ensures) at c.in_ok-emit_texts-in-Form.ensures.gains) in
    rw c.in-Form.is (on_ok_weaker c.emit_features.result
    (λ h. gains_then s.items s.keeps c.args.out.now c.emit_texts.new.out c.emit_features.new.out (head ++ texts) features said h)
    (rw (c.as_str.ensures, c.as_slice.ensures) at c.emit_features.ensures.gains))

pub returns-in-Sense-clause-gains : goal.returns-in-Sense-clause-gains
returns-in-Sense-clause-gains g c =
    let s = g.S.TripleSink in
    let part = c.args.part.now in
    let node = part_term part.id in
    let head = sense_head (meant c.args.entity.now) node in
    let texts = flat_map (text_triples Definition node) part.texts in
    let said = rw (c.in-Sense.is, c.as_str.ensures) at c.in_ok-emit_head.ensures.gains in
    rw c.in-Sense.is (on_ok_weaker c.emit_texts-in-Sense.result
    (λ h. gains_then s.items s.keeps c.args.out.now c.emit_head.new.out c.emit_texts-in-Sense.new.out head texts said h)
    (rw (c.as_str.ensures, c.as_slice-texts.ensures) at c.emit_texts-in-Sense.ensures.gains))
