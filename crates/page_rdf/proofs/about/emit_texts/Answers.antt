-- The class, the labels, the descriptions and the aliases, one after the other.
use Rattle.std.proofs.Common.{◌≡◌, ◌++◌}
use Rattle.std.specs.List.{flat_map}
use Rattle.std.proofs.lemmas.Result.{on_ok_weaker}
use Rattle.rdf_vocabulary.specs.Prefix.{entity_term}
use Rattle.triple_sink.proofs.Gained.{gains_then}
use Rattle.page_rdf.specs.About.{alias_triples, class_triples, description_triples, label_triples}
use Rattle.page_rdf.proofs.about.emit_texts.Goals as goal

pub returns-clause-gains : goal.returns-clause-gains
returns-clause-gains g c =
    let s = g.S.TripleSink in
    let entity = c.args.entity.now in
    let class = class_triples c.args.id in
    let labels = flat_map (label_triples (entity_term c.args.id)) entity.labels in
    let descriptions = flat_map (description_triples (entity_term c.args.id)) entity.descriptions in
    let aliases = flat_map (alias_triples (entity_term c.args.id)) entity.aliases in
    let two = gains_then s.items s.keeps c.args.out.now c.emit_class.new.out c.emit_labels.new.out class labels
    (rw c.class_of.ensures at c.in_ok-emit_class.ensures.gains) (rw c.as_slice.ensures at c.in_ok-emit_labels.ensures.gains) in
    let three = gains_then s.items s.keeps c.args.out.now c.emit_labels.new.out c.emit_tagged.new.out (class ++ labels) descriptions two
    (rw c.as_slice-descriptions.ensures at c.in_ok-emit_tagged.ensures.gains) in
    on_ok_weaker c.emit_tagged-2.result
    (λ h. gains_then s.items s.keeps c.args.out.now c.emit_tagged.new.out c.emit_tagged-2.new.out (class ++ labels ++ descriptions) aliases three h)
    (rw c.as_slice-aliases.ensures at c.emit_tagged-2.ensures.gains)
