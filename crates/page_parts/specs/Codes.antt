-- How the parts of a page are stored as a value, so that contracts can tell them apart.
use Rattle.std.specs.Prelude.{Bool, List, refl}
use Rattle.std.specs.Coded.{Coded, code_by, coded×, coded_bool, coded_list}
use Rattle.rdf_term.specs.declared.triple.Triple.{Triple}
use Rattle.rdf_term.specs.contracts.triple.Triple as triple
use Rattle.entity_model.specs.declared.id.EntityId.{EntityId}
use Rattle.entity_model.specs.contracts.id.EntityId as entity_id
use Rattle.page_parts.specs.Parts.{PartsState}

abbrev triples_code : Coded (List Triple)
triples_code = coded_list (triple.the_row).coded

abbrev flags_code : Coded (EntityId × (Bool × Bool))
flags_code = coded× (entity_id.the_row).coded (coded× coded_bool coded_bool)

abbrev lists_code : Coded (List Triple × (List Triple × (List Triple × List EntityId)))
lists_code = coded× triples_code (coded× triples_code (coded× triples_code (coded_list (entity_id.the_row).coded)))

abbrev pub parts_code : Coded PartsState
parts_code =
    code_by ((EntityId × (Bool × Bool)) × (List Triple × (List Triple × (List Triple × List EntityId)))) (coded× flags_code lists_code)
    (λ p. ((p.entity, (p.is_counted, p.has_failed)), (p.all, (p.own, (p.shared, p.strangers)))))
    (λ c. record { entity = c.0.0; is_counted = c.0.1.0; has_failed = c.0.1.1; all = c.1.0; own = c.1.1.0; shared = c.1.1.1.0; strangers = c.1.1.1.1 })
    (λ _. refl)
