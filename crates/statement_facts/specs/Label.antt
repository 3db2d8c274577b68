-- The labels of the nodes that stand for unknown values.
use Rattle.std.specs.Prelude.{ℕ, List, ◌++◌, decimal}
use Rattle.rdf_term.specs.declared.term.Term.{Term}
use Rattle.rdf_term.specs.declared.term.Term.TheVariants.{Blank}
use Rattle.entity_model.specs.declared.snak.Snak.{Snak}
use Rattle.entity_model.specs.EntityId.{id_text}
use Rattle.rdf_vocabulary.specs.Fields.{field, hashed_name}
use Rattle.statement_facts.specs.declared.role.Role.{Role}
use Rattle.statement_facts.specs.Role.{role_text}

-- the label of the node that stands for an unknown value: the hash of the statement's id, the property, the role and the snak's place
abbrev pub unknown_label : List ℕ → Role → Snak → List ℕ
unknown_label id role snak =
    hashed_name (field id ++ field (id_text snak.property) ++ field (role_text role) ++ field (decimal snak.place))

-- the node that stands for an unknown value in the statement with this id
abbrev pub unknown_node : List ℕ → Role → Snak → Term
unknown_node id role snak = Blank (unknown_label id role snak)
