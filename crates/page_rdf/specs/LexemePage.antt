-- What the page of a lexeme says of the dataset that it is.
use Rattle.std.specs.Prelude.{ℕ, List, ◌++◌}
use Rattle.rdf_term.specs.declared.triple.Triple.{Triple}
use Rattle.entity_model.specs.declared.id.EntityId.{EntityId}
use Rattle.page_rdf.specs.Dataset.{change_triples, dataset_term, number_triples, page_triples}
use Rattle.entity_model.specs.declared.lexeme.Lexeme.{Lexeme}

-- what an item's page says of its dataset but for site links, with the number of the lexeme's own statements
abbrev pub lexeme_page_triples : EntityId → ℕ → Lexeme → List Triple
lexeme_page_triples x rev l =
    page_triples x
    ++ number_triples (dataset_term x) rev l.statements
    ++ change_triples (dataset_term x) l.modified
