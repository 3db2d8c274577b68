-- The triples of the statements of a subject, each judged among them.
use Rattle.std.specs.Prelude.{List}
use Rattle.std.specs.List.{flat_map}
use Rattle.rdf_term.specs.declared.term.Term.{Term}
use Rattle.rdf_term.specs.declared.triple.Triple.{Triple}
use Rattle.entity_model.specs.declared.statement.Statement.{Statement}
use Rattle.entity_model.specs.declared.mapping.MappingVersion.{MappingVersion}
use Rattle.statement_facts.specs.Ranking.{is_best}
use Rattle.statement_rdf.specs.Statement.{statement_triples}

-- a statement, best or not among all of the subject
abbrev pub judged_triples : MappingVersion → Term → List Statement → Statement → List Triple
judged_triples version subject all s = statement_triples version subject s (is_best all s)

abbrev pub statements_triples : MappingVersion → Term → List Statement → List Triple
statements_triples version subject all = flat_map (judged_triples version subject all) all
