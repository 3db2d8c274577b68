-- What a list begins with still, and the fitness of a statement's triples.
use Rattle.std.proofs.Common.{◌≡◌, ℕ, Bool, List, length, take, arith}
use Rattle.std.specs.List.{AllByRecursion}
use Rattle.std.proofs.lemmas.List.{take_all}
use Rattle.rdf_term.specs.declared.triple.Triple.{Triple}
use Rattle.rdf_term.specs.Fit.{HasFitAndShortTerms}
use Rattle.entity_model.specs.Statement.{IsSmallStatement}
use Rattle.entity_model.specs.declared.id.EntityId.{EntityId}
use Rattle.entity_model.specs.declared.mapping.MappingVersion.{MappingVersion}
use Rattle.entity_model.specs.declared.statement.Statement.{Statement}
use Rattle.rdf_vocabulary.specs.declared.prefix.Prefix.TheVariants.{Wd}
use Rattle.rdf_vocabulary.specs.Prefix.{entity_term}
use Rattle.rdf_vocabulary.proofs.Ids.{id_term_fit}
use Rattle.statement_rdf.specs.Statement.{statement_triples}
use Rattle.statement_rdf.proofs.Fit.{statement_triples_fit}
use Rattle.triple_sink.specs.Gains.{KeepsFront}

-- a sink that is a list begins with what it held
pub front_of : (old new : List Triple) → KeepsFront (λ list. list) old new → take (length old) new ≡ old
front_of old new kept = kept old (take_all (length old) old (omega arith))

pub entity_statement_fit : (version : MappingVersion) (x : EntityId) (s : Statement) (best : Bool) → IsSmallStatement s → AllByRecursion HasFitAndShortTerms (statement_triples version (entity_term x) s best)
entity_statement_fit version x s best small = statement_triples_fit version (entity_term x) s best (id_term_fit Wd x) small
