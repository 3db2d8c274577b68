-- What the store keeps of a lexeme: what munging leaves of the triples that the rules of the dump give.
use Rattle.std.specs.Prelude.{ℕ}
use Rattle.sorted_sets.specs.Rising.{In}
use Rattle.rdf_term.specs.declared.triple.Triple.{Triple}
use Rattle.entity_model.specs.declared.id.EntityId.{EntityId}
use Rattle.entity_model.specs.declared.mapping.MappingVersion.{MappingVersion}
use Rattle.munger.specs.Munging.{munged}
use Rattle.entity_model.specs.declared.lexeme.Lexeme.{Lexeme}
use Rattle.entity_rdf.specs.LexemeGives.{LexemeGives}

-- the triple is left of one that a rule gives
pub data LexemeKeeps (version : MappingVersion) (x : EntityId) (rev : ℕ) (l : Lexeme) (t : Triple) : Type 0 where
  left : (given : Triple) → LexemeGives version x rev l given → In t (munged x given) → LexemeKeeps version x rev l t
