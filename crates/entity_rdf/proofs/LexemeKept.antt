-- What munging leaves of the dump of a lexeme: which triples they are, and that those of a small one are fit and short.
use Rattle.std.proofs.Common.{ℕ, List}
use Rattle.std.specs.Prelude.{◌↔◌}
use Rattle.std.specs.List.{AllByRecursion, flat_map}
use Rattle.sorted_sets.specs.Rising.{In, sorted}
use Rattle.rdf_term.specs.declared.triple.Triple.{Triple}
use Rattle.rdf_term.specs.Fit.{HasFitAndShortTerms}
use Rattle.rdf_term.specs.Order.{triple_cmp}
use Rattle.rdf_term.proofs.Members.{member_triples}
use Rattle.entity_model.specs.declared.id.EntityId.{EntityId}
use Rattle.entity_model.specs.declared.mapping.MappingVersion.{MappingVersion}
use Rattle.entity_model.specs.Lexeme.{IsSmallLexeme}
use Rattle.munger.specs.Munging.{munge, munged}
use Rattle.munger.proofs.Fit.{munge_fit}
use Rattle.statement_rdf.proofs.Members.{in_flat_map, flat_map_in}
use Rattle.entity_model.specs.declared.lexeme.Lexeme.{Lexeme}
use Rattle.entity_rdf.specs.LexemeDump.{lexdump}
use Rattle.entity_rdf.specs.LexemeKeeps.{LexemeKeeps, left}
use Rattle.entity_rdf.proofs.LexemeFit.{lexdump_fit}
use Rattle.entity_rdf.proofs.LexemeGiven.{lexdump_rules}
use Rattle.entity_rdf.proofs.LexemeLabels.{lexdump_labels}

module _ (version : MappingVersion) (x : EntityId) (rev : ℕ) (l : Lexeme) where
  abbrev given : List Triple
  given = lexdump version x rev l

  -- the set
  pub kept_set_fit : IsSmallLexeme l → AllByRecursion HasFitAndShortTerms (munge x (sorted triple_cmp (lexdump version x rev l)))
  kept_set_fit small = munge_fit x (sorted triple_cmp given) (lexdump_fit version x rev l small) (lexdump_labels version x rev l)

  kept : (t : Triple) → In t (munge x (sorted triple_cmp given)) → LexemeKeeps version x rev l t
  kept t h =
      let set = sorted triple_cmp given in
      let found = flat_map_in (munged x) t set ((member_triples t (flat_map (munged x) set)).0 h) in
      left found.0 ((lexdump_rules version x rev l found.0).0 ((member_triples found.0 given).0 found.1)) found.2

  there : (t : Triple) → LexemeKeeps version x rev l t → In t (munge x (sorted triple_cmp given))
  there t (left one gives of_it) =
      let set = sorted triple_cmp given in
      (member_triples t (flat_map (munged x) set)).1
      (in_flat_map (munged x) t one set ((member_triples one given).1 ((lexdump_rules version x rev l one).1 gives)) of_it)

  -- the set and the rules say the same
  pub kept_rules : (t : Triple) → In t (munge x (sorted triple_cmp (lexdump version x rev l))) ↔ LexemeKeeps version x rev l t
  kept_rules t = (kept t, there t)
