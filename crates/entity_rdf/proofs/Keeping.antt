-- The triples that are kept of a document are those that are left of what a rule gives.
use Rattle.std.proofs.Common.{ℕ, List}
use Rattle.std.specs.Prelude.{◌↔◌}
use Rattle.std.specs.List.{flat_map}
use Rattle.sorted_sets.specs.Rising.{In, sorted}
use Rattle.rdf_term.specs.declared.triple.Triple.{Triple}
use Rattle.rdf_term.specs.Order.{triple_cmp}
use Rattle.rdf_term.proofs.Members.{member_triples}
use Rattle.entity_model.specs.declared.id.EntityId.{EntityId}
use Rattle.entity_model.specs.declared.document.Document.{Document}
use Rattle.entity_model.specs.declared.mapping.MappingVersion.{MappingVersion}
use Rattle.munger.specs.Munging.{munge, munged}
use Rattle.statement_rdf.proofs.Members.{in_flat_map, flat_map_in}
use Rattle.entity_rdf.specs.Dump.{dump}
use Rattle.entity_rdf.specs.Keeps.{Keeps, left}
use Rattle.entity_rdf.proofs.Given.{dump_rules}

module _ (version : MappingVersion) (x : EntityId) (rev : ℕ) (document : Document) (t : Triple) where
  abbrev given_set : List Triple
  given_set = sorted triple_cmp (dump version x rev document)

  kept : In t (munge x given_set) → Keeps version x rev document t
  kept h =
      let found = flat_map_in (munged x) t given_set ((member_triples t (flat_map (munged x) given_set)).0 h) in
      left found.0 ((dump_rules version x rev document found.0).0 ((member_triples found.0 (dump version x rev document)).0 found.1)) found.2

  there : Keeps version x rev document t → In t (munge x given_set)
  there (left given gives of_it) =
      (member_triples t (flat_map (munged x) given_set)).1
      (in_flat_map (munged x) t given given_set ((member_triples given (dump version x rev document)).1 ((dump_rules version x rev document given).1 gives)) of_it)

-- the set and the rules say the same
pub kept_rules : (version : MappingVersion) (x : EntityId) (rev : ℕ) (document : Document) (t : Triple) → In t (munge x (sorted triple_cmp (dump version x rev document))) ↔ Keeps version x rev document t
kept_rules version x rev document t = (kept version x rev document t, there version x rev document t)
