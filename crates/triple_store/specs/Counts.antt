-- The stored triples, with the number of entities that own each.
pub use Rattle.triple_catalog.specs.Counts.{Counts, Exchanges, HaveOwners, count_of}
