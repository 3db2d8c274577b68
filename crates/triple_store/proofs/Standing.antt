-- What the triples of slots of a store stand for.
pub use Rattle.triple_catalog.proofs.Standing.{has-triples_at, owned, stored_if, triples_at-has}
