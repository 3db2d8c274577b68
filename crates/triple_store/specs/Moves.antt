-- The triples that keys stand for.
pub use Rattle.triple_catalog.specs.Moves.{triples_at}
