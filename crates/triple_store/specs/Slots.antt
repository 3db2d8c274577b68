-- The triples that triples of slots stand for.
pub use Rattle.triple_catalog.specs.Slots.{triple_at}
