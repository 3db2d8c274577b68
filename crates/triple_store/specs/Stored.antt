-- What lies beside the terms' texts.
pub use Rattle.triple_catalog.specs.Stored.{Changes}
