-- The terms that a store needs room for.
pub use Rattle.triple_catalog.proofs.Rooming.{terms_among}
