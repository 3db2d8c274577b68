-- A list of some of another list's terms has no more different ones.
pub use Rattle.triple_catalog.proofs.Distinct.{fewer}
