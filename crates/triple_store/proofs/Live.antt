-- The triple that a key stands for.
pub use Rattle.triple_catalog.proofs.Live.{tells}
