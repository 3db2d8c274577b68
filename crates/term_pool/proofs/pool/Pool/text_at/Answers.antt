-- A term that is there has a live piece.
use Rattle.std.proofs.Common.{ap, sym, subst}
use Rattle.std.specs.Prelude.{IsSome, is_some}
use Rattle.text_region.specs.Region.{bytes_of}
use Rattle.term_pool.proofs.pool.Pool.text_at.Goals as goal

pub read-requires : goal.read-requires
read-requires c = let t = c.requires.textual c.args.number c.in-Some.entry.now (sym c.in-Some.ensures) in subst (λ p. IsSome (bytes_of c.args.region.now p)) (sym c.piece-place.ensures) (ap is_some t.is)
