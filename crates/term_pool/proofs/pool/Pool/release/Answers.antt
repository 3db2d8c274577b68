-- A term with more uses is used once less.
use Rattle.std.proofs.Common.{◌<◌, ◌-◌, arith, refl, sym, ◌∙◌}
use Rattle.std.proofs.lemmas.Bool.{eqb-false}
use Rattle.term_pool.specs.Pool.{count_at}
use Rattle.term_pool.proofs.OthersTexts.{beside_recounted}
use Rattle.term_pool.proofs.Lying.{lies_recounted}
use Rattle.term_pool.proofs.pool.Pool.release.Goals as goal

pub returns-else-is_last-clause-lies : goal.returns-else-is_last-clause-lies
returns-else-is_last-clause-lies c =
    let count = count_at c.args.self.now c.args.slot.number in
    let more : 0 < count - 1 = omega (arith, c.requires.used, eqb-false count 1 (sym c.is_last.ensures ∙ c.if-is_last.false)) in
    lies_recounted c.args.self.now _ c.args.region.now c.args.slot.number (count - 1) c.lower.ensures c.requires.lies more refl refl refl refl

pub returns-else-is_last-clause-beside : goal.returns-else-is_last-clause-beside
returns-else-is_last-clause-beside c = λ piece.
    beside_recounted c.args.self.now _ c.args.region.now c.args.slot.number c.lower.ensures.was (record { piece = c.lower.ensures.was.piece; count = count_at c.args.self.now c.args.slot.number - 1 })
    c.lower.ensures.others c.lower.ensures.there c.lower.ensures.is refl piece
