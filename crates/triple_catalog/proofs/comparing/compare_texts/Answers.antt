-- The first byte that differs decides, or else the lengths.
use Rattle.std.proofs.Common.{◌∙◌, arith}
use Rattle.triple_catalog.proofs.Compared.{by_byte, by_lengths}
use Rattle.triple_catalog.proofs.comparing.compare_texts.Goals as goal

pub returns-then-place-both : goal.returns-then-place-both
returns-then-place-both c =
    let found = c.first_difference-place.ensures in
    let inside = c.if-place-both.true in
    c.cmp-then-place-both.ensures ∙ by_byte c.first_difference-place.result c.args.a.now c.args.b.now (omega arith) (omega arith) found.before (found.hit inside)

pub returns-else-place-both : goal.returns-else-place-both
returns-else-place-both c =
    c.cmp-else-place-both.ensures ∙ by_lengths c.args.a.now c.args.b.now (λ k low high. c.first_difference-place.ensures.before k low (omega (arith, high)))
