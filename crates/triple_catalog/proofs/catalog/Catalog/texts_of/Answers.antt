-- The texts of one more triple.
use Rattle.std.proofs.Common.{◌<◌, ◌++◌, ◌∙◌, [], ◌∷◌, take, length, get_or, ap, sym, arith}
use Rattle.std.specs.Prelude.{map as mapped}
use Rattle.std.proofs.{lemmas.List.map_push, lemmas.List.take_more, lemmas.List.Elements.All-push}
use Rattle.triple_catalog.specs.Slots.{HasCanonicalTexts, triple_at, triple_of}
use Rattle.triple_catalog.proofs.Ordered.{row_canonical, row_means}
use Rattle.triple_catalog.proofs.catalog.Catalog.texts_of.Goals as goal

pub loop-key-preserved : goal.loop-key-preserved
loop-key-preserved c =
    let p = c.args.self.now.pool in
    let r = c.args.region.now in
    let keys = c.args.keys.now in
    let i = c.loop-key.key-index in
    let row = c.texts_at.result in
    let key = get_or keys i (record { first = 0; second = 0; third = 0 }) in
    let within : i < length keys = omega (arith, c.loop-key-test.true) in
    let more = take_more keys i (record { first = 0; second = 0; third = 0 }) within in
    rw c.in_ok-push.ensures.items (
      map_push triple_of c.loop-key.rows.items row
          ∙ ap (λ ts. ts ++ triple_of row ∷ []) c.loop-key.invariant.0
          ∙ ap (λ t. mapped (triple_at p r) (take i keys) ++ t ∷ []) (row_means p r key row c.texts_at.ensures)
          ∙ sym (ap (mapped (triple_at p r)) more ∙ map_push (triple_at p r) (take i keys) key),
      All-push HasCanonicalTexts c.loop-key.rows.items row c.loop-key.invariant.1 (row_canonical p r key row c.requires.stored.lies c.texts_at.ensures),
    )
