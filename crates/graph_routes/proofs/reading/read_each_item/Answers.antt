-- The next piece is read, or it can't be.
use Rattle.std.proofs.Common.{Some, length, refl, sym, ap, ◌∙◌}
use Rattle.std.proofs.lemmas.Option.{slice_get_read}
use Rattle.graph_routes.specs.Reading.{item_of}
use Rattle.graph_routes.proofs.Leading.{each_more, each_stops}
use Rattle.graph_routes.proofs.reading.read_each_item.Goals as goal

pub returns-in_default : goal.returns-in_default
returns-in_default c = sym (each_stops item_of c.args.pieces.now c.loop-piece.piece-index c.piece-item.result c.loop-piece.classes
    (slice_get_read c.args.pieces.now (length c.args.pieces.now) c.loop-piece.piece-index c.piece-item.result refl c.loop-piece-test.true c.piece-item.is)
    c.loop-piece.invariant (sym c.read_item.ensures ∙ c.in_default.is))

pub loop-piece-preserved : goal.loop-piece-preserved
loop-piece-preserved c =
    each_more item_of c.args.pieces.now c.loop-piece.piece-index c.piece-item.result c.in-Some.class c.loop-piece.classes
    (slice_get_read c.args.pieces.now (length c.args.pieces.now) c.loop-piece.piece-index c.piece-item.result refl c.loop-piece-test.true c.piece-item.is)
    c.loop-piece.invariant (sym c.read_item.ensures ∙ c.in-Some.is)
    ∙ ap (λ ys. Some ys) (sym c.in_ok-push.ensures.ok)
