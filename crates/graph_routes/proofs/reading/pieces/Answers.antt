-- A piece is cut off, or the rest is the last one.
use Rattle.std.proofs.Common.{[], sym, ◌∙◌, append-nil}
use Rattle.graph_routes.proofs.Cutting.{cut, cut_text, found_more, last}
use Rattle.graph_routes.specs.Reading.{pieces}
use Rattle.graph_routes.proofs.reading.pieces.Goals as goal

pub split_once-requires-text-self : goal.split_once-requires-text-self
split_once-requires-text-self c = λ _. c.loop-piece.invariant.1

pub new-requires-2-text-s : goal.new-requires-2-text-s
new-requires-2-text-s c = λ _. c.loop-piece.invariant.1

pub loop-piece-preserved : goal.loop-piece-preserved
loop-piece-preserved c = (
  found_more c.args.separator c.args.text.now c.loop-piece.rest.now c.loop-piece.found c.push.new.self c.in_ok-copy.copy c.in-Some.piece.now (pieces c.args.separator c.in-Some.others.now)
      c.loop-piece.invariant.0 (cut c.args.separator c.loop-piece.rest.now c.in-Some.piece c.in-Some.others c.split_once.result c.requires c.split_once.ensures.cases c.in-Some.is) c.in_ok-copy.ensures c.in_ok-push.ensures.ok,
  cut_text c.args.separator c.loop-piece.rest.now c.in-Some.piece c.in-Some.others c.split_once.result c.loop-piece.invariant.1 c.split_once.ensures.cases c.in-Some.is,
)

pub returns : goal.returns
returns c =
    sym (append-nil c.push-2.new.self)
    ∙ found_more c.args.separator c.args.text.now c.loop-piece.rest.now c.loop-piece.found c.push-2.new.self c.in_ok-last.last c.loop-piece.rest.now []
    c.loop-piece.invariant.0 (last c.args.separator c.loop-piece.rest.now c.split_once.result c.requires c.split_once.ensures.cases c.in_default.is) c.in_ok-last.ensures c.in_ok-push-2.ensures.ok
