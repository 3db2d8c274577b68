-- Each triple is the one with its texts.
use Rattle.std.proofs.Common.{◌≡◌, arith, take}
use Rattle.std.proofs.lemmas.List.{take_all}
use Rattle.replica.proofs.ByTexts.{one_more_read, term_texts, triple_at}
use Rattle.replica.proofs.reading_back.read_set.Goals as goal

pub read_back-requires : goal.read_back-requires
read_back-requires c =
    let at = triple_at c.args.triples.now c.loop-index.index c.get.result (omega (arith, c.loop-index-test.true, c.len-index-end.ensures)) c.get.ensures in
    (at.triple, term_texts c.args.triples.now c.loop-index.index c.get.result at c.requires.readable)

pub loop-index-preserved : goal.loop-index-preserved
loop-index-preserved c =
    one_more_read c.args.triples.now c.loop-index.list c.push.new.self c.loop-index.index c.get.result c.in_ok-read_back.field-0 (omega (arith, c.loop-index-test.true, c.len-index-end.ensures)) c.requires.readable c.get.ensures
    c.in_ok-read_back.ensures c.loop-index.invariant c.in_ok-push.ensures.ok

pub from_rising-requires : goal.from_rising-requires
from_rising-requires c =
    let all : take c.loop-index.index c.args.triples.now ≡ c.args.triples.now = take_all _ _ (omega (arith, c.loop-index-test.false, c.len-index-end.ensures)) in
    rw (c.loop-index.invariant, all) c.requires.rising
