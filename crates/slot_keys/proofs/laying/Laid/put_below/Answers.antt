use Rattle.std.proofs.Common.{◌<◌, length, sym, ◌∙◌, arith}
use Rattle.slot_keys.proofs.Placing.{above_from, one_below, one_zero}
use Rattle.slot_keys.proofs.laying.Laid.put_below.Goals as goal

pub returns-in-Greater-clause-above : goal.returns-in-Greater-clause-above
returns-in-Greater-clause-above c none =
    let low : c.loop-index.index < length c.args.others.now = omega arith in
    above_from c.args.others.now c.requires.rising c.args.key c.loop-index.index _ low (sym c.cmp.ensures ∙ c.in-Greater.is)

pub loop-index-preserved : goal.loop-index-preserved
loop-index-preserved c =
    let low : c.loop-index.index < length c.args.others.now = omega arith in
    record {
      keys = one_below c.args.others.now c.requires.rising c.args.key c.loop-index.index _ low c.args.next c.args.self.now.keys.items c.loop-index.self.keys.items c.put.new.self.keys.items (sym c.cmp.ensures ∙ c.in-Less.is) c.in_ok-put-in-Less.ensures.keys c.loop-index.invariant.keys;
      counts = λ count none is. one_zero c.args.others.now c.loop-index.index _ low count none c.loop-index.self.keys.items c.put.new.self.keys.items c.loop-index.self.counts.items c.put.new.self.counts.items c.in_ok-put-in-Less.ensures.keys c.in_ok-put-in-Less.ensures.counts (c.loop-index.invariant.counts count none is);
      gone = c.in_ok-put-in-Less.ensures.gone ∙ c.loop-index.invariant.gone;
    }
