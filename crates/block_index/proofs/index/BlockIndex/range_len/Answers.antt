-- As many keys as stand between the two positions.
use Rattle.std.proofs.Common.{◌∙◌, ◌-◌, ◌<◌, length, sym, ap, subst, arith}
use Rattle.sorted_sets.specs.Rising.{IsRising}
use Rattle.block_index.specs.Blocks.{AreFilled, keys_of, keys_between}
use Rattle.block_index.specs.Groups.{index_of}
use Rattle.block_index.specs.Search.{keys_before}
use Rattle.block_index.proofs.Grouped.{index_within}
use Rattle.block_index.proofs.Lengths.{range_long}
use Rattle.block_index.proofs.Parts.{filled_at}
use Rattle.block_index.proofs.index.BlockIndex.range_len.Goals as goal

pub behind-requires : goal.behind-requires
behind-requires g c =
    let gs = c.as_slice-groups.result.now in
    let p = c.locate-high.result in
    let some : 0 < length gs = grind arith in
    let inside = c.locate-high.ensures.inside some in
    let filled = subst (λ hs. AreFilled (keys_of hs)) (sym c.as_slice-groups.ensures.value) c.self.invariant.index.filled in
    let few = (filled_at (keys_of gs) (index_of gs p.group p.block) (index_within gs p.group p.block inside.0 inside.1) filled).1 in
    let within = c.locate-high.ensures.stands.within in
    omega arith

pub returns-clause-len : goal.returns-clause-len
returns-clause-len g c =
    let gs = c.as_slice-groups.result.now in
    let p = c.locate-low.result in
    let q = c.locate-high.result in
    c.count_between.ensures
    ∙ ap (λ r. length (keys_before (keys_of gs) (index_of gs r.group r.block) r.at) - length (keys_before (keys_of gs) (index_of gs p.group p.block) p.at)) c.behind.ensures
    ∙ range_long g.met.K.Ranked.total c.args.to c.args.from (keys_of gs) (index_of gs p.group p.block) p.at (index_of gs q.group q.block) q.at p.found q.found c.locate-low.ensures.stands c.locate-high.ensures.stands
    (subst (λ hs. IsRising g.K.Ranked.cmp (keys_of (keys_of hs))) (sym c.as_slice-groups.ensures.value) c.self.invariant.index.rising)
    ∙ ap (λ bs. length (keys_between g.K.Ranked.cmp c.args.from c.args.to (keys_of bs))) (ap keys_of c.as_slice-groups.ensures.value ∙ c.self.view_is)
