-- The keys from the position of the first on, up to the last.
use Rattle.std.proofs.Common.{◌∙◌, ℕ, Bool, true, false, cond, ◌+◌, ◌≤◌, length, sym, ap, subst, arith}
use Rattle.sorted_sets.specs.Rising.{IsRising}
use Rattle.block_index.specs.Blocks.{keys_of, keys_between}
use Rattle.block_index.specs.Groups.{index_of}
use Rattle.block_index.specs.Search.{keys_from}
use Rattle.block_index.proofs.Ranges.{range_is, taken_whole}
use Rattle.block_index.proofs.index.BlockIndex.range.Goals as goal

one_more : (b : Bool) → cond {A = ℕ} b 0 1 ≤ 1
one_more true = omega arith
one_more false = omega arith

pub returns-clause-keys : goal.returns-clause-keys
returns-clause-keys g c =
    let gs = c.as_slice-groups.result.now in
    let p = c.locate-position.result in
    let i = index_of gs p.group p.block in
    c.from_vec-2.ensures
    ∙ taken_whole g.K.Ranked.cmp c.args.to (keys_from (keys_of gs) i p.at) c.new-keys.result.items c.take_from.new.taken.items _ c.new-keys.ensures.items c.in_ok-take_from.ensures.0
    ∙ sym (range_is g.met.K.Ranked.total c.args.from c.args.to (keys_of gs) i p.at p.found c.locate-position.ensures.stands
    (subst (λ hs. IsRising g.K.Ranked.cmp (keys_of (keys_of hs))) (sym c.as_slice-groups.ensures.value) c.self.invariant.index.rising))
    ∙ ap (λ bs. keys_between g.K.Ranked.cmp c.args.from c.args.to (keys_of bs)) (ap keys_of c.as_slice-groups.ensures.value ∙ c.self.view_is)

pub returns-in_err-take_from-clause-cost : goal.returns-in_err-take_from-clause-cost
returns-in_err-take_from-clause-cost g c =
    let gs = c.as_slice-groups.result.now in
    let p = c.locate-position.result in
    let i = index_of gs p.group p.block in
    let all = ap keys_of (ap keys_of c.as_slice-groups.ensures.value ∙ c.self.view_is) in
    let same = sym (range_is g.met.K.Ranked.total c.args.from c.args.to (keys_of gs) i p.at p.found c.locate-position.ensures.stands
    (subst (λ hs. IsRising g.K.Ranked.cmp (keys_of (keys_of hs))) (sym c.as_slice-groups.ensures.value) c.self.invariant.index.rising))
    ∙ ap (keys_between g.K.Ranked.cmp c.args.from c.args.to) all in
    let few = subst (λ ks. (g.C.StepCounter.total c.take_from.new.steps) ≤ (g.C.StepCounter.total c.locate-position.new.steps) + length ks) same c.in_err-take_from.ensures.0 in
    let long = ap length all in
    let found = c.locate-position.ensures.cost in
    let forth = c.in_err-take_from.ensures.1 in
    let start = found.0 in
    (omega arith, λ d below. let most = found.1 d (omega arith) in omega arith)

pub returns-clause-cost : goal.returns-clause-cost
returns-clause-cost g c =
    let gs = c.as_slice-groups.result.now in
    let p = c.locate-position.result in
    let i = index_of gs p.group p.block in
    let all = ap keys_of (ap keys_of c.as_slice-groups.ensures.value ∙ c.self.view_is) in
    let same = taken_whole g.K.Ranked.cmp c.args.to (keys_from (keys_of gs) i p.at) c.new-keys.result.items c.take_from.new.taken.items _ c.new-keys.ensures.items c.in_ok-take_from.ensures.0
    ∙ sym (range_is g.met.K.Ranked.total c.args.from c.args.to (keys_of gs) i p.at p.found c.locate-position.ensures.stands
    (subst (λ hs. IsRising g.K.Ranked.cmp (keys_of (keys_of hs))) (sym c.as_slice-groups.ensures.value) c.self.invariant.index.rising))
    ∙ ap (keys_between g.K.Ranked.cmp c.args.from c.args.to) all in
    let as_many = ap length same in
    let none = ap length c.new-keys.ensures.items in
    let long = ap length all in
    let cost = c.in_ok-take_from.ensures.1 in
    let forth = c.in_ok-take_from.ensures.2 in
    let one = one_more c.in_ok-take_from.field-0 in
    let found = c.locate-position.ensures.cost in
    let start = found.0 in
    (omega arith, λ d below. let most = found.1 d (omega arith) in omega arith)
