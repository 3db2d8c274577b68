-- A key goes from its position.
use Rattle.std.proofs.Common.{◌∙◌, ◌<◌, List, [], ◌∷◌, length, true, sym, ap, subst, arith}
use Rattle.sorted_sets.specs.Rising.{has}
use Rattle.std.specs.Set.{remove_key}
use Rattle.std.specs.Ordering.{eq_by_cmp}
use Rattle.std.proofs.lemmas.Bool.{not-true, not-false}
use Rattle.block_index.specs.Blocks.{keys_of, ChangesTwo}
use Rattle.block_index.specs.Groups.{IsInside, index_of}
use Rattle.block_index.proofs.Edited.{taken_is, IsIndex-taken, changes_none, changes_two}
use Rattle.block_index.proofs.Located.{stands_same}
use Rattle.block_index.proofs.Removed.{remove_key-absent}
use Rattle.block_index.proofs.Standing.{found_is}
use Rattle.block_index.proofs.index.BlockIndex.remove.Goals as goal

pub returns-then-not-position-clause-answer : goal.returns-then-not-position-clause-answer
returns-then-not-position-clause-answer g c =
    let gs = c.deref.result.now in
    let p = c.locate-position.result in
    sym (ap (λ bs. has g.K.Ranked.cmp c.args.key (keys_of bs)) (sym (ap keys_of c.deref.ensures.value ∙ c.self.view_is))
    ∙ found_is g.met.K.Ranked.total c.args.key (keys_of gs) (index_of gs p.group p.block) p.at p.found c.locate-position.ensures.stands ∙ not-true p.found c.if-not-position.true)

pub returns-then-not-position-clause-keys : goal.returns-then-not-position-clause-keys
returns-then-not-position-clause-keys g c =
    let gs = c.deref.result.now in
    let p = c.locate-position.result in
    sym (remove_key-absent g.K.Ranked.cmp c.args.key (keys_of c.args.self.now)
    (ap (λ bs. has g.K.Ranked.cmp c.args.key (keys_of bs)) (sym (ap keys_of c.deref.ensures.value ∙ c.self.view_is))
    ∙ found_is g.met.K.Ranked.total c.args.key (keys_of gs) (index_of gs p.group p.block) p.at p.found c.locate-position.ensures.stands ∙ not-true p.found c.if-not-position.true))

pub returns-then-not-position-clause-blocks : goal.returns-then-not-position-clause-blocks
returns-then-not-position-clause-blocks g c = changes_none c.args.self.now

-- where there is a block there is a group
some_groups : {K : Type 0} (gs : List (List (List K))) → 0 < length (keys_of gs) → 0 < length gs
some_groups [] some = some
some_groups (h ∷ gs) some = omega arith

pub take_out-requires-clause-inside : goal.take_out-requires-clause-inside
take_out-requires-clause-inside g c =
    let gs = c.deref.result.now in
    let p = c.locate-position.result in
    let here = (c.locate-position.ensures.stands.here (not-false p.found c.if-not-position.false)).0 in
    subst (λ hs. IsInside hs p.group p.block) c.deref.ensures.value (c.locate-position.ensures.inside (some_groups gs (omega (arith, here))))

pub overflow_sub-self : goal.overflow_sub-self
overflow_sub-self g c =
    let gs = c.self.inside.groups.items in
    let p = c.locate-position.result in
    let some = (IsIndex-taken g.met.K.Ranked.total c.args.key (keys_of gs) (keys_of c.take_out.new.groups.items) (index_of gs p.group p.block) p.at c.self.inside.count c.self.invariant.index
    (stands_same g.K.Ranked.cmp c.args.key c.deref.result.now gs p.group p.block p.at p.found true c.deref.ensures.value (not-false p.found c.if-not-position.false) c.locate-position.ensures.stands)
    c.take_out.ensures.edits).0 in
    omega (arith, some)

pub invariant_of-self : goal.invariant_of-self
invariant_of-self g c =
    let gs = c.self.inside.groups.items in
    let p = c.locate-position.result in
    record {
      index =
          (IsIndex-taken g.met.K.Ranked.total c.args.key (keys_of gs) (keys_of c.take_out.new.groups.items) (index_of gs p.group p.block) p.at c.self.inside.count c.self.invariant.index
          (stands_same g.K.Ranked.cmp c.args.key c.deref.result.now gs p.group p.block p.at p.found true c.deref.ensures.value (not-false p.found c.if-not-position.false) c.locate-position.ensures.stands)
          c.take_out.ensures.edits).1;
      sized = c.take_out.ensures.groups;
    }

pub returns-clause-answer : goal.returns-clause-answer
returns-clause-answer g c =
    let gs = c.deref.result.now in
    let p = c.locate-position.result in
    sym (ap (λ bs. has g.K.Ranked.cmp c.args.key (keys_of bs)) (sym (ap keys_of c.deref.ensures.value ∙ c.self.view_is))
    ∙ found_is g.met.K.Ranked.total c.args.key (keys_of gs) (index_of gs p.group p.block) p.at p.found c.locate-position.ensures.stands ∙ not-false p.found c.if-not-position.false)

pub returns-clause-keys : goal.returns-clause-keys
returns-clause-keys g c =
    let gs = c.self.inside.groups.items in
    let p = c.locate-position.result in
    taken_is g.met.K.Ranked.total c.args.key (keys_of gs) (keys_of c.take_out.new.groups.items) (index_of gs p.group p.block) p.at
    (stands_same g.K.Ranked.cmp c.args.key c.deref.result.now gs p.group p.block p.at p.found true c.deref.ensures.value (not-false p.found c.if-not-position.false) c.locate-position.ensures.stands)
    c.take_out.ensures.edits
    ∙ ap (λ bs. remove_key (eq_by_cmp g.K.Ranked.cmp c.args.key) (keys_of bs)) c.self.view_is

pub returns-clause-blocks : goal.returns-clause-blocks
returns-clause-blocks g c =
    let gs = c.self.inside.groups.items in
    let p = c.locate-position.result in
    subst (λ bs. ChangesTwo bs (keys_of c.take_out.new.groups.items)) c.self.view_is (changes_two (keys_of gs) (keys_of c.take_out.new.groups.items) (index_of gs p.group p.block) _ c.take_out.ensures.edits)
