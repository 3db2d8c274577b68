-- A key comes in at its position.
use Rattle.std.proofs.Common.{◌∙◌, not, true, false, sym, ap, subst}
use Rattle.sorted_sets.specs.Rising.{has}
use Rattle.std.specs.BTreeSet.{insert_key}
use Rattle.block_index.specs.Blocks.{keys_of, ChangesTwo}
use Rattle.block_index.specs.Groups.{index_of}
use Rattle.block_index.specs.Search.{Stands}
use Rattle.block_index.proofs.Edited.{put_is, IsIndex-put, changes_none, changes_two}
use Rattle.block_index.proofs.Located.{stands_same}
use Rattle.block_index.proofs.Standing.{found_is, insert_key_there}
use Rattle.block_index.proofs.index.BlockIndex.insert.Goals as goal

pub returns-then-position-clause-answer : goal.returns-then-position-clause-answer
returns-then-position-clause-answer g c =
    let gs = c.deref.result.now in
    let p = c.locate-position.result in
    ap not (sym (ap (λ bs. has g.K.Ranked.cmp c.args.key (keys_of bs)) (sym (ap keys_of c.deref.ensures.value ∙ c.self.view_is))
    ∙ found_is g.met.K.Ranked.total c.args.key (keys_of gs) (index_of gs p.group p.block) p.at p.found c.locate-position.ensures.stands ∙ c.if-position.true))

pub returns-then-position-clause-keys : goal.returns-then-position-clause-keys
returns-then-position-clause-keys g c =
    let gs = c.self.inside.groups.items in
    let p = c.locate-position.result in
    sym (insert_key_there g.met.K.Ranked.total c.args.key c.args.self.now _ _
    (subst (λ bs. Stands g.K.Ranked.cmp c.args.key bs (index_of gs p.group p.block) p.at true) c.self.view_is
    (stands_same g.K.Ranked.cmp c.args.key c.deref.result.now gs p.group p.block p.at p.found true c.deref.ensures.value c.if-position.true c.locate-position.ensures.stands)))

pub returns-then-position-clause-blocks : goal.returns-then-position-clause-blocks
returns-then-position-clause-blocks g c = changes_none c.args.self.now

pub invariant_of-self-2 : goal.invariant_of-self-2
invariant_of-self-2 g c =
    let gs = c.self.inside.groups.items in
    let p = c.locate-position.result in
    record {
      index =
          IsIndex-put g.met.K.Ranked.total c.args.key (keys_of gs) (keys_of c.put_in.new.groups.items) (index_of gs p.group p.block) p.at c.self.inside.count c.in-Some.count c.self.invariant.index
          (stands_same g.K.Ranked.cmp c.args.key c.deref.result.now gs p.group p.block p.at p.found false c.deref.ensures.value c.if-position.false c.locate-position.ensures.stands)
          c.in_ok-put_in.ensures.ok (sym c.in-Some.ensures.1);
      sized = c.in_ok-put_in.ensures.groups;
    }

pub returns-clause-answer : goal.returns-clause-answer
returns-clause-answer g c =
    let gs = c.deref.result.now in
    let p = c.locate-position.result in
    ap not (sym (ap (λ bs. has g.K.Ranked.cmp c.args.key (keys_of bs)) (sym (ap keys_of c.deref.ensures.value ∙ c.self.view_is))
    ∙ found_is g.met.K.Ranked.total c.args.key (keys_of gs) (index_of gs p.group p.block) p.at p.found c.locate-position.ensures.stands ∙ c.if-position.false))

pub returns-clause-keys : goal.returns-clause-keys
returns-clause-keys g c =
    let gs = c.self.inside.groups.items in
    let p = c.locate-position.result in
    put_is g.met.K.Ranked.total c.args.key (keys_of gs) (keys_of c.put_in.new.groups.items) (index_of gs p.group p.block) p.at
    (stands_same g.K.Ranked.cmp c.args.key c.deref.result.now gs p.group p.block p.at p.found false c.deref.ensures.value c.if-position.false c.locate-position.ensures.stands)
    c.in_ok-put_in.ensures.ok
    ∙ ap (λ bs. insert_key g.K.Ranked.cmp (keys_of bs) c.args.key) c.self.view_is

pub returns-clause-blocks : goal.returns-clause-blocks
returns-clause-blocks g c =
    let gs = c.self.inside.groups.items in
    let p = c.locate-position.result in
    subst (λ bs. ChangesTwo bs (keys_of c.put_in.new.groups.items)) c.self.view_is (changes_two (keys_of gs) (keys_of c.put_in.new.groups.items) (index_of gs p.group p.block) _ c.in_ok-put_in.ensures.ok)
