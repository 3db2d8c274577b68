-- A triple goes with its last owner.
use Rattle.std.proofs.Common.{sym, ◌∙◌, arith}
use Rattle.std.proofs.lemmas.Bool.{eqb-false, eqb-true}
use Rattle.slot_index.specs.Counts.{count_of}
use Rattle.triple_catalog.proofs.{Costs.one_went, Live.uses_there}
use Rattle.triple_catalog.proofs.Storing.{counts_gone, counts_left, keeps_gone, keeps_left, stored_gone, stored_left}
use Rattle.triple_catalog.proofs.catalog.Catalog.remove.Goals as goal

pub release_triple-requires-clause-used : goal.release_triple-requires-clause-used
release_triple-requires-clause-used g c = λ slot. omega (arith, c.requires.stored.counted slot, uses_there c.args.self.now.index c.args.key slot c.requires.there)

pub returns-then-lower-clause-stored : goal.returns-then-lower-clause-stored
returns-then-lower-clause-stored g c =
    stored_gone c.args.self.now _ c.args.key c.requires.stored c.requires.there _ _ c.lower.ensures.lowered (eqb-true _ 1 (sym c.lower.ensures.answer ∙ c.if-lower.true)) c.release_triple.ensures.gone c.release_triple.ensures.lies

pub returns-then-lower-clause-lowered : goal.returns-then-lower-clause-lowered
returns-then-lower-clause-lowered g c =
    counts_gone c.args.self.now _ c.args.key c.requires.stored c.requires.there _ _ c.lower.ensures.lowered (eqb-true _ 1 (sym c.lower.ensures.answer ∙ c.if-lower.true)) c.release_triple.ensures.gone

pub returns-then-lower-clause-keeps : goal.returns-then-lower-clause-keeps
returns-then-lower-clause-keeps g c =
    keeps_gone c.args.self.now _ c.args.key c.requires.stored c.requires.there _ _ c.lower.ensures.lowered (eqb-true _ 1 (sym c.lower.ensures.answer ∙ c.if-lower.true)) c.release_triple.ensures.gone

pub returns-else-lower-clause-stored : goal.returns-else-lower-clause-stored
returns-else-lower-clause-stored g c =
    let some = c.requires.stored.owned c.args.key c.requires.there in
    let other = eqb-false (count_of c.args.self.now.index c.args.key) 1 (sym c.lower.ensures.answer ∙ c.if-lower.false) in
    stored_left c.args.self.now c.args.region.now c.args.key c.requires.stored c.requires.there c.lower.new.self c.lower.ensures.lowered (omega arith)

pub returns-else-lower-clause-lowered : goal.returns-else-lower-clause-lowered
returns-else-lower-clause-lowered g c = counts_left c.args.self.now c.args.region.now c.args.key c.requires.stored c.requires.there c.lower.new.self c.lower.ensures.lowered

pub returns-else-lower-clause-keeps : goal.returns-else-lower-clause-keeps
returns-else-lower-clause-keeps g c = keeps_left c.args.self.now c.args.region.now c.args.key c.requires.stored c.requires.there c.lower.new.self c.lower.ensures.lowered

pub returns-then-lower-clause-cost : goal.returns-then-lower-clause-cost
returns-then-lower-clause-cost g c = one_went c.args.self.now.index c.lower.new.self c.args.key _ _ c.lower.ensures.lowered c.lower.ensures.forward c.lower.ensures.cost

pub returns-else-lower-clause-cost : goal.returns-else-lower-clause-cost
returns-else-lower-clause-cost g c = one_went c.args.self.now.index c.lower.new.self c.args.key _ _ c.lower.ensures.lowered c.lower.ensures.forward c.lower.ensures.cost
