-- The limit was set, and where that is asked for, the world was made lean, unless memory was refused.
use Rattle.std.proofs.Common.{◌≡◌, ◌∙◌, sym, ap}
use Rattle.std.specs.FinMap.{len-empty}
use Rattle.replay_model.specs.Play.{nothing_played}
use Rattle.world.specs.WorldState.{WorldState}
use Rattle.session.proofs.Limited.{left_whole, made_lean}
use Rattle.session.proofs.resuming.set_limit.Goals as goal

pub set_limit-requires : goal.set_limit-requires
set_limit-requires c = record { records = rw c.requires.nothing (len-empty _ _); all = c.requires.lean }

pub make_lean-requires : goal.make_lean-requires
make_lean-requires c = ap (λ (w : WorldState). w.replay.played) c.set_limit.ensures ∙ c.requires.nothing

pub returns-then-lean-clause-rest : goal.returns-then-lean-clause-rest
returns-then-lean-clause-rest c =
    (made_lean c.args.options.now _ c.args.world.now c.set_limit.new.self c.make_lean.new.world c.make_lean.result c.set_limit.ensures c.max_terms-terms.ensures (sym c.if-lean.true ∙ c.lean.ensures) c.make_lean.ensures.ok c.make_lean.ensures.err).rest

pub returns-then-lean-clause-limit : goal.returns-then-lean-clause-limit
returns-then-lean-clause-limit c =
    (made_lean c.args.options.now _ c.args.world.now c.set_limit.new.self c.make_lean.new.world c.make_lean.result c.set_limit.ensures c.max_terms-terms.ensures (sym c.if-lean.true ∙ c.lean.ensures) c.make_lean.ensures.ok c.make_lean.ensures.err).limit

pub returns-then-lean-clause-terms : goal.returns-then-lean-clause-terms
returns-then-lean-clause-terms c =
    (made_lean c.args.options.now _ c.args.world.now c.set_limit.new.self c.make_lean.new.world c.make_lean.result c.set_limit.ensures c.max_terms-terms.ensures (sym c.if-lean.true ∙ c.lean.ensures) c.make_lean.ensures.ok c.make_lean.ensures.err).terms

pub returns-then-lean-clause-whole : goal.returns-then-lean-clause-whole
returns-then-lean-clause-whole c =
    (made_lean c.args.options.now _ c.args.world.now c.set_limit.new.self c.make_lean.new.world c.make_lean.result c.set_limit.ensures c.max_terms-terms.ensures (sym c.if-lean.true ∙ c.lean.ensures) c.make_lean.ensures.ok c.make_lean.ensures.err).whole

pub returns-clause-rest : goal.returns-clause-rest
returns-clause-rest c = (left_whole c.args.options.now _ c.args.world.now c.set_limit.new.self c.set_limit.ensures c.max_terms-terms.ensures (sym c.if-lean.false ∙ c.lean.ensures)).rest

pub returns-clause-limit : goal.returns-clause-limit
returns-clause-limit c = (left_whole c.args.options.now _ c.args.world.now c.set_limit.new.self c.set_limit.ensures c.max_terms-terms.ensures (sym c.if-lean.false ∙ c.lean.ensures)).limit

pub returns-clause-terms : goal.returns-clause-terms
returns-clause-terms c = (left_whole c.args.options.now _ c.args.world.now c.set_limit.new.self c.set_limit.ensures c.max_terms-terms.ensures (sym c.if-lean.false ∙ c.lean.ensures)).terms

pub returns-clause-whole : goal.returns-clause-whole
returns-clause-whole c = (left_whole c.args.options.now _ c.args.world.now c.set_limit.new.self c.set_limit.ensures c.max_terms-terms.ensures (sym c.if-lean.false ∙ c.lean.ensures)).whole
