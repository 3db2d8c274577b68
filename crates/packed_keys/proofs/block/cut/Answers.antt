-- The keys are cut behind the first 64.
use Rattle.std.proofs.Common.{◌∙◌, sym, arith}
use Rattle.std.proofs.lemmas.List.{length-take-le, take_rest}
use Rattle.packed_keys.proofs.Cut.{cut_in_two}
use Rattle.packed_keys.proofs.block.cut.Goals as goal

pub slice_bounds-of-end : goal.slice_bounds-of-end
slice_bounds-of-end c = sym (length-take-le 64 c.args.keys.now (omega arith))

pub returns-in-Ok-clause-keys : goal.returns-in-Ok-clause-keys
returns-in-Ok-clause-keys c = (cut_in_two c.args.keys.now c.in_ok-low.low c.in-Ok.high c.requires c.in_ok-low.ensures (c.in-Ok.ensures ∙ take_rest c.args.keys.now 64)).0

pub returns-in-Ok-clause-low : goal.returns-in-Ok-clause-low
returns-in-Ok-clause-low c = (cut_in_two c.args.keys.now c.in_ok-low.low c.in-Ok.high c.requires c.in_ok-low.ensures (c.in-Ok.ensures ∙ take_rest c.args.keys.now 64)).1

pub returns-in-Ok-clause-high : goal.returns-in-Ok-clause-high
returns-in-Ok-clause-high c = (cut_in_two c.args.keys.now c.in_ok-low.low c.in-Ok.high c.requires c.in_ok-low.ensures (c.in-Ok.ensures ∙ take_rest c.args.keys.now 64)).2
