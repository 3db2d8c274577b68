-- The keys of the blocks before, and those before it in its own, are no more than all.
use Rattle.std.proofs.Common.{arith}
use Rattle.block_index.proofs.Lengths.{keys_before_long, keys_fit}
use Rattle.block_index.proofs.counting.count_before.Goals as goal

pub count_keys-requires : goal.count_keys-requires
count_keys-requires g c =
    let fits = keys_fit c.args.blocks.now c.args.position.block c.requires.inside in
    let all = c.requires.few in
    omega arith

pub overflow_add-result : goal.overflow_add-result
overflow_add-result g c =
    let fits = keys_fit c.args.blocks.now c.args.position.block c.requires.inside in
    let all = c.requires.few in
    let within = c.requires.within in
    omega arith

pub returns : goal.returns
returns g c =
    let long = keys_before_long c.args.blocks.now c.args.position.block c.args.position.at c.requires.within in
    omega arith
