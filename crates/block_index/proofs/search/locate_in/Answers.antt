-- A key that is found stands there; otherwise one block's keys end before the next block's first.
use Rattle.std.proofs.Common.{◌∙◌, ◌-◌, ◌<◌, [], length, ap, arith}
use Rattle.std.proofs.lemmas.List.{get_or_read}
use Rattle.block_index.proofs.Costs.{in_block, in_group}
use Rattle.block_index.proofs.Parts.{filled_at}
use Rattle.block_index.proofs.Standing.{found_at, between_at, tied_at}
use Rattle.block_index.proofs.search.locate_in.Goals as goal

pub returns-in-Ok-clause-stands : goal.returns-in-Ok-clause-stands
returns-in-Ok-clause-stands g c =
    let ends = c.in-Ok.ensures.ends in
    found_at g.met.K.Ranked.total c.args.key.now c.args.blocks.now c.in-Ok.block 0 c.requires.rising ends.0 (filled_at c.args.blocks.now c.in-Ok.block ends.0 c.requires.filled).0 (ends.1 c.args.key.now)

pub returns-in-Ok-clause-cost : goal.returns-in-Ok-clause-cost
returns-in-Ok-clause-cost g c = in_block (length c.args.blocks.now) _ _ c.in-Ok.ensures.cost

pub search-requires-clause-within : goal.search-requires-clause-within
search-requires-clause-within g c =
    let started = c.in-Err.ensures.ends.0 in
    let few = c.in-Err.ensures.ends.1 in
    let li : c.in-Err.next - 1 < length c.args.blocks.now = omega arith in
    let is = c.keys.ensures ∙ get_or_read c.args.blocks.now (c.in-Err.next - 1) c.index-blocks-block.result li c.index-blocks-block.is [] in
    let same = ap length is in
    let some = (filled_at c.args.blocks.now (c.in-Err.next - 1) li c.requires.filled).0 in
    omega arith

pub returns-in-Ok-search-clause-stands : goal.returns-in-Ok-search-clause-stands
returns-in-Ok-search-clause-stands g c =
    let started = c.in-Err.ensures.ends.0 in
    let few = c.in-Err.ensures.ends.1 in
    let li : c.in-Err.next - 1 < length c.args.blocks.now = omega arith in
    let is = c.keys.ensures ∙ get_or_read c.args.blocks.now (c.in-Err.next - 1) c.index-blocks-block.result li c.index-blocks-block.is [] in
    let ends = c.in-Ok-search.ensures.ends in
    tied_at g.met.K.Ranked.total c.args.key.now c.args.blocks.now (c.in-Err.next - 1) c.in-Ok-search.at c.keys.result.now c.requires.rising li is ends.0 ends.1

pub returns-in-Ok-search-clause-cost : goal.returns-in-Ok-search-clause-cost
returns-in-Ok-search-clause-cost g c =
    let started = c.in-Err.ensures.ends.0 in
    let few = c.in-Err.ensures.ends.1 in
    let li : c.in-Err.next - 1 < length c.args.blocks.now = omega arith in
    let same = ap length (c.keys.ensures ∙ get_or_read c.args.blocks.now (c.in-Err.next - 1) c.index-blocks-block.result li c.index-blocks-block.is []) in
    let most = (filled_at c.args.blocks.now (c.in-Err.next - 1) li c.requires.filled).1 in
    in_group (length c.args.blocks.now) (length c.keys.result.now) _ _ _ (omega arith) c.in-Err.ensures.cost c.in-Ok-search.ensures.cost

pub returns-in-Err-search-clause-stands : goal.returns-in-Err-search-clause-stands
returns-in-Err-search-clause-stands g c =
    let started = c.in-Err.ensures.ends.0 in
    let few = c.in-Err.ensures.ends.1 in
    let li : c.in-Err.next - 1 < length c.args.blocks.now = omega arith in
    let is = c.keys.ensures ∙ get_or_read c.args.blocks.now (c.in-Err.next - 1) c.index-blocks-block.result li c.index-blocks-block.is [] in
    let ends = c.in-Err-search.ensures.ends in
    between_at g.met.K.Ranked.total c.args.key.now c.args.blocks.now (c.in-Err.next - 1) c.in-Err-search.at c.in-Err.next c.keys.result.now c.requires.filled c.requires.rising li (omega arith) is ends.0 ends.1 ends.2 ends.3 c.in-Err.ensures.ends.3

pub returns-in-Err-search-clause-cost : goal.returns-in-Err-search-clause-cost
returns-in-Err-search-clause-cost g c =
    let started = c.in-Err.ensures.ends.0 in
    let few = c.in-Err.ensures.ends.1 in
    let li : c.in-Err.next - 1 < length c.args.blocks.now = omega arith in
    let same = ap length (c.keys.ensures ∙ get_or_read c.args.blocks.now (c.in-Err.next - 1) c.index-blocks-block.result li c.index-blocks-block.is []) in
    let most = (filled_at c.args.blocks.now (c.in-Err.next - 1) li c.requires.filled).1 in
    in_group (length c.args.blocks.now) (length c.keys.result.now) _ _ _ (omega arith) c.in-Err.ensures.cost c.in-Err-search.ensures.cost
