-- The triples that agree lie between two.
use Rattle.std.proofs.Common.{◌∙◌, length, ap}
use Rattle.std.proofs.lemmas.List.Sums.{length-filter}
use Rattle.block_index.specs.Blocks.{keys_of, keys_between}
use Rattle.slot_keys.specs.Keys.{key_cmp}
use Rattle.slot_index.specs.Patterns.{low, slots_agree}
use Rattle.slot_index.proofs.Ranging.{one_range}
use Rattle.slot_index.proofs.orders.leading_len.Goals as goal

pub returns-clause-len : goal.returns-clause-len
returns-clause-len g c =
    c.range_len.ensures.len
    ∙ ap (λ k. length (keys_between key_cmp k c.high.result (keys_of c.args.index.now))) c.low.ensures
    ∙ ap (λ k. length (keys_between key_cmp (low c.args.pattern) k (keys_of c.args.index.now))) c.high.ensures
    ∙ ap length (one_range c.args.pattern (keys_of c.args.index.now) c.requires.leads c.requires.fit)
    ∙ length-filter (slots_agree c.args.pattern) (keys_of c.args.index.now)
