-- The stored triples are those of the indexes.
use Rattle.std.proofs.Common.{◌∙◌, count_by, sym, ap, arith}
use Rattle.std.specs.FinMap as map
use Rattle.slot_index.specs.Counts.{counts_of}
use Rattle.slot_index.specs.Patterns.{slots_agree}
use Rattle.slot_index.proofs.More.{keys-with_more, len-with_more}
use Rattle.slot_index.proofs.counted.SlotIndex.range_len.Goals as goal

pub returns-clause-len : goal.returns-clause-len
returns-clause-len g c =
    c.range_len.ensures.len
    ∙ ap (count_by (slots_agree c.args.pattern)) (sym (keys-with_more c.self.inside.orders (counts_of c.self.inside.more.entries) c.range_len.ensures.rising) ∙ ap map.keys c.self.view_is)

pub returns-clause-cost : goal.returns-clause-cost
returns-clause-cost g c d below =
    let long = sym (len-with_more c.self.inside.orders (counts_of c.self.inside.more.entries) c.range_len.ensures.rising) ∙ ap map.len c.self.view_is in
    c.range_len.ensures.cost d (omega arith)
