use Rattle.std.proofs.Common.{◌∙◌, sym, ap, subst}
use Rattle.std.specs.FinMap as map
use Rattle.slot_index.specs.Counts.{HaveOwners, counts_of}
use Rattle.slot_index.proofs.More.{HaveOwners-with_more, len-with_more}
use Rattle.slot_index.proofs.counted.SlotIndex.len.Goals as goal

pub returns-clause-len : goal.returns-clause-len
returns-clause-len c = c.len.ensures.len ∙ sym (len-with_more c.self.inside.orders (counts_of c.self.inside.more.entries) c.len.ensures.rising) ∙ ap map.len c.self.view_is

pub returns-clause-owned : goal.returns-clause-owned
returns-clause-owned c = subst HaveOwners c.self.view_is (HaveOwners-with_more c.self.inside.orders (counts_of c.self.inside.more.entries))
