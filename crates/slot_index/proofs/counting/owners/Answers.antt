-- The map by triple has what the look-up finds.
use Rattle.std.proofs.Common.{◌∙◌, sym}
use Rattle.slot_index.proofs.Owners.{found}
use Rattle.slot_index.proofs.counting.owners.Goals as goal

pub returns : goal.returns
returns c = c.unwrap_or.ensures ∙ sym (found c.args.key c.args.counts.now.entries c.copied.result (c.copied.ensures ∙ c.get.ensures.value))
