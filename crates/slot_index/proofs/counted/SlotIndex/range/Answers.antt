-- The stored triples are those of the indexes.
use Rattle.std.proofs.Common.{◌≡◌, ◌∙◌, Bool, IfOk, ◌&&◌, count_by, sym, ap, subst}
use Rattle.std.specs.FinMap as map
use Rattle.sorted_sets.specs.Rising.{IsRising}
use Rattle.slot_keys.specs.declared.key.Key.{Key}
use Rattle.slot_keys.specs.Keys.{key_cmp}
use Rattle.slot_index.specs.Patterns.{slots_agree}
use Rattle.slot_index.specs.Counts.{counts_of}
use Rattle.slot_index.proofs.More.{keys-with_more, len-with_more}
use Rattle.slot_index.proofs.Ranging.{same_steps}
use Rattle.slot_index.proofs.counted.SlotIndex.range.Goals as goal

pub returns : goal.returns
returns g c =
    let keys = sym (keys-with_more c.self.inside.orders (counts_of c.self.inside.more.entries) c.range.ensures.rising) ∙ ap map.keys c.self.view_is in
    let long = sym (len-with_more c.self.inside.orders (counts_of c.self.inside.more.entries) c.range.ensures.rising) ∙ ap map.len c.self.view_is in
    record {
      found = subst (λ all. IfOk c.range.result (λ found. (p : Key → Bool) → count_by p found ≡ count_by (λ key. slots_agree c.args.pattern key && p key) all)) keys c.range.ensures.found;
      rising = subst (IsRising key_cmp) keys c.range.ensures.rising;
      cost = same_steps _ _ _ _ _ _ long (ap (count_by (slots_agree c.args.pattern)) keys) c.range.ensures.cost;
    }
