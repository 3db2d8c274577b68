-- What was printed, the snapshot and the line stand one behind the other.
use Rattle.std.proofs.Common.{◌≡◌, ◌∙◌, ap, length, ◌++◌}
use Rattle.wdq_c.specs.End.{last_saved}
use Rattle.wdq_c.proofs.Shown.{shown_all, shown_first}
use Rattle.wdq_c.proofs.show.Goals as goal

pub returns-clause-shown : goal.returns-clause-shown
returns-clause-shown c =
    let saved : c.last-saved.result.now ≡ last_saved c.args.ended.now.snapshots.kept = c.last-saved.ensures ∙ ap last_saved c.kept.ensures in
    record {
      said = c.say-said.ensures.said.said;
      line = c.say-said.ensures.said.is;
      number = c.from.ensures ∙ c.status_number.ensures;
      printed_bytes = ap length c.bytes-printed.ensures;
      saved_bytes = ap length saved;
      said_bytes = c.say-said.ensures.said.many_are;
      front = λ fits. shown_first c.bytes-printed.result.now c.last-saved.result.now c.put.new.out c.put-2.new.out c.say-said.new.out _ _ c.put.ensures.put c.put-2.ensures.length c.put-2.ensures.front c.put-2.ensures.put c.say-said.ensures.length c.say-said.ensures.front c.say-said.ensures.said fits
          ∙ c.bytes-printed.ensures;
      all = λ fits. shown_all c.bytes-printed.result.now c.last-saved.result.now c.put.new.out c.put-2.new.out c.say-said.new.out _ _ c.put.ensures.put c.put-2.ensures.length c.put-2.ensures.front c.put-2.ensures.put c.say-said.ensures.length c.say-said.ensures.front c.say-said.ensures.said fits
          ∙ (λ i. c.bytes-printed.ensures i ++ (saved i ++ c.say-said.ensures.said.said));
    }
