-- Where the event finds no room to wait, it is forgotten again.
use Rattle.std.proofs.Common.{◌≡◌, Bool, true, false, not, refl}
use Rattle.entity_model.specs.Event.{event_cmp, event_cmp_total}
use Rattle.reorder_buffer.proofs.Undo.{remove_key-insert_key}
use Rattle.reorder_buffer.proofs.buffer.Buffer.take.Goals as goal

-- what was added wasn't there
is_new : (added there : Bool) → added ≡ not there → added ≡ true → there ≡ false
is_new added false is h = refl
is_new added true is h = cc

pub returns-in-Err-clause-err : goal.returns-in-Err-clause-err
returns-in-Err-clause-err c =
    let absent = c.in_ok-insert.ensures.added in
    let removed = c.remove.ensures.keys in
    let inserted = c.in_ok-insert.ensures.keys in
    let not_put = c.in-Err.ensures.err in
    let kept : c.remove.new.self.keys ≡ c.self.inside.kept.keys =
    rw (removed, inserted) (remove_key-insert_key event_cmp event_cmp_total _ _ (is_new c.in_ok-insert.field-0 _ absent c.if-not-branch.false)) in
    let waiting : c.insert-2.new.self.keys ≡ c.self.inside.waiting.keys = not_put in
    rw (← c.self.view_is) (λ i. record { kept = kept i; waiting = waiting i; mark = c.self.inside.mark; horizon = c.self.inside.horizon; closed = c.self.inside.closed })
