-- The record that was taken out is put in again.
use Rattle.std.proofs.Common.{refl, sym, ap, ◌∙◌}
use Rattle.entity_state.specs.Tabled.{Tabled}
use Rattle.holdings.specs.declared.kept.KeptPage.{KeptPage}
use Rattle.holdings.proofs.Anew.{keys_set, room_after}
use Rattle.holdings.proofs.remapping.set_keys.Goals as goal

pub put-requires-2 : goal.put-requires-2
put-requires-2 c = room_after c.args.table.now c.put.new.self c.args.id _ c.put.ensures.after

pub returns : goal.returns
returns c =
    keys_set c.args.table.now.records c.args.id c.in-Some.before c.in-Some-held.held c.args.keys _ _ c.put.new.self.records c.put-2.new.self.records
    (sym c.put.ensures.before ∙ c.in-Some.is) c.in-Some-held.is
    (ap (λ (t : Tabled KeptPage). t.records) c.put.ensures.after) (ap (λ (t : Tabled KeptPage). t.records) c.put-2.ensures.after) refl
