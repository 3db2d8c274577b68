-- The texts of pieces change no id.
use Rattle.std.proofs.Common.{◌≡◌, List, IfOk, subst, sym}
use Rattle.entity_model.specs.declared.id.EntityId.{EntityId}
use Rattle.triple_store.specs.StoreState.{beside}
use Rattle.holdings.specs.Keeping.{record_with}
use Rattle.holders.proofs.Values.{values_keys}
use Rattle.holdings.proofs.holdings.Holdings.entities.Goals as goal

pub returns : goal.returns
returns c =
    rw (← c.self.view_is) (subst (λ (keys : List EntityId). IfOk c.ids.result (λ ids. ids ≡ keys))
    (sym (values_keys (record_with (beside c.self.inside.store)) c.self.inside.table.records)) c.ids.ensures)
