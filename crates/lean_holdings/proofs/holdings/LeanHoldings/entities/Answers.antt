-- The texts of pieces change no id.
use Rattle.std.proofs.Common.{◌≡◌, List, IfOk, subst, sym}
use Rattle.entity_model.specs.declared.id.EntityId.{EntityId}
use Rattle.text_region.specs.Region.{bytes_of}
use Rattle.lean_holdings.specs.Kept.{record_with}
use Rattle.holders.proofs.Values.{values_keys}
use Rattle.lean_holdings.proofs.holdings.LeanHoldings.entities.Goals as goal

pub returns : goal.returns
returns c =
    rw (← c.self.view_is) (subst (λ (keys : List EntityId). IfOk c.ids.result (λ ids. ids ≡ keys))
    (sym (values_keys (record_with (bytes_of c.self.inside.pages)) c.self.inside.table.records)) c.ids.ensures)
