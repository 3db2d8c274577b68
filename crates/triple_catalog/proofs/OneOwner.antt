-- The triples of one owner's keys, in order.
use Rattle.std.proofs.Common.{◌≡◌, List, Result, Ok, Err, IfOk, sym, ◌∙◌}
use Rattle.sorted_sets.specs.Rising.{sorted}
use Rattle.sorted_sets.proofs.Rising.{sorted_same}
use Rattle.base.specs.declared.memory.OutOfMemory.{OutOfMemory}
use Rattle.rdf_term.specs.{declared.triple.Triple.Triple, Order.triple_cmp, Order.triple_cmp-total}
use Rattle.rdf_term.proofs.Texts.{triple_cmp-IsAntisymmetric}
use Rattle.text_region.specs.Region.{Texts}
use Rattle.slot_keys.specs.declared.key.Key.{Key}
use Rattle.triple_catalog.specs.{declared.catalog.Catalog.Catalog, Moves.triples_at, Stored.AreKeysOf}
use Rattle.triple_catalog.proofs.Exchanged.{same_gone}

-- the triples that keys stand for, in order, are those of which they are the keys
pub rows_are : (st : Catalog) (r : Texts) (keys : List Key) (found : Result (List Triple) OutOfMemory) → IfOk found (λ rows. rows ≡ sorted triple_cmp (triples_at st r keys))
    → IfOk found (λ rows. (triples : List Triple) → AreKeysOf st r keys triples → rows ≡ sorted triple_cmp triples)
rows_are st r keys (Ok rows) is = λ triples are. is ∙ sym (sorted_same triple_cmp-total triple_cmp-IsAntisymmetric triples (triples_at st r keys) (same_gone st r keys triples are))
rows_are st r keys (Err refused) is = tt
