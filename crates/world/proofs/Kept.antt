-- The triples of all that is held stay where a record goes in that holds what was held.
use Rattle.std.proofs.Common.{◌≡◌, ℕ, ◌+◌, List, Option, Result, Ok, Err, OnOk, nat_lt, sym, ◌∙◌, ap, arith}
use Rattle.std.specs.FinMap as map
use Rattle.sorted_sets.specs.{Counting.one_if, Rising.has}
use Rattle.sorted_sets.proofs.Rising.{same_rising}
use Rattle.rdf_term.specs.{declared.triple.Triple.Triple, Order.triple_cmp, Order.triple_cmp-total}
use Rattle.rdf_term.proofs.Texts.{triple_cmp-IsAntisymmetric}
use Rattle.entity_model.specs.declared.id.EntityId.{EntityId}
use Rattle.entity_state.specs.{declared.record.Held.Held, declared.record.Record.Record}
use Rattle.replay_model.specs.{Records.Bytes, Records.Records, Records.record_of, Union.Meaning, Union.owners, Union.triples_held, Union.union}
use Rattle.replay_model.proofs.Owners.{has-union, union-rises}
use Rattle.shared_triples.specs.Lean.{triples_of}
use Rattle.shared_triples.proofs.Holding.{owners_moved}

-- what follows of an answer that isn't a fault
pub on_ok : {T E P Q : Type 0} (r : Result T E) → (P → Q) → OnOk r P → OnOk r Q
on_ok (Ok x) then so = then so
on_ok (Err e) then so = tt

pub union_kept : (m : Meaning Triple) (records : Records) (x : EntityId) (r : Record Bytes) → r.held ≡ (record_of records x).held → union triple_cmp m (map.insert records x r) ≡ union triple_cmp m records
union_kept m records x r same =
    same_rising triple_cmp-total triple_cmp-IsAntisymmetric (union triple_cmp m (map.insert records x r)) (union triple_cmp m records)
    (union-rises triple_cmp-total m (map.insert records x r)) (union-rises triple_cmp-total m records)
    (λ t. has-union triple_cmp-total m (map.insert records x r) t ∙ ap (nat_lt 0) (as_many t) ∙ sym (has-union triple_cmp-total m records t))
  where
    as_many : (t : Triple) → owners triple_cmp m (map.insert records x r) t ≡ owners triple_cmp m records t
    as_many t =
        let counts = owners_moved m records x r t in
        let alike : one_if (has triple_cmp t (triples_held m x r.held)) ≡ one_if (has triple_cmp t (triples_of m records x)) =
        ap (λ (h : Option (Held Bytes)). one_if (has triple_cmp t (triples_held m x h))) same in
        omega (arith, counts, alike)
