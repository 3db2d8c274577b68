-- The terms of the triples that the records mean.
use Rattle.std.proofs.Common.{◌≡◌, ℕ, ◌<◌, true, ◌||◌, List, [], ◌∷◌, ◌++◌, Option, Some, None, is_some, unwrap_or, nat_lt, lt-ltb, length, refl, sym, ◌∙◌, ap, arith}
use Rattle.std.specs.List.{flat_map, list_any}
use Rattle.std.specs.FinMap as map
use Rattle.sorted_sets.specs.Rising.{has, sorted}
use Rattle.sorted_sets.proofs.{Finding.list_any-sorted, Rising.has-append, Rising.same_rising, Rising.sorted_same}
use Rattle.rdf_term.specs.{declared.term.Term.Term, declared.triple.Triple.Triple}
use Rattle.rdf_term.specs.Order.{term_cmp, term_cmp-total, triple_cmp, triple_cmp-total}
use Rattle.rdf_term.proofs.Texts.{term_cmp-IsAntisymmetric, triple_cmp-IsAntisymmetric}
use Rattle.triple_store.specs.{Counts.Counts, Counts.HaveOwners, Counts.count_of, Room.distinct, Room.room_for, Room.terms_of}
use Rattle.replay_model.specs.{Records.Records, Union.Meaning, Union.triples_at, Union.union}
use Rattle.replay_model.proofs.Owners.{has-union, union-rises}
use Rattle.slot_index.proofs.Mapped.{rising_keys}
use Rattle.holders.specs.{Counted.CountsOwners, Roomed.HasRoom, Roomed.room_with}

-- a triple is stored where it has an owner
stored : (counts : Counts) (t : Triple) → HaveOwners counts → map.contains_key counts t ≡ nat_lt 0 (count_of counts t)
stored counts t h = by (map.get counts t) (h t)
  where
    by : (v : Option ℕ) → (is_some v ≡ true → 0 < unwrap_or v 0) → is_some v ≡ nat_lt 0 (unwrap_or v 0)
    by None some = refl
    by (Some n) some = sym (lt-ltb 0 n (some refl))

-- the stored triples are the union
pub counted_union : (m : Meaning Triple) (counts : Counts) (records : Records) → HaveOwners counts → CountsOwners m counts records → map.keys counts ≡ union triple_cmp m records
counted_union m counts records owned h =
    same_rising triple_cmp-total triple_cmp-IsAntisymmetric (map.keys counts) (union triple_cmp m records)
    (rising_keys triple_cmp (map.entries counts) (map.entries_sorted counts))
    (union-rises triple_cmp-total m records)
    (λ t. sym (map.contains_key-keys counts t) ∙ stored counts t owned ∙ ap (nat_lt 0) (h.owned t) ∙ sym (has-union triple_cmp-total m records t))

pub has_term : (q : Term) (ts : List Triple) → has term_cmp q (flat_map terms_of ts) ≡ list_any (λ t. has term_cmp q (terms_of t)) ts
has_term q [] = refl
has_term q (t ∷ ts) = has-append term_cmp q (terms_of t) (flat_map terms_of ts) ∙ ap (λ b. has term_cmp q (terms_of t) || b) (has_term q ts)

-- triples of one set have the same terms
pub distinct_same : (ts us : List Triple) → ((t : Triple) → has triple_cmp t ts ≡ has triple_cmp t us) → distinct (flat_map terms_of ts) ≡ distinct (flat_map terms_of us)
distinct_same ts us same =
    let set : sorted triple_cmp ts ≡ sorted triple_cmp us = sorted_same triple_cmp-total triple_cmp-IsAntisymmetric ts us same in
    ap length (sorted_same term_cmp-total term_cmp-IsAntisymmetric (flat_map terms_of ts) (flat_map terms_of us) (λ q.
    has_term q ts
    ∙ sym (list_any-sorted triple_cmp triple_cmp-IsAntisymmetric (λ t. has term_cmp q (terms_of t)) ts)
    ∙ ap (list_any (λ t. has term_cmp q (terms_of t))) set
    ∙ list_any-sorted triple_cmp triple_cmp-IsAntisymmetric (λ t. has term_cmp q (terms_of t)) us
    ∙ sym (has_term q us)))

-- triples of one set need the same room
pub room_same : (c : Counts) (ts us : List Triple) → ((t : Triple) → has triple_cmp t ts ≡ has triple_cmp t us) → room_for c ts ≡ room_for c us
room_same c ts us same =
    distinct_same (map.keys c ++ ts) (map.keys c ++ us)
    (λ t. has-append triple_cmp t (map.keys c) ts ∙ ap (λ b. has triple_cmp t (map.keys c) || b) (same t) ∙ sym (has-append triple_cmp t (map.keys c) us))

pub no_entries : {A : Type 0} (es : List A) → length es ≡ 0 → es ≡ []
no_entries [] e = refl
no_entries (x ∷ es) e = absurd (omega arith)

-- without records nothing needs room
pub nothing_held : (m : Meaning Triple) (records : Records) (limit : ℕ) → map.len records ≡ 0 → HasRoom m limit records
nothing_held m records limit none =
    let entries : map.entries records ≡ [] = no_entries (map.entries records) (sym (map.len-entries records) ∙ none) in
    let zero : room_with m records [] ≡ 0 = ap (λ es. distinct (flat_map terms_of (sorted triple_cmp (flat_map (triples_at m) es) ++ []))) entries in
    omega arith
