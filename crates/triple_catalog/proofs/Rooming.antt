-- The terms that a store needs room for.
use Rattle.std.proofs.Common.{◌≡◌, ℕ, ◌+◌, ◌<◌, Bool, true, false, not, ◌&&◌, ◌⊎◌, ⊎_elim, List, [], ◌∷◌, ◌++◌, take, Err, Result, refl, sym, ◌∙◌, ap, subst, arith, true≢false}
use Rattle.std.specs.List.{flat_map}
use Rattle.std.specs.FinMap as map
use Rattle.sorted_sets.specs.Rising.{has}
use Rattle.sorted_sets.proofs.{Bools.equal, Bools.or_true, Rising.has-append}
use Rattle.rdf_term.specs.{declared.triple.Triple.Triple, declared.term.Term.Term, Order.term_cmp, Order.triple_cmp, Order.triple_cmp-total}
use Rattle.rdf_term.proofs.Texts.{triple_cmp-IsAntisymmetric}
use Rattle.text_region.specs.Region.{Texts}
use Rattle.term_pool.specs.{Pool.one_if, declared.fault.PoolFault.PoolFault, declared.fault.PoolFault.TheVariants.Full}
use Rattle.slot_keys.specs.declared.key.Key.{Key}
use Rattle.slot_keys.proofs.Lists.{in_take, one_of, or_left}
use Rattle.triple_catalog.specs.{declared.catalog.Catalog.Catalog, Counts.count_of, Room.distinct, Room.room_for, Room.terms_of}
use Rattle.triple_catalog.specs.{Slots.HasTermsIn, Slots.IsAllOf, Stored.counts_in, Stored.limit_of, Moves.TakesIn, Moves.triples_at}
use Rattle.triple_catalog.proofs.{Owners.same_triple, Standing.owned, Standing.stored_if}

-- the terms of a triple of a list are among those of the list
pub terms_among : (ts : List Triple) (t : Triple) → has triple_cmp t ts ≡ true → IsAllOf (terms_of t) (flat_map terms_of ts)
terms_among [] t h = absurd (true≢false (sym h))
terms_among (u ∷ ts) t h =
    ⊎_elim
    (λ same. record { each = λ x in_t. has-append term_cmp x (terms_of u) (flat_map terms_of ts) ∙ or_left _ _ (subst (λ (v : Triple). has term_cmp x (terms_of v) ≡ true) (triple_cmp-IsAntisymmetric t u (equal _ same)) in_t) })
    (λ rest. record { each = λ x in_t. has-append term_cmp x (terms_of u) (flat_map terms_of ts) ∙ or_true (has term_cmp x (terms_of u)) _ ((terms_among ts t rest).each x in_t) })
    (one_of (same_triple t u) (has triple_cmp t ts) h)

-- a sum above 0 has a part above 0
pub positive_sum : (a b : ℕ) → 0 < a + b → (0 < a) ⊎ (0 < b)
positive_sum a b h = grind arith

is_one : (a b : Bool) → 0 < one_if (a && b) → a ≡ true
is_one true b h = refl
is_one false b h = absurd (omega (arith, h))

-- what is stored while triples come was stored, or is one of those
pub stored_then : (st : Catalog) (r : Texts) (now : Catalog) (s : Texts) (had keys : List Key) (done : List Triple) → TakesIn st r now s had keys done → (t : Triple) → map.contains_key (counts_in now s) t ≡ true → has triple_cmp t (map.keys (counts_in st r) ++ done) ≡ true
stored_then st r now s had keys done h t there =
    let some = owned now s h.stored t there in
    let all = map.keys (counts_in st r) in
    ⊎_elim
    (λ was. has-append triple_cmp t all done ∙ or_left _ _ (sym (map.contains_key-keys (counts_in st r) t) ∙ stored_if (counts_in st r) t was))
    (λ came. has-append triple_cmp t all done ∙ or_true (has triple_cmp t all) _ (is_one (has triple_cmp t done) (not (has triple_cmp t (triples_at st r had))) came))
    (positive_sum (count_of (counts_in st r) t) (one_if (has triple_cmp t done && not (has triple_cmp t (triples_at st r had)))) (omega (arith, some, h.counts t)))

-- where one triple of them found no room there is none for all
pub no_room : (st : Catalog) (r : Texts) (now : Catalog) (s : Texts) (had keys : List Key) (new : List Triple) (i : ℕ) (t : Triple) → TakesIn st r now s had keys (take i new) → has triple_cmp t new ≡ true → ((terms : List Term) → HasTermsIn (counts_in now s) terms → IsAllOf (terms_of t) terms → limit_of now < distinct terms) → limit_of st < room_for (counts_in st r) new
no_room st r now s had keys new i t h among full =
    let all = map.keys (counts_in st r) ++ new in
    let within : (u : Triple) → has triple_cmp u (map.keys (counts_in st r) ++ take i new) ≡ true → has triple_cmp u all ≡ true = λ u e.
    has-append triple_cmp u (map.keys (counts_in st r)) new ∙ ⊎_elim (λ a. or_left _ _ a) (λ b. or_true _ _ (in_take triple_cmp-total u i new b)) (one_of (has triple_cmp u (map.keys (counts_in st r))) (has triple_cmp u (take i new)) (sym (has-append triple_cmp u (map.keys (counts_in st r)) (take i new)) ∙ e)) in
    let f = full (flat_map terms_of all) (record { each = λ u there. terms_among all u (within u (stored_then st r now s had keys (take i new) h u there)) }) (terms_among all t (has-append triple_cmp t (map.keys (counts_in st r)) new ∙ or_true _ _ among)) in
    subst (λ n. n < room_for (counts_in st r) new) h.limit f

-- a fault is the same in another result
abbrev failed : (A : Type 0) → PoolFault → Result A PoolFault
failed A fault = Err fault

pub same_fault : {A B : Type 0} (fault : PoolFault) → failed A fault ≡ failed A Full → failed B fault ≡ failed B Full
same_fault {A} {B} fault e = let is : fault ≡ Full = cc in ap (failed B) is
