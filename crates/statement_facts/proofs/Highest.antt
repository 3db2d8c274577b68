-- The test for a best statement is what its words say.
use Rattle.std.proofs.Common.{◌≡◌, ℕ, ◌≤◌, inl, inr, Bool, true, false, not, ◌&&◌, ◌||◌, nat_lt, List, [], ◌∷◌, refl, sym, ap, ◌∙◌, arith}
use Rattle.std.specs.Prelude.{◌↔◌, ◌≢◌, IsTrue}
use Rattle.std.proofs.lemmas.Bool.Decides.{nat_tests}
use Rattle.std.proofs.lemmas.Cmp.{eq_by_cmp_equiv}
use Rattle.std.specs.Ordering.{eq_by_cmp}
use Rattle.std.specs.List.{list_any}
use Rattle.sorted_sets.specs.Rising.{In}
use Rattle.sorted_sets.proofs.Bools.{equal}
use Rattle.entity_model.specs.declared.id.EntityId.{EntityId}
use Rattle.entity_model.specs.declared.statement.Rank.{Rank}
use Rattle.entity_model.specs.declared.statement.Rank.TheVariants.{Deprecated, Normal, Preferred}
use Rattle.entity_model.specs.declared.statement.Statement.{Statement}
use Rattle.entity_model.specs.EntityId.{entity_cmp, entity_cmp_total, entity_cmp_same}
use Rattle.rdf_vocabulary.proofs.Shared.{both}
use Rattle.statement_facts.specs.Ranking.{rank_number, is_ranked_above, is_best, IsBest}

-- ids that their order does not tell apart are one id
pub same_id : (x y : EntityId) → eq_by_cmp entity_cmp x y ≡ true → x ≡ y
same_id x y e = entity_cmp_same x y (equal (entity_cmp x y) e)

id_itself : (x y : EntityId) → y ≡ x → eq_by_cmp entity_cmp x y ≡ true
id_itself x y e = ap (eq_by_cmp entity_cmp x) e ∙ (eq_by_cmp_equiv entity_cmp_total).refl x

counts_is : (rank : Rank) → nat_lt 0 (rank_number rank) ≡ true → rank ≢ Deprecated
counts_is Deprecated h = λ e. absurd cc
counts_is Normal h = λ e. absurd cc
counts_is Preferred h = λ e. absurd cc

counts : (rank : Rank) → rank ≢ Deprecated → nat_lt 0 (rank_number rank) ≡ true
counts Deprecated h = absurd (h refl)
counts Normal h = refl
counts Preferred h = refl

neither : (a b : Bool) → (a || b) ≡ false → (a ≡ false) × (b ≡ false)
neither true b e = cc
neither false b e = (refl, e)

is_not : (b : Bool) → not b ≡ true → b ≡ false
is_not true e = cc
is_not false e = refl

-- none of a list is above
none_above : (p : EntityId) (number : ℕ) (xs : List Statement) → list_any (is_ranked_above p number) xs ≡ false → (other : Statement) → In other xs → other.property ≡ p → rank_number other.rank ≤ number
none_above p number [] none other among same = absurd among
none_above p number (x ∷ xs) none other (inl e) same =
    let parts = neither (is_ranked_above p number x) (list_any (is_ranked_above p number) xs) none in
    not_above (eq_by_cmp entity_cmp p other.property) (rank_number other.rank) (ap (is_ranked_above p number) e ∙ parts.0) (id_itself p other.property same)
  where
    not_above : (b : Bool) (n : ℕ) → (b && nat_lt number n) ≡ false → b ≡ true → n ≤ number
    not_above true n h e = grind (arith, nat_tests)
    not_above false n h e = absurd cc
none_above p number (x ∷ xs) none other (inr among) same =
    let parts = neither (is_ranked_above p number x) (list_any (is_ranked_above p number) xs) none in
    none_above p number xs parts.1 other among same

above_none : (p : EntityId) (number : ℕ) (xs : List Statement) → ((other : Statement) → In other xs → other.property ≡ p → rank_number other.rank ≤ number) → list_any (is_ranked_above p number) xs ≡ false
above_none p number [] below = refl
above_none p number (x ∷ xs) below =
    rw (this (eq_by_cmp entity_cmp p x.property) refl) (above_none p number xs (λ other among. below other (inr among)))
  where
    this : (b : Bool) → eq_by_cmp entity_cmp p x.property ≡ b → is_ranked_above p number x ≡ false
    this true e = let low = below x (inl refl) (sym (same_id p x.property e)) in grind (arith, nat_tests)
    this false e = rw e refl

-- the test and its words
pub best_words : (all : List Statement) (s : Statement) → IsTrue (is_best all s) ↔ IsBest all s
best_words all s = (there, back)
  where
    there : IsTrue (is_best all s) → IsBest all s
    there h =
        let parts = both (nat_lt 0 (rank_number s.rank)) (not (list_any (is_ranked_above s.property (rank_number s.rank)) all)) h in
        record {
          counts = counts_is s.rank parts.0;
          highest = none_above s.property (rank_number s.rank) all (is_not (list_any (is_ranked_above s.property (rank_number s.rank)) all) parts.1);
        }

    back : IsBest all s → IsTrue (is_best all s)
    back h = rw (counts s.rank h.counts, above_none s.property (rank_number s.rank) all h.highest) refl
