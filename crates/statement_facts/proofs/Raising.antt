-- The highest rank of each property, with one statement more.
use Rattle.std.proofs.Common.{◌≡◌, ℕ, Bool, true, false, cond, ◌&&◌, ◌||◌, nat_lt, refl, sym, ap, ◌∙◌, arith}
use Rattle.std.specs.Prelude.{Option, Some, None}
use Rattle.std.proofs.lemmas.Bool.Decides.{nat_tests}
use Rattle.std.proofs.lemmas.Cmp.{eq_by_cmp_equiv}
use Rattle.std.specs.Ordering.{eq_by_cmp}
use Rattle.entity_model.specs.declared.id.EntityId.{EntityId}
use Rattle.entity_model.specs.declared.statement.Rank.{Rank}
use Rattle.entity_model.specs.declared.statement.Statement.{Statement}
use Rattle.entity_model.specs.EntityId.{entity_cmp, entity_cmp_total}
use Rattle.statement_facts.specs.Ranking.{rank_number, is_above, is_ranked_above, has_rank_above}
use Rattle.statement_facts.proofs.Highest.{same_id}

or_false : (b : Bool) → b ≡ (b || false)
or_false true = refl
or_false false = refl

higher : (n a b : ℕ) → nat_lt b a ≡ true → nat_lt n a ≡ (nat_lt n b || nat_lt n a)
higher n a b h = grind (arith, nat_tests)

lower : (n a b : ℕ) → nat_lt b a ≡ false → nat_lt n b ≡ (nat_lt n b || nat_lt n a)
lower n a b h = grind (arith, nat_tests)

raised_here : (n : ℕ) (rank : Rank) (known : Option Rank) → is_above rank known ≡ true → nat_lt n (rank_number rank) ≡ (has_rank_above n known || nat_lt n (rank_number rank))
raised_here n rank None h = refl
raised_here n rank (Some other) h = higher n (rank_number rank) (rank_number other) h

kept_here : (n : ℕ) (rank : Rank) (known : Option Rank) → is_above rank known ≡ false → has_rank_above n known ≡ (has_rank_above n known || nat_lt n (rank_number rank))
kept_here n rank None h = cc
kept_here n rank (Some other) h = lower n (rank_number rank) (rank_number other) h

-- a statement whose rank is above the known one
pub raised : (old new : EntityId → Option Rank) (s : Statement) → is_above s.rank (old s.property) ≡ true → ((q : EntityId) → new q ≡ cond (eq_by_cmp entity_cmp s.property q) (Some s.rank) (old q)) → (p : EntityId) (n : ℕ) → has_rank_above n (new p) ≡ (has_rank_above n (old p) || is_ranked_above p n s)
raised old new s above updates p n = this (eq_by_cmp entity_cmp p s.property) refl
  where
    stands : (b : Bool) → eq_by_cmp entity_cmp p s.property ≡ b → new p ≡ cond b (Some s.rank) (old p)
    stands b e = updates p ∙ ap (λ d. cond d (Some s.rank) (old p)) ((eq_by_cmp_equiv entity_cmp_total).symm s.property p ∙ e)

    this : (b : Bool) → eq_by_cmp entity_cmp p s.property ≡ b → has_rank_above n (new p) ≡ (has_rank_above n (old p) || is_ranked_above p n s)
    this true e =
        ap (has_rank_above n) (stands true e) ∙ raised_here n s.rank (old p) (ap (λ q. is_above s.rank (old q)) (same_id p s.property e) ∙ above)
        ∙ sym (ap (λ d. has_rank_above n (old p) || (d && nat_lt n (rank_number s.rank))) e)
    this false e =
        ap (has_rank_above n) (stands false e) ∙ or_false (has_rank_above n (old p))
        ∙ sym (ap (λ d. has_rank_above n (old p) || (d && nat_lt n (rank_number s.rank))) e)

-- a statement whose rank isn't
pub unraised : (old : EntityId → Option Rank) (s : Statement) → is_above s.rank (old s.property) ≡ false → (p : EntityId) (n : ℕ) → has_rank_above n (old p) ≡ (has_rank_above n (old p) || is_ranked_above p n s)
unraised old s low p n = this (eq_by_cmp entity_cmp p s.property) refl
  where
    this : (b : Bool) → eq_by_cmp entity_cmp p s.property ≡ b → has_rank_above n (old p) ≡ (has_rank_above n (old p) || is_ranked_above p n s)
    this true e =
        kept_here n s.rank (old p) (ap (λ q. is_above s.rank (old q)) (same_id p s.property e) ∙ low)
        ∙ sym (ap (λ d. has_rank_above n (old p) || (d && nat_lt n (rank_number s.rank))) e)
    this false e = or_false (has_rank_above n (old p)) ∙ sym (ap (λ d. has_rank_above n (old p) || (d && nat_lt n (rank_number s.rank))) e)
