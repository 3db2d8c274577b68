-- A statement that stands alone is best unless it is deprecated.
use Rattle.std.proofs.Common.{◌≡◌, Bool, true, false, ◌&&◌, nat_lt, [], ◌∷◌, refl}
use Rattle.std.specs.Prelude.{None}
use Rattle.std.specs.Ordering.{eq_by_cmp}
use Rattle.entity_model.specs.declared.statement.Rank.{Rank}
use Rattle.entity_model.specs.declared.statement.Rank.TheVariants.{Deprecated, Normal, Preferred}
use Rattle.entity_model.specs.declared.statement.Statement.{Statement}
use Rattle.entity_model.specs.EntityId.{entity_cmp}
use Rattle.statement_facts.specs.Ranking.{rank_number, is_best, is_highest}

-- no rank is above itself
never_above : (same : Bool) (rank : Rank) → (same && nat_lt (rank_number rank) (rank_number rank)) ≡ false
never_above true Deprecated = refl
never_above true Normal = refl
never_above true Preferred = refl
never_above false Deprecated = refl
never_above false Normal = refl
never_above false Preferred = refl

pub alone : (s : Statement) → is_best (s ∷ []) s ≡ is_highest s.rank None
alone s = rw (never_above (eq_by_cmp entity_cmp s.property s.property) s.rank) refl
