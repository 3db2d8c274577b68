-- Which statements of a list are best.
use Rattle.std.specs.Prelude.{◌≡◌, ◌≢◌, ℕ, ◌≤◌, Bool, true, false, not, ◌&&◌, nat_lt, List, Option, Some, None}
use Rattle.std.specs.List.{list_any}
use Rattle.std.specs.Ordering.{eq_by_cmp}
use Rattle.sorted_sets.specs.Rising.{In}
use Rattle.entity_model.specs.declared.id.EntityId.{EntityId}
use Rattle.entity_model.specs.declared.statement.Rank.{Rank}
use Rattle.entity_model.specs.declared.statement.Rank.TheVariants.{Deprecated, Normal, Preferred}
use Rattle.entity_model.specs.declared.statement.Statement.{Statement}
use Rattle.entity_model.specs.EntityId.{entity_cmp}

-- the number of a rank in the order of ranks
abbrev pub rank_number : Rank → ℕ
rank_number Deprecated = 0
rank_number Normal = 1
rank_number Preferred = 2

-- whether a statement is of the property and its rank is above a number in the order
abbrev pub is_ranked_above : EntityId → ℕ → Statement → Bool
is_ranked_above property number s = eq_by_cmp entity_cmp property s.property && nat_lt number (rank_number s.rank)

-- whether a statement isn't deprecated and none of the list has its property and a higher rank
abbrev pub is_best : List Statement → Statement → Bool
is_best all s = nat_lt 0 (rank_number s.rank) && not (list_any (is_ranked_above s.property (rank_number s.rank)) all)

-- the same in words: not deprecated, and no statement of its property is ranked higher
pub record IsBest (all : List Statement) (s : Statement) : Type 0 where
  pub counts : s.rank ≢ Deprecated
  pub highest : (other : Statement) → In other all → other.property ≡ s.property → rank_number other.rank ≤ rank_number s.rank

-- whether there is a rank, and it is above a number in the order
abbrev pub has_rank_above : ℕ → Option Rank → Bool
has_rank_above number None = false
has_rank_above number (Some rank) = nat_lt number (rank_number rank)

-- whether a rank is above the other, where there is another
abbrev pub is_above : Rank → Option Rank → Bool
is_above rank None = true
is_above rank (Some other) = nat_lt (rank_number other) (rank_number rank)

-- whether a statement of this rank is best, where this is the highest rank of its property
abbrev pub is_highest : Rank → Option Rank → Bool
is_highest rank highest = nat_lt 0 (rank_number rank) && not (has_rank_above (rank_number rank) highest)
