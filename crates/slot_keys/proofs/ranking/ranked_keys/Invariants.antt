-- The ranks of the keys so far.
use Rattle.std.proofs.Common.{◌≡◌, take}
use Rattle.std.specs.Prelude.{map as mapped}
use Rattle.std.specs.List.{All}
use Rattle.slot_keys.specs.Ranks.{IsRanked, rank_key}
use Rattle.slot_keys.proofs.ranking.ranked_keys.Given as goal

abbrev pub invariant-loop-key : goal.invariant-loop-key
invariant-loop-key l = (l.ranked.items ≡ mapped (rank_key l.ranks) (take l.key-index l.keys)) × All (IsRanked l.terms l.ranks) (take l.key-index l.keys)
