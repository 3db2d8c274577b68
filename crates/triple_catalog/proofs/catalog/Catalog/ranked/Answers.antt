-- In the order of the ranks the triples are in order.
use Rattle.std.proofs.Common.{◌≡◌, subst}
use Rattle.std.specs.Prelude.{IfSome, map as mapped}
use Rattle.std.specs.List.{All}
use Rattle.slot_keys.specs.Ranks.{IsRanked, rank_key}
use Rattle.triple_catalog.proofs.ByRank.{by_ranks, ranks_read, ranks_rise, texts_canonical}
use Rattle.triple_catalog.proofs.catalog.Catalog.ranked.Goals.{After-drop-ranks-2}
use Rattle.triple_catalog.proofs.catalog.Catalog.ranked.Goals as goal

keys_are : (c : After-drop-ranks-2) → c.in-Some.keys.items ≡ mapped (rank_key c.in_ok-ranks.ranks.items) c.args.keys.now
keys_are c = subst (λ found. IfSome found (λ ranked. ranked.items ≡ mapped (rank_key c.in_ok-ranks.ranks.items) c.args.keys.now)) c.in-Some.is (rw (← c.as_slice-3.ensures.value) c.in_ok-keys.ensures.keys)

all_ranked : (c : After-drop-ranks-2) → All (IsRanked c.in_ok-terms.terms.items c.in_ok-ranks.ranks.items) c.args.keys.now
all_ranked c = subst (λ found. IfSome found (λ _. All (IsRanked c.in_ok-terms.terms.items c.in_ok-ranks.ranks.items) c.args.keys.now)) c.in-Some.is (rw (← c.as_slice-2.ensures.value, ← c.as_slice-3.ensures.value) c.in_ok-keys.ensures.ranked)

pub returns-clause-same : goal.returns-clause-same
returns-clause-same c =
    by_ranks c.args.self.now.pool c.args.region.now c.in_ok-terms.terms.items c.in_ok-ranks.ranks.items c.requires.lies c.in_ok-terms.ensures.texts c.in_ok-terms.ensures.sorted
    c.args.keys.now c.in-Some.keys.items c.sort_unstable.new.self.items (keys_are c) (all_ranked c) c.sort_unstable.ensures.permutation

pub returns-clause-sorted : goal.returns-clause-sorted
returns-clause-sorted c =
    ranks_rise c.args.self.now.pool c.args.region.now c.in_ok-terms.terms.items c.in_ok-ranks.ranks.items c.requires.lies c.in_ok-terms.ensures.texts c.in_ok-terms.ensures.sorted
    c.args.keys.now c.in-Some.keys.items c.sort_unstable.new.self.items (keys_are c) (all_ranked c) c.sort_unstable.ensures.permutation c.sort_unstable.ensures.sorted

pub returns-clause-rows : goal.returns-clause-rows
returns-clause-rows c = record {
  canonical = texts_canonical c.args.self.now.pool c.args.region.now c.in_ok-terms.terms.items c.requires.lies c.in_ok-terms.ensures.texts;
  within = ranks_read c.args.self.now.pool c.args.region.now c.in_ok-terms.terms.items c.in_ok-ranks.ranks.items c.requires.lies c.in_ok-terms.ensures.texts c.in_ok-terms.ensures.sorted
      c.args.keys.now c.in-Some.keys.items c.sort_unstable.new.self.items (keys_are c) (all_ranked c) c.sort_unstable.ensures.permutation;
}
