use Rattle.std.proofs.Common.{◌≡◌, ◌<◌, ◌≤◌, true, drop, length, refl, ◌∙◌, arith}
use Rattle.sorted_sets.specs.Rising.{has}
use Rattle.sorted_sets.proofs.Bools.{clash}
use Rattle.slot_keys.specs.declared.key.Key.{Key}
use Rattle.slot_keys.specs.Keys.{key_cmp, key_cmp-total}
use Rattle.slot_keys.specs.Marks.{marked}
use Rattle.slot_keys.specs.KeyCounts.{count_beside}
use Rattle.slot_keys.proofs.Placing.{below_next, last_others, next_count, next_gone, next_put}
use Rattle.slot_keys.proofs.Lists.{has_at, never}
use Rattle.slot_keys.proofs.Searching.{beside_none}
use Rattle.slot_keys.proofs.laying.laid_in_one.Goals as goal

pub loop-index-preserved : goal.loop-index-preserved
loop-index-preserved c =
    let old = c.args.sources.old.now in
    let counts = c.args.sources.counts.now in
    let stays = c.args.sources.stays.now in
    let others = c.args.sources.others.now in
    let index = c.loop-index.index in
    let rises = c.requires.rising in
    let long = c.requires.as_many in
    let low : index < length old = omega arith in
    let above = c.in_ok-next.ensures.above (c.requires.apart _ (has_at key_cmp-total old index _ low)) in
    let none : (key : Key) → has key_cmp key others ≡ true → count_beside old counts key ≡ 0 = λ key is. beside_none old counts key (never (has key_cmp key old) (λ e. clash is (c.requires.apart key e))) in
    record {
      bound = c.in_ok-next.ensures.bound;
      keys = next_put old stays rises long index _ low _ _ (drop c.in_ok-next.next others) _ c.put_below.new.self.keys.items c.put_old.new.self.keys.items refl above c.in_ok-put_old.ensures.keys (c.in_ok-next.ensures.keys (marked (drop index old) (drop index stays)) (below_next old stays rises long index _ low) ∙ c.loop-index.invariant.keys);
      counts = next_count old stays rises long index _ low counts c.requires.counted _ _ refl c.put_below.new.self.keys.items c.put_old.new.self.keys.items c.put_below.new.self.counts.items c.put_old.new.self.counts.items c.in_ok-put_old.ensures.keys c.in_ok-put_old.ensures.counts (c.in_ok-next.ensures.counts (count_beside old counts) none c.loop-index.invariant.counts);
      gone = next_gone old stays rises long index _ low _ _ c.put_below.new.self.gone.items c.put_old.new.self.gone.items refl c.in_ok-put_old.ensures.gone (c.in_ok-next.ensures.gone ∙ c.loop-index.invariant.gone);
    }

pub returns-clause-keys : goal.returns-clause-keys
returns-clause-keys c =
    let over : length c.args.sources.old.now ≤ c.loop-index.index = omega arith in
    last_others c.args.sources.old.now c.args.sources.others.now c.args.sources.stays.now c.loop-index.index c.loop-index.next _ _ _ c.requires.rising_others over c.in_ok-put_rest.ensures.keys c.loop-index.invariant.keys

pub returns-clause-counts : goal.returns-clause-counts
returns-clause-counts c =
    let old = c.args.sources.old.now in
    let counts = c.args.sources.counts.now in
    c.in_ok-put_rest.ensures.counts (count_beside old counts) (λ key is. beside_none old counts key (never (has key_cmp key old) (λ e. clash is (c.requires.apart key e)))) c.loop-index.invariant.counts
