-- What is left stays, and what comes is taken in beside it. Where memory or room is refused, what came is taken back.
use Rattle.std.proofs.Common.{◌≡◌, ◌+◌, ◌≤◌, ◌<◌, ◌++◌, List, length, take, ap, refl, subst, sym, ◌∙◌, arith}
use Rattle.std.proofs.{Math.Seq.take-length, lemmas.List.length-append, lemmas.List.length-map}
use Rattle.sorted_sets.specs.Rising.{difference, has}
use Rattle.sorted_sets.proofs.Rising.{IsRising-sorted}
use Rattle.text_region.specs.Region.{Texts}
use Rattle.slot_keys.specs.{declared.key.Key.Key, KeyCounts.MovesKeys, KeyCounts.count_beside, KeyCounts.counted_keys}
use Rattle.slot_keys.specs.Keys.{key_cmp, key_cmp-total}
use Rattle.slot_keys.proofs.Staying.{moves_beside}
use Rattle.triple_catalog.specs.{declared.catalog.Catalog.Catalog, Moves.Removes}
use Rattle.triple_catalog.proofs.Rooming.{same_fault}
use Rattle.triple_store.proofs.{Afterwards.exchange_done, Afterwards.exchange_full, Afterwards.rest_after, Afterwards.taken, Costs.counted}
use Rattle.triple_store.proofs.Exchanged.{had_there, keys_there, undone_counts}
use Rattle.triple_store.proofs.Multitude.{cost_for_none, cost_told, cost_undone, stays_few}
use Rattle.triple_store.proofs.{Stocked.length-sorted, Afterwards.whole_taken}
use Rattle.triple_store.proofs.store.Store.exchange.Goals as goal

-- where nothing is left and nothing comes
pub returns-then-is_nothing-clause-exchanged : goal.returns-then-is_nothing-clause-exchanged
returns-then-is_nothing-clause-exchanged g c =
    let nothing = c.is_nothing.ensures.none c.if-is_nothing.true in
    rw (nothing.0, nothing.1) c.exchange_for_none.ensures.exchanged

pub returns-then-is_nothing-clause-cost : goal.returns-then-is_nothing-clause-cost
returns-then-is_nothing-clause-cost g c before after comes = cost_for_none c.args.telling _ _ (length c.args.left.keys.rising.now) (length after) _ _ c.exchange_for_none.ensures.cost

-- where not all came
pub undo-requires-clause-rising : goal.undo-requires-clause-rising
undo-requires-clause-rising g c = rw c.all_in_order-these.ensures (IsRising-sorted key_cmp-total c.take_in-taken.new.met.keys.items)

pub undo-requires-clause-there : goal.undo-requires-clause-there
undo-requires-clause-there g c =
    let stored = rw (← c.self.view_is) at c.requires.stored in
    rw c.all_in_order-these.ensures (keys_there _ _ _ _ c.args.left.keys.rising.now _ _ c.self.invariant stored.there c.take_in-taken.ensures.takes)

pub returns-in-Err-clause-exchanged : goal.returns-in-Err-clause-exchanged
returns-in-Err-clause-exchanged g c =
    let had = c.args.left.keys.rising.now in
    let stored = rw (← c.self.view_is) at c.requires.stored in
    rw (← c.self.view_is) (record {
      done = tt;
      err = undone_counts _ _ _ _ had _ _ c.self.invariant stored.there c.take_in-taken.ensures.takes _ _ (rw c.all_in_order-these.ensures at c.undo.ensures.removes);
      full = λ e. exchange_full _ _ had c.args.left.counts.now c.args.new.now c.self.invariant stored.there c.requires.as_many (c.in-Err.ensures.full (same_fault c.in-Err.fault e));
      free = λ quiet none nothing. absurd (c.is_nothing.ensures.some c.if-is_nothing.false none nothing);
    })

pub returns-in-Err-clause-rest : goal.returns-in-Err-clause-rest
returns-in-Err-clause-rest g c =
    let stored = rw (← c.self.view_is) at c.requires.stored in
    rw (← c.self.view_is) (rest_after _ _ _ _ c.args.left.keys.rising.now _ _ c.self.invariant stored.there c.take_in-taken.ensures.takes _ _ _ c.undo.ensures.removes)

pub returns-in-Err-clause-cost : goal.returns-in-Err-clause-cost
returns-in-Err-clause-cost g c before after comes =
    let had = c.args.left.keys.rising.now in
    let stored = rw (← c.self.view_is) at c.requires.stored in
    let few = stays_few _ _ c.self.invariant had c.args.left.counts.now c.args.new.now before after stored.there (rw (← c.self.view_is) at comes) in
    let less = length-sorted key_cmp c.take_in-taken.new.met.keys.items in
    rw (← c.self.view_is) (counted _ _ _ _ _ _ _ _ c.self.invariant c.undo.ensures.removes.stored
    (cost_undone c.args.telling _ _ _ (length c.args.new.now) _ (length had) (length after) (length c.all_in_order-these.result.rising.items) _ _ _ few
    (omega (arith, less, c.take_in-taken.ensures.few, ap length c.all_in_order-these.ensures)) c.take_in-taken.ensures.cost c.undo.ensures.cost))

-- where the keys can't be put in order
pub undo-requires-in_default-keys_beside-clause-rising : goal.undo-requires-in_default-keys_beside-clause-rising
undo-requires-in_default-keys_beside-clause-rising g c = rw c.all_in_order-these-in_default-keys_beside.ensures (IsRising-sorted key_cmp-total c.take_in-taken.new.met.keys.items)

pub undo-requires-in_default-keys_beside-clause-there : goal.undo-requires-in_default-keys_beside-clause-there
undo-requires-in_default-keys_beside-clause-there g c =
    let stored = rw (← c.self.view_is) at c.requires.stored in
    rw c.all_in_order-these-in_default-keys_beside.ensures (keys_there _ _ _ _ c.args.left.keys.rising.now _ _ c.self.invariant stored.there c.take_in-taken.ensures.takes)

pub returns-in_default-keys_beside-clause-exchanged : goal.returns-in_default-keys_beside-clause-exchanged
returns-in_default-keys_beside-clause-exchanged g c =
    let had = c.args.left.keys.rising.now in
    let stored = rw (← c.self.view_is) at c.requires.stored in
    rw (← c.self.view_is) (record {
      done = tt;
      err = undone_counts _ _ _ _ had _ _ c.self.invariant stored.there c.take_in-taken.ensures.takes _ _ (rw c.all_in_order-these-in_default-keys_beside.ensures at c.undo-in_default-keys_beside.ensures.removes);
      full = λ e. absurd cc;
      free = λ quiet none nothing. absurd (c.is_nothing.ensures.some c.if-is_nothing.false none nothing);
    })

pub returns-in_default-keys_beside-clause-rest : goal.returns-in_default-keys_beside-clause-rest
returns-in_default-keys_beside-clause-rest g c =
    let stored = rw (← c.self.view_is) at c.requires.stored in
    rw (← c.self.view_is) (rest_after _ _ _ _ c.args.left.keys.rising.now _ _ c.self.invariant stored.there c.take_in-taken.ensures.takes _ _ _ c.undo-in_default-keys_beside.ensures.removes)

pub returns-in_default-keys_beside-clause-cost : goal.returns-in_default-keys_beside-clause-cost
returns-in_default-keys_beside-clause-cost g c before after comes =
    let had = c.args.left.keys.rising.now in
    let stored = rw (← c.self.view_is) at c.requires.stored in
    let few = stays_few _ _ c.self.invariant had c.args.left.counts.now c.args.new.now before after stored.there (rw (← c.self.view_is) at comes) in
    let less = length-sorted key_cmp c.take_in-taken.new.met.keys.items in
    rw (← c.self.view_is) (counted _ _ _ _ _ _ _ _ c.self.invariant c.undo-in_default-keys_beside.ensures.removes.stored
    (cost_undone c.args.telling _ _ _ (length c.args.new.now) _ (length had) (length after) (length c.all_in_order-these-in_default-keys_beside.result.rising.items) _ _ _ few
    (omega (arith, less, c.take_in-taken.ensures.few, ap length c.all_in_order-these-in_default-keys_beside.ensures)) c.take_in-taken.ensures.cost c.undo-in_default-keys_beside.ensures.cost))

-- what is told
pub change_if-requires-clause-rising_new : goal.change_if-requires-clause-rising_new
change_if-requires-clause-rising_new g c = rw (c.slices.ensures, c.in-Ok-keys_beside.ensures.keys) (IsRising-sorted key_cmp-total (c.take_in-taken.new.met.keys.items ++ counted_keys c.args.left.keys.rising.now c.args.left.counts.now))

pub change_if-requires-clause-there : goal.change_if-requires-clause-there
change_if-requires-clause-there g c =
    let stored = rw (← c.self.view_is) at c.requires.stored in
    had_there _ _ _ _ c.args.left.keys.rising.now _ _ c.self.invariant stored.there c.take_in-taken.ensures.takes

pub change_if-requires-clause-there_new : goal.change_if-requires-clause-there_new
change_if-requires-clause-there_new g c =
    let had = c.args.left.keys.rising.now in
    let stored = rw (← c.self.view_is) at c.requires.stored in
    let came = whole_taken _ _ _ _ had c.take_in-taken.new.met.keys.items c.args.new.now _ c.in_default-taken.ensures.whole c.take_in-taken.ensures.takes in
    let all = taken _ _ had c.args.left.counts.now c.args.new.now c.self.invariant stored.there c.requires.as_many _ _ _ came in
    rw (c.slices.ensures, c.in-Ok-keys_beside.ensures.keys) (keys_there _ _ _ _ had _ _ c.self.invariant stored.there all)

-- where it can't be told
pub undo-requires-in_default-change_if-clause-rising : goal.undo-requires-in_default-change_if-clause-rising
undo-requires-in_default-change_if-clause-rising g c = rw c.in-Ok-keys_beside.ensures.keys (IsRising-sorted key_cmp-total (c.take_in-taken.new.met.keys.items ++ counted_keys c.args.left.keys.rising.now c.args.left.counts.now))

pub undo-requires-in_default-change_if-clause-there : goal.undo-requires-in_default-change_if-clause-there
undo-requires-in_default-change_if-clause-there g c =
    let had = c.args.left.keys.rising.now in
    let stored = rw (← c.self.view_is) at c.requires.stored in
    let came = whole_taken _ _ _ _ had c.take_in-taken.new.met.keys.items c.args.new.now _ c.in_default-taken.ensures.whole c.take_in-taken.ensures.takes in
    let all = taken _ _ had c.args.left.counts.now c.args.new.now c.self.invariant stored.there c.requires.as_many _ _ _ came in
    rw c.in-Ok-keys_beside.ensures.keys (keys_there _ _ _ _ had _ _ c.self.invariant stored.there all)

pub returns-in_default-change_if-clause-exchanged : goal.returns-in_default-change_if-clause-exchanged
returns-in_default-change_if-clause-exchanged g c =
    let had = c.args.left.keys.rising.now in
    let stored = rw (← c.self.view_is) at c.requires.stored in
    let came = whole_taken _ _ _ _ had c.take_in-taken.new.met.keys.items c.args.new.now _ c.in_default-taken.ensures.whole c.take_in-taken.ensures.takes in
    let all = taken _ _ had c.args.left.counts.now c.args.new.now c.self.invariant stored.there c.requires.as_many _ _ _ came in
    rw (← c.self.view_is) (record {
      done = tt;
      err = undone_counts _ _ _ _ had _ _ c.self.invariant stored.there all _ _ (rw c.in-Ok-keys_beside.ensures.keys at c.undo-in_default-change_if.ensures.removes);
      full = λ e. absurd cc;
      free = λ quiet none nothing. absurd (c.is_nothing.ensures.some c.if-is_nothing.false none nothing);
    })

pub returns-in_default-change_if-clause-rest : goal.returns-in_default-change_if-clause-rest
returns-in_default-change_if-clause-rest g c =
    let stored = rw (← c.self.view_is) at c.requires.stored in
    rw (← c.self.view_is) (rest_after _ _ _ _ c.args.left.keys.rising.now _ _ c.self.invariant stored.there c.take_in-taken.ensures.takes _ _ _ c.undo-in_default-change_if.ensures.removes)

pub returns-in_default-change_if-clause-cost : goal.returns-in_default-change_if-clause-cost
returns-in_default-change_if-clause-cost g c before after comes =
    let had = c.args.left.keys.rising.now in
    let stays = counted_keys had c.args.left.counts.now in
    let met = c.take_in-taken.new.met.keys.items in
    let stored = rw (← c.self.view_is) at c.requires.stored in
    let few = stays_few _ _ c.self.invariant had c.args.left.counts.now c.args.new.now before after stored.there (rw (← c.self.view_is) at comes) in
    let these : length c.slices.result.rising.now ≤ length c.args.new.now + length stays = omega (arith, length-sorted key_cmp (met ++ stays), c.take_in-taken.ensures.few, ap length c.slices.ensures, ap length c.in-Ok-keys_beside.ensures.keys, length-append met stays) in
    rw (← c.self.view_is) (counted _ _ _ _ _ _ _ _ c.self.invariant c.undo-in_default-change_if.ensures.removes.stored
    (cost_told c.args.telling _ _ _ (length c.args.new.now) (length stays) (length had) (length after) (length c.slices.result.rising.now) (length c.in-Ok-keys_beside.laid.keys.rising.items) _ _ _ _ few these
    (omega (arith, few, these, ap length c.slices.ensures)) c.take_in-taken.ensures.cost c.change_if.ensures.cost c.undo-in_default-change_if.ensures.cost))

-- what the owner has from now on
went : (now : Catalog) (s : Texts) (new : Catalog) (u : Texts) (had gone keys slice these all : List Key) → these ≡ keys → slice ≡ gone → difference key_cmp gone keys ≡ difference key_cmp had keys → keys ≡ all → Removes now s new u (difference key_cmp slice these) → Removes now s new u (difference key_cmp had all)
went now s new u had gone keys slice these all these_are slice_is same keys_are less =
    subst (Removes now s new u) (ap (difference key_cmp slice) these_are ∙ (ap (λ (ks : List Key). difference key_cmp ks keys) slice_is ∙ (same ∙ ap (difference key_cmp had) keys_are))) less

pub remove_beside-requires-clause-others : goal.remove_beside-requires-clause-others
remove_beside-requires-clause-others g c = rw (c.slices.ensures, c.in-Ok-keys_beside.ensures.keys) (IsRising-sorted key_cmp-total (c.take_in-taken.new.met.keys.items ++ counted_keys c.args.left.keys.rising.now c.args.left.counts.now))

pub remove_beside-requires-clause-there : goal.remove_beside-requires-clause-there
remove_beside-requires-clause-there g c key is =
    let stored = rw (← c.self.view_is) at c.requires.stored in
    had_there _ _ _ _ c.args.left.keys.rising.now _ _ c.self.invariant stored.there c.take_in-taken.ensures.takes key (c.in-Ok-keys_beside.ensures.had key (sym (ap (has key_cmp key) c.as_slice.ensures.value) ∙ is))

pub remove_beside-requires-clause-rising : goal.remove_beside-requires-clause-rising
remove_beside-requires-clause-rising g c = rw c.as_slice.ensures.value c.in-Ok-keys_beside.ensures.rising

pub timed-requires-clause-rising : goal.timed-requires-clause-rising
timed-requires-clause-rising g c = rw c.in-Ok-keys_beside.ensures.keys (IsRising-sorted key_cmp-total (c.take_in-taken.new.met.keys.items ++ counted_keys c.args.left.keys.rising.now c.args.left.counts.now))

pub timed-requires-clause-as_many : goal.timed-requires-clause-as_many
timed-requires-clause-as_many g c = ap length c.in-Ok-keys_beside.ensures.counts ∙ length-map c.in-Ok-keys_beside.laid.keys.rising.items (count_beside c.args.left.keys.rising.now c.args.left.counts.now)

pub returns-clause-exchanged : goal.returns-clause-exchanged
returns-clause-exchanged g c =
    let had = c.args.left.keys.rising.now in
    let left = c.args.left.counts.now in
    let met = c.take_in-taken.new.met.keys.items in
    let stored = rw (← c.self.view_is) at c.requires.stored in
    let came = whole_taken _ _ _ _ had met c.args.new.now _ c.in_default-taken.ensures.whole c.take_in-taken.ensures.takes in
    let removes = went _ _ _ _ had _ _ _ _ _ c.slices.ensures c.as_slice.ensures.value c.in-Ok-keys_beside.ensures.gone c.in-Ok-keys_beside.ensures.keys c.remove_beside.ensures.removes in
    let moves : 0 < length c.timed.result.times.items → MovesKeys had left c.timed.result.keys.rising.items c.timed.result.times.items met = λ some.
    rw c.timed.ensures.keys (moves_beside had left _ _ _ _ c.in-Ok-keys_beside.ensures.counts (c.timed.ensures.times some)) in
    rw (← c.self.view_is) (record {
      done = exchange_done _ _ had left c.args.new.now c.self.invariant stored.there c.requires.as_many _ _ met came _ _ removes c.args.telling c.timed.result
          (rw c.timed.ensures.keys c.in-Ok-keys_beside.ensures.keys)
          (rw c.timed.ensures.change (rw (c.slices.ensures, c.in-Ok-keys_beside.ensures.keys) at c.in-Ok-change_if.ensures.lines))
          moves
          (c.take_in-taken.ensures.along ∙ ap (λ n. take n c.args.new.now) c.in_default-taken.ensures.whole ∙ take-length c.args.new.now);
      err = tt;
      full = λ e. absurd cc;
      free = λ quiet none nothing. refl;
    })

pub returns-clause-rest : goal.returns-clause-rest
returns-clause-rest g c =
    let stored = rw (← c.self.view_is) at c.requires.stored in
    rw (← c.self.view_is) (rest_after _ _ _ _ c.args.left.keys.rising.now _ _ c.self.invariant stored.there c.take_in-taken.ensures.takes _ _ _ c.remove_beside.ensures.removes)

pub returns-clause-cost : goal.returns-clause-cost
returns-clause-cost g c before after comes =
    let had = c.args.left.keys.rising.now in
    let stays = counted_keys had c.args.left.counts.now in
    let met = c.take_in-taken.new.met.keys.items in
    let stored = rw (← c.self.view_is) at c.requires.stored in
    let few = stays_few _ _ c.self.invariant had c.args.left.counts.now c.args.new.now before after stored.there (rw (← c.self.view_is) at comes) in
    let these : length c.slices.result.rising.now ≤ length c.args.new.now + length stays = omega (arith, length-sorted key_cmp (met ++ stays), c.take_in-taken.ensures.few, ap length c.slices.ensures, ap length c.in-Ok-keys_beside.ensures.keys, length-append met stays) in
    rw (← c.self.view_is) (counted _ _ _ _ _ _ _ _ c.self.invariant c.remove_beside.ensures.removes.stored
    (cost_told c.args.telling _ _ _ (length c.args.new.now) (length stays) (length had) (length after) (length c.slices.result.rising.now) (length c.as_slice.result.now) _ _ _ _ few these
    (omega (arith, ap length c.as_slice.ensures.value, c.in-Ok-keys_beside.ensures.few)) c.take_in-taken.ensures.cost c.change_if.ensures.cost c.remove_beside.ensures.cost))
