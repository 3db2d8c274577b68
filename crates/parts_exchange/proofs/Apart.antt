-- The parts of two pages of an entity, by what only one of them has.
use Rattle.std.proofs.Common.{◌≡◌, ℕ, ◌<◌, ◌≤◌, Bool, true, false, not, ◌&&◌, ◌||◌, List, filter, sym, refl, ◌∙◌, ap, subst, true≢false}
use Rattle.sorted_sets.specs.Rising.{difference, has, sorted}
use Rattle.sorted_sets.proofs.{Filtering.IsRising-filter, Filtering.has-difference, Filtering.has-filter}
use Rattle.sorted_sets.proofs.Rising.{IsRising-sorted, has-sorted, same_rising}
use Rattle.rdf_term.specs.{declared.triple.Triple.Triple, Order.triple_cmp, Order.triple_cmp-total}
use Rattle.rdf_term.proofs.Texts.{triple_cmp-IsAntisymmetric}
use Rattle.entity_model.specs.declared.id.EntityId.{EntityId}
use Rattle.slot_keys.specs.declared.key.Key.{Key}
use Rattle.triple_catalog.specs.{declared.lines.TripleLines.TripleLines, Lines.AreLinesOf, Room.room_for}
use Rattle.triple_store.specs.{declared.telling.Telling.TheVariants.Change as TheChange, declared.updates.Exchange.Exchange}
use Rattle.triple_store.specs.declared.telling.Told.TheVariants.{Change as ToldChange}
use Rattle.triple_store.specs.StoreState.{AreKeysOf, IsSound, StoreState, counts_in, limit_of}
use Rattle.triple_store.specs.Updates.{AreLeftWithout, AreStored, ComesTo, HasExchanged}
use Rattle.triple_store.proofs.{Exchanged.same_test, Without.comes_without, Without.had, Without.has_then, Without.then_has}
use Rattle.holders.proofs.{Keyed.exchanged_for, Keyed.keys_same, Keyed.keys_tell, Rooming.room_same}
use Rattle.page_parts.specs.{declared.changing.RowChange.RowChange, declared.difference.PageDifference.PageDifference}
use Rattle.page_parts.specs.{Apart.AreApart, Parts.stands_alone, Rows.IsRowChange}
use Rattle.parts_exchange.specs.{declared.exchanging.PartsExchange.PartsExchange, Exchanged.HasExchangedParts, Exchanged.own_part, Exchanged.shared_part}
use Rattle.parts_exchange.proofs.Telling.{change_told}

-- what comes and isn't gone is what is new and wasn't there, of those that pass a test: a triple goes only if it was there and comes only if it is
-- new, it does one of both if it is in one of both, and both or neither if it is in both
only_new : (s o n g c : Bool) → (g ≡ true → o ≡ true) → (c ≡ true → n ≡ true) → (o ≡ true → n ≡ false → g ≡ true) → (n ≡ true → o ≡ false → c ≡ true) → (o ≡ true → n ≡ true → g ≡ c)
    → (not (s && g) && (s && c)) ≡ (not (s && o) && (s && n))
only_new false o n g c gw cw left came stay = refl
only_new true true true true true gw cw left came stay = refl
only_new true true true false false gw cw left came stay = refl
only_new true true true true false gw cw left came stay = absurd (true≢false (stay refl refl))
only_new true true true false true gw cw left came stay = absurd (true≢false (sym (stay refl refl)))
only_new true true false g true gw cw left came stay = absurd (true≢false (sym (cw refl)))
only_new true true false true false gw cw left came stay = refl
only_new true true false false false gw cw left came stay = refl
only_new true false n true c gw cw left came stay = absurd (true≢false (sym (gw refl)))
only_new true false true false true gw cw left came stay = refl
only_new true false true false false gw cw left came stay = absurd (true≢false (sym (came refl refl)))
only_new true false false false true gw cw left came stay = absurd (true≢false (sym (cw refl)))
only_new true false false false false gw cw left came stay = refl

-- and what isn't gone, with what comes, is what is new
all_new : (s o n g c : Bool) → (g ≡ true → o ≡ true) → (c ≡ true → n ≡ true) → (o ≡ true → n ≡ false → g ≡ true) → (n ≡ true → o ≡ false → c ≡ true) → (o ≡ true → n ≡ true → g ≡ c)
    → ((not (not s && g) && (not s && o)) || (not s && c)) ≡ (not s && n)
all_new true o n g c gw cw left came stay = refl
all_new false true true true true gw cw left came stay = refl
all_new false true true false false gw cw left came stay = refl
all_new false true true true false gw cw left came stay = absurd (true≢false (stay refl refl))
all_new false true true false true gw cw left came stay = absurd (true≢false (sym (stay refl refl)))
all_new false o false g true gw cw left came stay = absurd (true≢false (sym (cw refl)))
all_new false true false true false gw cw left came stay = refl
all_new false true false false false gw cw left came stay = absurd (true≢false (sym (left refl refl)))
all_new false false n true c gw cw left came stay = absurd (true≢false (sym (gw refl)))
all_new false false true false true gw cw left came stay = refl
all_new false false true false false gw cw left came stay = absurd (true≢false (sym (came refl refl)))
all_new false false false false false gw cw left came stay = refl

-- differences of lists are the same where each triple is in both or in neither
same_difference : (olds news gone come : List Triple)
    → ((t : Triple) → (not (has triple_cmp t gone) && has triple_cmp t come) ≡ (not (has triple_cmp t olds) && has triple_cmp t news))
    → difference triple_cmp (sorted triple_cmp come) (sorted triple_cmp gone) ≡ difference triple_cmp (sorted triple_cmp news) (sorted triple_cmp olds)
same_difference olds news gone come same =
    same_rising triple_cmp-total triple_cmp-IsAntisymmetric _ _
    (IsRising-filter triple_cmp (λ t. not (has triple_cmp t (sorted triple_cmp gone))) (sorted triple_cmp come) (IsRising-sorted triple_cmp-total come))
    (IsRising-filter triple_cmp (λ t. not (has triple_cmp t (sorted triple_cmp olds))) (sorted triple_cmp news) (IsRising-sorted triple_cmp-total news))
    (λ t. has-difference triple_cmp-total t (sorted triple_cmp come) (sorted triple_cmp gone) ∙ plain t gone come ∙ same t ∙ sym (plain t olds news) ∙ sym (has-difference triple_cmp-total t (sorted triple_cmp news) (sorted triple_cmp olds)))
  where
    plain : (t : Triple) (xs ys : List Triple) → (not (has triple_cmp t (sorted triple_cmp xs)) && has triple_cmp t (sorted triple_cmp ys)) ≡ (not (has triple_cmp t xs) && has triple_cmp t ys)
    plain t xs ys i = not (has-sorted triple_cmp-total t xs i) && has-sorted triple_cmp-total t ys i

module _ (x : EntityId) (is_counted : Bool) (before after : List Triple) (d : PageDifference) (h : AreApart x is_counted before after d) where
  own_has : (t : Triple) (ts : List Triple) → has triple_cmp t (own_part is_counted x ts) ≡ (stands_alone is_counted x t && has triple_cmp t ts)
  own_has t ts = has-filter triple_cmp triple_cmp-IsAntisymmetric (stands_alone is_counted x) t ts

  shared_has : (t : Triple) (ts : List Triple) → has triple_cmp t (shared_part is_counted x ts) ≡ (not (stands_alone is_counted x t) && has triple_cmp t ts)
  shared_has t ts = has-filter triple_cmp triple_cmp-IsAntisymmetric (λ u. not (stands_alone is_counted x u)) t ts

  came_own : (t : Triple) → (not (has triple_cmp t d.gone.own) && has triple_cmp t d.come.own) ≡ (not (has triple_cmp t (own_part is_counted x before)) && has triple_cmp t (own_part is_counted x after))
  came_own t =
      (λ i. not (h.gone_parts.own_are t i) && h.come_parts.own_are t i)
      ∙ only_new (stands_alone is_counted x t) (has triple_cmp t before) (has triple_cmp t after) (has triple_cmp t d.gone.all) (has triple_cmp t d.come.all)
      (h.told.gone_within t) (h.told.come_within t) (h.told.left t) (h.told.came t) (h.told.stayed t)
      ∙ (λ i. not (sym (own_has t before) i) && sym (own_has t after) i)

  gone_own : (t : Triple) → (not (has triple_cmp t d.come.own) && has triple_cmp t d.gone.own) ≡ (not (has triple_cmp t (own_part is_counted x after)) && has triple_cmp t (own_part is_counted x before))
  gone_own t =
      (λ i. not (h.come_parts.own_are t i) && h.gone_parts.own_are t i)
      ∙ only_new (stands_alone is_counted x t) (has triple_cmp t after) (has triple_cmp t before) (has triple_cmp t d.come.all) (has triple_cmp t d.gone.all)
      (h.told.come_within t) (h.told.gone_within t) (h.told.came t) (h.told.left t) (λ is was. sym (h.told.stayed t was is))
      ∙ (λ i. not (sym (own_has t after) i) && sym (own_has t before) i)

  -- what the difference changes of the triples that stand in the page alone is what the page changes of them
  own_change : (change : RowChange) → IsRowChange d.gone.own d.come.own change → IsRowChange (own_part is_counted x before) (own_part is_counted x after) change
  own_change change is = record {
    came = subst (AreLinesOf change.came) (same_difference (own_part is_counted x before) (own_part is_counted x after) d.gone.own d.come.own came_own) is.came;
    gone = subst (AreLinesOf change.gone) (same_difference (own_part is_counted x after) (own_part is_counted x before) d.come.own d.gone.own gone_own) is.gone;
  }

  module _ (old : StoreState) (keys : List Key) (sound : IsSound old) (stored : AreStored old keys) (keyed : AreKeysOf old keys (shared_part is_counted x before))
      (left : List ℕ) (less : AreLeftWithout old keys left d.gone.shared) where
    abbrev was : List Triple
    was = had old.catalog old.texts sound keys stored.rising stored.there d.gone.shared d.come.shared

    abbrev is : List Triple
    is = has_then old.catalog old.texts sound keys stored.rising stored.there d.gone.shared d.come.shared

    comes : ComesTo old keys left d.come.shared was is
    comes = comes_without old.catalog old.texts sound keys stored.rising stored.there d.gone.shared d.come.shared left less

    was_shared : (t : Triple) → has triple_cmp t was ≡ has triple_cmp t (shared_part is_counted x before)
    was_shared t = same_test (has triple_cmp t was) (has triple_cmp t (shared_part is_counted x before)) (keys_tell old keys was (shared_part is_counted x before) comes.keys_of keyed t) (keys_tell old keys (shared_part is_counted x before) was keyed comes.keys_of t)

    -- what is stored then is what is shared of the new page
    is_shared : (t : Triple) → has triple_cmp t is ≡ has triple_cmp t (shared_part is_counted x after)
    is_shared t =
        then_has old.catalog old.texts sound keys stored.rising stored.there d.gone.shared d.come.shared t
        ∙ (λ i. (not (h.gone_parts.shared_are t i) && (was_shared t ∙ shared_has t before) i) || h.come_parts.shared_are t i)
        ∙ all_new (stands_alone is_counted x t) (has triple_cmp t before) (has triple_cmp t after) (has triple_cmp t d.gone.all) (has triple_cmp t d.come.all)
        (h.told.gone_within t) (h.told.come_within t) (h.told.left t) (h.told.came t) (h.told.stayed t)
        ∙ sym (shared_has t after)

    room : room_for (counts_in old) is ≡ room_for (counts_in old) (shared_part is_counted x after)
    room = room_same (counts_in old) is (shared_part is_counted x after) is_shared

    pub apart_full : ((before after : List Triple) → ComesTo old keys left d.come.shared before after → limit_of old < room_for (counts_in old) after) → limit_of old < room_for (counts_in old) (shared_part is_counted x after)
    apart_full full = subst (λ n. limit_of old < n) room (full was is comes)

    pub apart_exchanged : (new : StoreState) (done : Exchange) → ((before after : List Triple) → ComesTo old keys left d.come.shared before after → HasExchanged TheChange old new before after done)
        → (parts : PartsExchange) → parts.keys.rising.items ≡ done.keys.rising.items → done.change ≡ ToldChange parts.change.stored → IsRowChange d.gone.own d.come.own parts.change.own
        → HasExchangedParts old new keys (own_part is_counted x before) (own_part is_counted x after) (shared_part is_counted x after) parts
    apart_exchanged new done moved parts same told own =
        let some = moved was is comes in
        record {
          counts = λ triples are. exchanged_for old new keys was triples is (shared_part is_counted x after) comes.keys_of are is_shared some.counts;
          keys_are = subst (λ (ks : List Key). AreKeysOf new ks (shared_part is_counted x after)) (sym same) (keys_same new done.keys.rising.items is (shared_part is_counted x after) is_shared some.keys);
          told = record { own = own_change parts.change.own own; stored = change_told (counts_in old) (counts_in new) done.change parts.change.stored told some.told };
          within = subst (λ n. n ≤ limit_of old) room some.within;
        }
