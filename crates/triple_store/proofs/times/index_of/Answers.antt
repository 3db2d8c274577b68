-- The key at the index that is found has the texts.
use Rattle.std.proofs.Common.{◌≡◌, true, false, sym, ◌∙◌, ap, subst, true≢false}
use Rattle.std.proofs.lemmas.Option.{IfSome_then, get_or_from_slice_get, slice_get_within}
use Rattle.slot_keys.specs.{declared.key.Key.Key, Keys.key_cmp}
use Rattle.std.specs.Prelude.{Option, Some, None, IfNone}
use Rattle.sorted_sets.specs.Rising.{has}
use Rattle.triple_catalog.specs.Slots.{HasTexts}
use Rattle.triple_catalog.proofs.Standing.{one_of_texts}
use Rattle.triple_store.proofs.times.index_of.Goals as goal

pub returns-clause-within : goal.returns-clause-within
returns-clause-within c = IfSome_then c.index_from.result c.index_from.ensures.found (λ index is. slice_get_within c.args.keys.rising.now index _ is)

pub returns-clause-texts : goal.returns-clause-texts
returns-clause-texts c = IfSome_then c.index_from.result c.index_from.ensures.found (λ index is other.
    subst (λ (key : Key). HasTexts c.args.catalog.now.pool c.args.region.now key c.args.texts.now) (sym (get_or_from_slice_get c.args.keys.rising.now index _ other is)) c.in_ok-key.ensures.texts)

-- where there is no index, no key has the texts, since the key with these texts is one
if_none : {A : Type 0} {P Q : Type 0} (o : Option A) → (P → Q) → IfNone o P → IfNone o Q
if_none None f h = f h
if_none (Some a) f h = tt

pub returns-clause-none : goal.returns-clause-none
returns-clause-none c = if_none c.index_from.result (λ (absent : has key_cmp c.in_ok-key.key c.args.keys.rising.now ≡ false) (key : Key) (is : has key_cmp key c.args.keys.rising.now ≡ true) (its : HasTexts c.args.catalog.now.pool c.args.region.now key c.args.texts.now).
    let same = one_of_texts c.args.catalog.now.pool c.args.region.now c.requires.stored.lies key c.in_ok-key.key c.args.texts.now its c.in_ok-key.ensures.texts in
    true≢false (sym is ∙ ap (λ k. has key_cmp k c.args.keys.rising.now) same ∙ absent)) c.index_from.ensures.none
