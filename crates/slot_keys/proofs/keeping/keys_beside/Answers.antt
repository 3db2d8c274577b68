-- Without counts each key has the count 0.
use Rattle.std.proofs.Common.{◌≡◌, ◌≢◌, ℕ, ◌<◌, ◌++◌, List, [], ◌∷◌, length, ap, refl, sym, ◌∙◌, arith}
use Rattle.std.specs.Prelude.{map as mapped}
use Rattle.std.proofs.lemmas.List.{length-replicate}
use Rattle.sorted_sets.specs.Rising.{sorted}
use Rattle.slot_keys.specs.declared.key.Key.{Key}
use Rattle.slot_keys.specs.Keys.{key_cmp}
use Rattle.slot_keys.specs.KeyCounts.{count_beside, counted_keys}
use Rattle.slot_keys.proofs.Staying.{counted_zeros, none_beside}
use Rattle.slot_keys.proofs.keeping.keys_beside.Goals as goal

no_count : (counts : List ℕ) (n : ℕ) → (0 < length counts → length counts ≡ n) → length counts ≢ n → counts ≡ []
no_count [] n all other = refl
no_count (k ∷ counts) n all other = absurd (other (all (omega arith)))

none_counted : (keys : List Key) → counted_keys keys [] ≡ []
none_counted [] = refl
none_counted (k ∷ keys) = refl

nothing_beside : (keys : List Key) (key : Key) → count_beside keys [] key ≡ 0
nothing_beside [] key = refl
nothing_beside (k ∷ keys) key = refl

same_counts : (keys : List Key) (a b : List ℕ) → ((key : Key) → count_beside keys a key ≡ count_beside keys b key) → (all : List Key) → mapped (count_beside keys a) all ≡ mapped (count_beside keys b) all
same_counts keys a b same [] = refl
same_counts keys a b same (k ∷ all) = let first = same k in let rest = same_counts keys a b same all in cc

pub counted_beside-requires-2-clause-as_many : goal.counted_beside-requires-2-clause-as_many
counted_beside-requires-2-clause-as_many c = ap length (c.as_slice.ensures.value ∙ c.in_ok-none.ensures) ∙ length-replicate _ 0

pub returns-clause-keys : goal.returns-clause-keys
returns-clause-keys c =
    let keys = c.args.left.keys.rising.now in
    let none : c.args.left.counts.now ≡ [] = no_count _ _ c.requires.as_many c.if-left.false in
    c.in_ok-done.ensures.keys
    ∙ ap (λ (stay : List Key). sorted key_cmp (c.args.met.now.keys.items ++ stay))
    (counted_zeros keys _ c.as_slice.result.now (c.as_slice.ensures.value ∙ c.in_ok-none.ensures) ∙ sym (none_counted keys) ∙ ap (counted_keys keys) (sym none))

pub returns-clause-counts : goal.returns-clause-counts
returns-clause-counts c =
    let keys = c.args.left.keys.rising.now in
    let none : c.args.left.counts.now ≡ [] = no_count _ _ c.requires.as_many c.if-left.false in
    c.in_ok-done.ensures.counts
    ∙ same_counts keys _ _ (λ key. none_beside keys _ c.as_slice.result.now (c.as_slice.ensures.value ∙ c.in_ok-none.ensures) key ∙ sym (nothing_beside keys key) ∙ ap (λ ns. count_beside keys ns key) (sym none)) _
