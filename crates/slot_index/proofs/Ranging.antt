-- A pattern in which no free place stands before a wanted one is one range, and turning makes one of each.
use Rattle.std.proofs.Common.{◌≡◌, ℕ, ◌+◌, ◌^◌, ◌<◌, ◌≤◌, Bool, true, false, cond, ◌&&◌, List, [], ◌∷◌, Option, Some, None, Ordering, Less, Equal, Greater, is_eq, filter, count_by, unwrap_or, refl, sym, ◌∙◌, ap, arith}
use Rattle.std.specs.Prelude.{map as mapped}
use Rattle.std.specs.List.{All}
use Rattle.std.specs.Cmp.{nat_cmp_total}
use Rattle.std.specs.Ordering.{eq_by_cmp, is_le, nat_cmp, ordering_then}
use Rattle.std.proofs.lemmas.Cmp.{ranked}
use Rattle.std.proofs.lemmas.List.Elements.{All-head, All-tail}
use Rattle.sorted_sets.proofs.Bools.{clash}
use Rattle.sorted_sets.proofs.Rising as rise
use Rattle.block_index.specs.Blocks.{keys_between}
use Rattle.comparison_steps.specs.Steps.{WithinSteps}
use Rattle.slot_keys.specs.declared.key.Key.{Key}
use Rattle.slot_keys.specs.Keys.{FitsSlots, key_cmp, turned}
use Rattle.slot_index.specs.declared.pattern.SlotPattern.{SlotPattern}
use Rattle.slot_index.specs.Orders.{IsTurned}
use Rattle.slot_index.specs.Patterns.{slots_agree, slot_agrees_at, turned_pattern, leads, leads_at, low, high}
use Rattle.slot_index.proofs.Passing.{count-map, count-filter, count-alike}
use Rattle.slot_index.proofs.Turning.{and_turned}

-- a wanted place, before others and at the end
wanted : (w a : ℕ) (r s : Ordering) → (is_le (ordering_then (nat_cmp w a) r) && is_le (ordering_then (nat_cmp a w) s)) ≡ (eq_by_cmp nat_cmp w a && (is_le r && is_le s))
wanted w a r s =
    elim (nat_cmp w a) as (λ o. nat_cmp w a ≡ o → (is_le (ordering_then o r) && is_le (ordering_then (nat_cmp a w) s)) ≡ (is_eq o && (is_le r && is_le s))) [
      | Less ↦ λ e. ap (λ t. is_le (ordering_then t s)) (rise.turned nat_cmp_total w a Less e)
      | Equal ↦ λ e. ap (λ t. is_le r && is_le (ordering_then t s)) (rise.turned nat_cmp_total w a Equal e)
      | Greater ↦ λ e. refl
    ] refl

wanted_last : (w a : ℕ) → (is_le (nat_cmp w a) && is_le (nat_cmp a w)) ≡ eq_by_cmp nat_cmp w a
wanted_last w a =
    elim (nat_cmp w a) as (λ o. nat_cmp w a ≡ o → (is_le o && is_le (nat_cmp a w)) ≡ is_eq o) [
      | Less ↦ λ e. ap is_le (rise.turned nat_cmp_total w a Less e)
      | Equal ↦ λ e. ap is_le (rise.turned nat_cmp_total w a Equal e)
      | Greater ↦ λ e. refl
    ] refl

-- a free place
up_to : (x y : ℕ) (r : Ordering) → x ≤ y → is_le r ≡ true → is_le (ordering_then (nat_cmp x y) r) ≡ true
up_to x y r l h =
    elim (nat_cmp x y) as (λ o. nat_cmp x y ≡ o → is_le (ordering_then o r) ≡ true) [
      | Less ↦ λ _. refl
      | Equal ↦ λ _. h
      | Greater ↦ λ e. let above : y < x = ranked x y Greater (sym e) in absurd (omega arith)
    ] refl

up_last : (x y : ℕ) → x ≤ y → is_le (nat_cmp x y) ≡ true
up_last x y l =
    elim (nat_cmp x y) as (λ o. nat_cmp x y ≡ o → is_le o ≡ true) [
      | Less ↦ λ _. refl
      | Equal ↦ λ _. refl
      | Greater ↦ λ e. let above : y < x = ranked x y Greater (sym e) in absurd (omega arith)
    ] refl

both : (a b : Bool) → a ≡ true → b ≡ true → (a && b) ≡ true
both a b p q = ap (λ t. t && b) p ∙ q

free_one : (z : ℕ) → z < 2 ^ 32 → (is_le (nat_cmp 0 z) && is_le (nat_cmp z 4294967295)) ≡ true
free_one z l = both _ _ (up_last 0 z (omega arith)) (up_last z 4294967295 (omega arith))

free_two : (y z : ℕ) → y < 2 ^ 32 → z < 2 ^ 32 → (is_le (ordering_then (nat_cmp 0 y) (nat_cmp 0 z)) && is_le (ordering_then (nat_cmp y 4294967295) (nat_cmp z 4294967295))) ≡ true
free_two y z ly lz = both _ _ (up_to 0 y _ (omega arith) (up_last 0 z (omega arith))) (up_to y 4294967295 _ (omega arith) (up_last z 4294967295 (omega arith)))

free_three : (x y z : ℕ) → x < 2 ^ 32 → y < 2 ^ 32 → z < 2 ^ 32 → (is_le (ordering_then (nat_cmp 0 x) (ordering_then (nat_cmp 0 y) (nat_cmp 0 z))) && is_le (ordering_then (nat_cmp x 4294967295) (ordering_then (nat_cmp y 4294967295) (nat_cmp z 4294967295)))) ≡ true
free_three x y z lx ly lz =
    both _ _ (up_to 0 x _ (omega arith) (up_to 0 y _ (omega arith) (up_last 0 z (omega arith))))
    (up_to x 4294967295 _ (omega arith) (up_to y 4294967295 _ (omega arith) (up_last z 4294967295 (omega arith))))

between_at : (a b c : Option ℕ) (x y z : ℕ) → x < 2 ^ 32 → y < 2 ^ 32 → z < 2 ^ 32 → leads_at a b c ≡ true →
    (is_le (ordering_then (nat_cmp (unwrap_or a 0) x) (ordering_then (nat_cmp (unwrap_or b 0) y) (nat_cmp (unwrap_or c 0) z)))
    && is_le (ordering_then (nat_cmp x (unwrap_or a 4294967295)) (ordering_then (nat_cmp y (unwrap_or b 4294967295)) (nat_cmp z (unwrap_or c 4294967295)))))
    ≡ (slot_agrees_at a x && (slot_agrees_at b y && slot_agrees_at c z))
between_at None None None x y z lx ly lz h = free_three x y z lx ly lz
between_at None None (Some o) x y z lx ly lz h = clash h refl
between_at None (Some p) c x y z lx ly lz h = clash h refl
between_at (Some s) None None x y z lx ly lz h = wanted s x _ _ ∙ ap (λ t. eq_by_cmp nat_cmp s x && t) (free_two y z ly lz)
between_at (Some s) None (Some o) x y z lx ly lz h = clash h refl
between_at (Some s) (Some p) None x y z lx ly lz h = wanted s x _ _ ∙ ap (λ t. eq_by_cmp nat_cmp s x && t) (wanted p y _ _ ∙ ap (λ t. eq_by_cmp nat_cmp p y && t) (free_one z lz))
between_at (Some s) (Some p) (Some o) x y z lx ly lz h = wanted s x _ _ ∙ ap (λ t. eq_by_cmp nat_cmp s x && t) (wanted p y _ _ ∙ ap (λ t. eq_by_cmp nat_cmp p y && t) (wanted_last o z))

-- between the least and the greatest triple that agree lie exactly those that do
between : (p : SlotPattern) (k : Key) → FitsSlots k → leads p ≡ true → (is_le (key_cmp (low p) k) && is_le (key_cmp k (high p))) ≡ slots_agree p k
between p k f h = between_at p.first p.second p.third k.first k.second k.third f.0 f.1 f.2 h

pub one_range : (p : SlotPattern) (keys : List Key) → leads p ≡ true → All FitsSlots keys → keys_between key_cmp (low p) (high p) keys ≡ filter (slots_agree p) keys
one_range p [] h f = refl
one_range p (k ∷ keys) h f =
    ap (λ b. cond b (k ∷ keys_between key_cmp (low p) (high p) keys) (keys_between key_cmp (low p) (high p) keys)) (between p k (All-head FitsSlots k keys f) h)
    ∙ ap (λ l. cond (slots_agree p k) (k ∷ l) l) (one_range p keys h (All-tail FitsSlots k keys f))

third_at : (a b c : Option ℕ) → leads_at a b c ≡ false → leads_at b c a ≡ false → leads_at c a b ≡ true
third_at None None None h g = clash refl h
third_at None None (Some z) h g = refl
third_at None (Some y) None h g = clash refl g
third_at None (Some y) (Some z) h g = clash refl g
third_at (Some x) None None h g = clash refl h
third_at (Some x) None (Some z) h g = refl
third_at (Some x) (Some y) None h g = clash refl h
third_at (Some x) (Some y) (Some z) h g = clash refl h

-- one of the three turns of a pattern leads
pub third_leads : (p : SlotPattern) → leads p ≡ false → leads (turned_pattern p) ≡ false → leads (turned_pattern (turned_pattern p)) ≡ true
third_leads p h g = third_at p.first p.second p.third h g

agrees_turned : (p : SlotPattern) (k : Key) → slots_agree (turned_pattern p) (turned k) ≡ slots_agree p k
agrees_turned p k = and_turned (slot_agrees_at p.first k.first) (slot_agrees_at p.second k.second) (slot_agrees_at p.third k.third)

pub by_first : (p : SlotPattern) (xs found : List Key) (q : Key → Bool) → found ≡ filter (slots_agree p) xs → count_by q found ≡ count_by (λ k. slots_agree p k && q k) xs
by_first p xs found q e = ap (count_by q) e ∙ count-filter (slots_agree p) q xs

pub by_second : (p : SlotPattern) (xs ys found : List Key) (q : Key → Bool) → IsTurned xs ys → found ≡ filter (slots_agree (turned_pattern p)) ys → count_by q (mapped turned (mapped turned found)) ≡ count_by (λ k. slots_agree p k && q k) xs
by_second p xs ys found q t e =
    count-map turned q (mapped turned found)
    ∙ count-map turned (λ k. q (turned k)) found
    ∙ by_first (turned_pattern p) ys found (λ k. q (turned (turned k))) e
    ∙ t.alike (λ k. slots_agree (turned_pattern p) k && q (turned (turned k)))
    ∙ count-alike (λ k. slots_agree (turned_pattern p) (turned k) && q k) (λ k. slots_agree p k && q k) xs (λ k. ap (λ b. b && q k) (agrees_turned p k))

-- how many agree, counted among the turned triples and among those turned twice
pub count_second : (p : SlotPattern) (xs ys : List Key) → IsTurned xs ys → count_by (slots_agree (turned_pattern p)) ys ≡ count_by (slots_agree p) xs
count_second p xs ys t = t.alike (slots_agree (turned_pattern p)) ∙ count-alike (λ k. slots_agree (turned_pattern p) (turned k)) (slots_agree p) xs (agrees_turned p)

pub count_third : (p : SlotPattern) (xs ys zs : List Key) → IsTurned xs ys → IsTurned ys zs → count_by (slots_agree (turned_pattern (turned_pattern p))) zs ≡ count_by (slots_agree p) xs
count_third p xs ys zs t u = count_second (turned_pattern p) ys zs u ∙ count_second p xs ys t

pub by_third : (p : SlotPattern) (xs ys zs found : List Key) (q : Key → Bool) → IsTurned xs ys → IsTurned ys zs → found ≡ filter (slots_agree (turned_pattern (turned_pattern p))) zs → count_by q (mapped turned found) ≡ count_by (λ k. slots_agree p k && q k) xs
by_third p xs ys zs found q t u e =
    count-map turned q found
    ∙ by_first (turned_pattern (turned_pattern p)) zs found (λ k. q (turned k)) e
    ∙ u.alike (λ k. slots_agree (turned_pattern (turned_pattern p)) k && q (turned k))
    ∙ t.alike (λ k. slots_agree (turned_pattern (turned_pattern p)) (turned k) && q (turned (turned k)))
    ∙ count-alike (λ k. slots_agree (turned_pattern (turned_pattern p)) (turned (turned k)) && q k) (λ k. slots_agree p k && q k) xs
    (λ k. ap (λ b. b && q k) (agrees_turned (turned_pattern p) (turned k) ∙ agrees_turned p k))

-- a bound on steps, for as many triples of which as many agree
pub same_steps : (n m some these before after : ℕ) → n ≡ m → some ≡ these → WithinSteps n (9 + some) before after → WithinSteps m (9 + these) before after
same_steps n m some these before after e f cost = (cost.0, λ d below. let most = cost.1 d (omega arith) in omega arith)
