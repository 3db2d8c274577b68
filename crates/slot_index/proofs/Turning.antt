-- A triple that comes or goes in each of the three orders leaves them the same set.
use Rattle.std.proofs.Common.{◌≡◌, ℕ, ◌+◌, Bool, true, false, ◌&&◌, List, length, Ordering, Less, Equal, Greater, is_eq, count_by, nat_lt, refl, sym, ◌∙◌, ap, subst, arith, ⊎_elim}
use Rattle.std.specs.Ordering.{nat_cmp, ordering_then}
use Rattle.std.specs.BTreeSet.{insert_key}
use Rattle.std.specs.Set.{remove_key}
use Rattle.std.proofs.lemmas.Bool.{cases_Bool}
use Rattle.std.proofs.lemmas.Map.Views.{All-insert_key, All-remove_key}
use Rattle.sorted_sets.specs.Rising.{has}
use Rattle.sorted_sets.proofs.Rising.{IsRising-insert_key}
use Rattle.block_index.proofs.Removed.{IsRising-remove_key, remove_key-absent}
use Rattle.slot_keys.specs.declared.key.Key.{Key}
use Rattle.slot_keys.specs.Keys.{FitsSlots, key_cmp, key_cmp-total, key_cmp-IsAntisymmetric, same_key, turned}
use Rattle.slot_index.specs.Orders.{IsTurned, IsOrders}
use Rattle.slot_index.proofs.Passing.{one_if, count-insert_key, count-remove_key, count-alike, has_counted, length_counted, remove-insert_key}

by_places : (a b c : Ordering) → is_eq (ordering_then a (ordering_then b c)) ≡ (is_eq a && (is_eq b && is_eq c))
by_places Less b c = refl
by_places Equal Less c = refl
by_places Equal Equal c = refl
by_places Equal Greater c = refl
by_places Greater b c = refl

pub and_turned : (a b c : Bool) → (b && (c && a)) ≡ (a && (b && c))
and_turned true true true = refl
and_turned true true false = refl
and_turned true false c = refl
and_turned false true true = refl
and_turned false true false = refl
and_turned false false c = refl

same_turned : (k x : Key) → same_key (turned k) (turned x) ≡ same_key k x
same_turned k x =
    by_places (nat_cmp k.second x.second) (nat_cmp k.third x.third) (nat_cmp k.first x.first)
    ∙ and_turned (is_eq (nat_cmp k.first x.first)) (is_eq (nat_cmp k.second x.second)) (is_eq (nat_cmp k.third x.third))
    ∙ sym (by_places (nat_cmp k.first x.first) (nat_cmp k.second x.second) (nat_cmp k.third x.third))

pub has-turned : (xs ys : List Key) → IsTurned xs ys → (k : Key) → has key_cmp (turned k) ys ≡ has key_cmp k xs
has-turned xs ys t k =
    has_counted key_cmp (turned k) ys
    ∙ ap (nat_lt 0) (t.alike (same_key (turned k)) ∙ count-alike (λ x. same_key (turned k) (turned x)) (same_key k) xs (λ x. same_turned k x))
    ∙ sym (has_counted key_cmp k xs)

pub length-turned : (xs ys : List Key) → IsTurned xs ys → length ys ≡ length xs
length-turned xs ys t = length_counted ys ∙ t.alike (λ _. true) ∙ sym (length_counted xs)

IsTurned-insert_key : (xs ys : List Key) (k : Key) → IsTurned xs ys → has key_cmp k xs ≡ false → IsTurned (insert_key key_cmp xs k) (insert_key key_cmp ys (turned k))
IsTurned-insert_key xs ys k t h = record {
  alike = λ p.
      count-insert_key key_cmp p (turned k) ys (has-turned xs ys t k ∙ h)
      ∙ ap (λ n. one_if (p (turned k)) + n) (t.alike p)
      ∙ sym (count-insert_key key_cmp (λ x. p (turned x)) k xs h);
}

same_sum : (a b c d : ℕ) → a + b ≡ c → a + d ≡ c → b ≡ d
same_sum a b c d e f = omega arith

IsTurned-remove_key : (xs ys : List Key) (k : Key) → IsTurned xs ys → IsTurned (remove_key (same_key k) xs) (remove_key (same_key (turned k)) ys)
IsTurned-remove_key xs ys k t = ⊎_elim
    (λ there. record {
      alike = λ p. same_sum (one_if (p (turned k))) _ (count_by p ys) _
          (count-remove_key key_cmp key_cmp-IsAntisymmetric p (turned k) ys (has-turned xs ys t k ∙ there))
          (count-remove_key key_cmp key_cmp-IsAntisymmetric (λ x. p (turned x)) k xs there ∙ sym (t.alike p));
    })
    (λ absent.
    let left = remove_key-absent key_cmp k xs absent in
    let right = remove_key-absent key_cmp (turned k) ys (has-turned xs ys t k ∙ absent) in
    record { alike = λ p. ap (count_by p) right ∙ t.alike p ∙ ap (count_by (λ x. p (turned x))) (sym left) })
    (cases_Bool (has key_cmp k xs))

pub IsOrders-insert : (xs ys zs : List Key) (k : Key) → IsOrders xs ys zs → FitsSlots k → has key_cmp k xs ≡ false → IsOrders (insert_key key_cmp xs k) (insert_key key_cmp ys (turned k)) (insert_key key_cmp zs (turned (turned k)))
IsOrders-insert xs ys zs k h f absent = record {
  rising = IsRising-insert_key key_cmp-total k xs h.rising;
  second = IsTurned-insert_key xs ys k h.second absent;
  third = IsTurned-insert_key ys zs (turned k) h.third (has-turned xs ys h.second k ∙ absent);
  fit = All-insert_key key_cmp k FitsSlots xs h.fit f;
  fit_second = All-insert_key key_cmp (turned k) FitsSlots ys h.fit_second (f.1, f.2, f.0);
  fit_third = All-insert_key key_cmp (turned (turned k)) FitsSlots zs h.fit_third (f.2, f.0, f.1);
}

pub IsOrders-remove : (xs ys zs : List Key) (k : Key) → IsOrders xs ys zs → IsOrders (remove_key (same_key k) xs) (remove_key (same_key (turned k)) ys) (remove_key (same_key (turned (turned k))) zs)
IsOrders-remove xs ys zs k h = record {
  rising = IsRising-remove_key key_cmp (same_key k) xs h.rising;
  second = IsTurned-remove_key xs ys k h.second;
  third = IsTurned-remove_key ys zs (turned k) h.third;
  fit = All-remove_key (same_key k) FitsSlots xs h.fit;
  fit_second = All-remove_key (same_key (turned k)) FitsSlots ys h.fit_second;
  fit_third = All-remove_key (same_key (turned (turned k))) FitsSlots zs h.fit_third;
}

-- what was put in and taken out again left the list as it was
pub undone : (k : Key) (xs put left : List Key) → has key_cmp k xs ≡ false → put ≡ insert_key key_cmp xs k → left ≡ remove_key (same_key k) put → left ≡ xs
undone k xs put left absent put_is left_is = left_is ∙ ap (remove_key (same_key k)) put_is ∙ remove-insert_key key_cmp-total k xs absent

pub same_orders : (xs ys zs xs2 ys2 zs2 : List Key) → IsOrders xs ys zs → xs2 ≡ xs → ys2 ≡ ys → zs2 ≡ zs → IsOrders xs2 ys2 zs2
same_orders xs ys zs xs2 ys2 zs2 h a b c = subst (λ l. IsOrders l ys2 zs2) (sym a) (subst (λ l. IsOrders xs l zs2) (sym b) (subst (λ l. IsOrders xs ys l) (sym c) h))
