-- Counts that are raised and lowered, key by key.
use Rattle.std.proofs.Common.{◌≡◌, ℕ, zero, suc, ◌+◌, ◌-◌, ◌<◌, Bool, true, false, cond, Option, Some, None, Ordering, is_some, unwrap_or, refl, sym, ◌∙◌, ap, subst, arith, true≢false}
use Rattle.std.specs.Cmp.{IsTotalOrder}
use Rattle.std.specs.FinMap as map
use Rattle.std.specs.FinMap.{IsAntisymmetric}
use Rattle.std.specs.Ordering.{eq_by_cmp}
use Rattle.sorted_sets.proofs.Bools.{equal}
use Rattle.slot_index.specs.Counts.{count_of, with_count, raised, lowered, HaveOwners}
use Rattle.slot_index.proofs.Passing.{one_if}

-- what the map has at a key with this count
abbrev pub kept : ℕ → Option ℕ
kept zero = None
kept (suc n) = Some (suc n)

pub kept_some : (n : ℕ) → 0 < n → kept n ≡ Some n
kept_some zero h = absurd (omega arith)
kept_some (suc n) h = refl

unwrap_kept : (n : ℕ) → unwrap_or (kept n) 0 ≡ n
unwrap_kept zero = refl
unwrap_kept (suc n) = refl

-- the count that a map has where it keeps this one
unwrap-cond_kept : (b : Bool) (n : ℕ) (v : Option ℕ) → unwrap_or (cond b (kept n) v) 0 ≡ cond b n (unwrap_or v 0)
unwrap-cond_kept true n v = unwrap_kept n
unwrap-cond_kept false n v = refl

-- an entry, if there is one, counts something
abbrev IsOwned : Option ℕ → Type 0
IsOwned v = is_some v ≡ true → 0 < unwrap_or v 0

IsOwned-cond_kept : (b : Bool) (n : ℕ) (v : Option ℕ) → IsOwned v → IsOwned (cond b (kept n) v)
IsOwned-cond_kept true zero v h some = absurd (true≢false (sym some))
IsOwned-cond_kept true (suc n) v h some = omega arith
IsOwned-cond_kept false n v h some = h some

-- entries that count the same are the same
same_owned : (v w : Option ℕ) → IsOwned v → IsOwned w → unwrap_or v 0 ≡ unwrap_or w 0 → v ≡ w
same_owned None None hv hw e = refl
same_owned None (Some y) hv hw e = let some : 0 < y = hw refl in absurd (omega arith)
same_owned (Some x) None hv hw e = let some : 0 < x = hv refl in absurd (omega arith)
same_owned (Some x) (Some y) hv hw e = ap Some e

module _ {K : Type 0} {R : K → K → Ordering} (o : IsTotalOrder R) where
  pub get-with_count : (counts : map.FinMap R ℕ) (t : K) (n : ℕ) (q : K) → map.get (with_count counts t n) q ≡ cond (eq_by_cmp R q t) (kept n) (map.get counts q)
  get-with_count counts t zero q = map.get-remove o counts t q
  get-with_count counts t (suc n) q = map.get-insert o counts t (suc n) q

  count_of-with_count : (counts : map.FinMap R ℕ) (t : K) (n : ℕ) (q : K) → count_of (with_count counts t n) q ≡ cond (eq_by_cmp R q t) n (count_of counts q)
  count_of-with_count counts t n q = ap (λ v. unwrap_or v 0) (get-with_count counts t n q) ∙ unwrap-cond_kept (eq_by_cmp R q t) n (map.get counts q)

  pub HaveOwners-with_count : (counts : map.FinMap R ℕ) (t : K) (n : ℕ) → HaveOwners counts → HaveOwners (with_count counts t n)
  HaveOwners-with_count counts t n h q = subst IsOwned (sym (get-with_count counts t n q)) (IsOwned-cond_kept (eq_by_cmp R q t) n (map.get counts q) (h q))

  -- where each stored key has an owner, the counts fix the map
  pub same_counts : IsAntisymmetric R → (m n : map.FinMap R ℕ) → HaveOwners m → HaveOwners n → ((q : K) → count_of m q ≡ count_of n q) → m ≡ n
  same_counts same m n hm hn e = map.same_map o same m n (λ q. same_owned (map.get m q) (map.get n q) (hm q) (hn q) (e q))

  pub count_of-raised : (counts : map.FinMap R ℕ) (t q : K) → count_of (raised counts t) q ≡ count_of counts q + one_if (eq_by_cmp R q t)
  count_of-raised counts t q =
      count_of-with_count counts t (count_of counts t + 1) q
      ∙ elim (eq_by_cmp R q t) as (λ b. eq_by_cmp R q t ≡ b → cond b (count_of counts t + 1) (count_of counts q) ≡ count_of counts q + one_if b) [
        | true ↦ λ e. ap (λ v. unwrap_or v 0 + 1) (map.get_tied o counts q t (equal _ e))
        | false ↦ λ e. omega arith
      ] refl

  pub count_of-lowered : (counts : map.FinMap R ℕ) (t q : K) → count_of (lowered counts t) q ≡ count_of counts q - one_if (eq_by_cmp R q t)
  count_of-lowered counts t q =
      count_of-with_count counts t (count_of counts t - 1) q
      ∙ elim (eq_by_cmp R q t) as (λ b. eq_by_cmp R q t ≡ b → cond b (count_of counts t - 1) (count_of counts q) ≡ count_of counts q - one_if b) [
        | true ↦ λ e. ap (λ v. unwrap_or v 0 - 1) (map.get_tied o counts q t (equal _ e))
        | false ↦ λ e. omega arith
      ] refl
