-- Counts of triples of slots: what holds of all counts, at the order of keys, and what the code does to them.
use Rattle.std.proofs.Common.{◌≡◌, ℕ, ◌+◌, ◌-◌, Bool, true, false, cond, List, Option, None, is_some, unwrap_or, refl, sym, ◌∙◌, ap, true≢false}
use Rattle.std.specs.FinMap as map
use Rattle.std.specs.Map.{lookup}
use Rattle.sorted_sets.proofs.Bools.{equal}
use Rattle.slot_keys.specs.declared.key.Key.{Key}
use Rattle.slot_keys.specs.Keys.{key_cmp, key_cmp-total, key_cmp-IsAntisymmetric, same_key}
use Rattle.slot_index.specs.Counts.{KeyCounts, counts_of, count_of, with_count, raised, lowered, HaveOwners}
use Rattle.slot_index.proofs.Mapped.{changed, got}
use Rattle.slot_index.proofs.Passing.{one_if}
use Rattle.slot_index.proofs.Raising as raising
use Rattle.slot_index.proofs.Raising.{kept}

get-with_count : (counts : KeyCounts) (t : Key) (n : ℕ) (q : Key) → map.get (with_count counts t n) q ≡ cond (same_key q t) (kept n) (map.get counts q)
get-with_count = raising.get-with_count key_cmp-total

pub HaveOwners-with_count : (counts : KeyCounts) (t : Key) (n : ℕ) → HaveOwners counts → HaveOwners (with_count counts t n)
HaveOwners-with_count = raising.HaveOwners-with_count key_cmp-total

pub same_counts : (m n : KeyCounts) → HaveOwners m → HaveOwners n → ((q : Key) → count_of m q ≡ count_of n q) → m ≡ n
same_counts = raising.same_counts key_cmp-total key_cmp-IsAntisymmetric

pub count_of-raised : (counts : KeyCounts) (t q : Key) → count_of (raised counts t) q ≡ count_of counts q + one_if (same_key q t)
count_of-raised = raising.count_of-raised key_cmp-total

pub count_of-lowered : (counts : KeyCounts) (t q : Key) → count_of (lowered counts t) q ≡ count_of counts q - one_if (same_key q t)
count_of-lowered = raising.count_of-lowered key_cmp-total

-- where a look-up finds another count at one triple, the map has this count
pub written : (t : Key) (n : ℕ) (w : Option ℕ) (es fs : List (Key × ℕ)) → w ≡ kept n → ((q : Key) → lookup (same_key q) fs ≡ cond (same_key t q) w (lookup (same_key q) es)) → counts_of fs ≡ with_count (counts_of es) t n
written t n w es fs is finds = map.same_map key_cmp-total key_cmp-IsAntisymmetric (counts_of fs) (with_count (counts_of es) t n) (λ q.
    changed key_cmp-total t w es fs finds q ∙ ap (λ v. cond (same_key q t) v (map.get (counts_of es) q)) is ∙ sym (get-with_count (counts_of es) t n q))

-- the count of a triple is what a look-up finds
pub found : (t : Key) (es : List (Key × ℕ)) (v : Option ℕ) → v ≡ lookup (same_key t) es → count_of (counts_of es) t ≡ unwrap_or v 0
found t es v is = ap (λ w. unwrap_or w 0) (got key_cmp-total t es ∙ sym is)

-- taking a triple out, after its own count was written, takes it out
pub taken_out : (t : Key) (n : ℕ) (w : Option ℕ) (es fs gs : List (Key × ℕ)) → n ≡ 0 → ((q : Key) → lookup (same_key q) fs ≡ cond (same_key t q) w (lookup (same_key q) es)) → ((q : Key) → lookup (same_key q) gs ≡ cond (same_key t q) None (lookup (same_key q) fs)) → counts_of gs ≡ with_count (counts_of es) t n
taken_out t n w es fs gs none wrote took = written t n None es gs (ap kept (sym none)) (λ q. took q ∙ ap (λ v. cond (same_key t q) None v) (wrote q) ∙ by (same_key t q) (lookup (same_key q) es))
  where
    by : (b : Bool) (v : Option ℕ) → cond b None (cond b w v) ≡ cond b None v
    by true v = refl
    by false v = refl

-- a triple that isn't there has no owner to lose
pub not_lowered : (t : Key) (es : List (Key × ℕ)) → None ≡ lookup (same_key t) es → counts_of es ≡ lowered (counts_of es) t
not_lowered t es absent =
    map.same_map key_cmp-total key_cmp-IsAntisymmetric (counts_of es) (with_count (counts_of es) t 0) (λ q. still q ∙ sym (get-with_count (counts_of es) t 0 q))
    ∙ ap (λ n. with_count (counts_of es) t (n - 1)) (sym (found t es None absent))
  where
    still : (q : Key) → map.get (counts_of es) q ≡ cond (same_key q t) None (map.get (counts_of es) q)
    still q = elim (same_key q t) as (λ b. same_key q t ≡ b → map.get (counts_of es) q ≡ cond b None (map.get (counts_of es) q)) [
      | true ↦ λ e. sym (map.get_tied key_cmp-total (counts_of es) q t (equal _ e)) ∙ got key_cmp-total t es ∙ sym absent
      | false ↦ λ e. refl
    ] refl

-- the empty map has no triple without an owner
pub HaveOwners-empty : HaveOwners {R = key_cmp} map.empty
HaveOwners-empty t there = absurd (true≢false (sym there ∙ ap is_some (map.get-empty key_cmp t)))
