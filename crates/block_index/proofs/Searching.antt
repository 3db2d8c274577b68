-- One step of a binary search, and where it ends.
use Rattle.std.proofs.Common.{◌≡◌, ℕ, ◌+◌, ◌-◌, ◌/◌, ◌<◌, ◌≤◌, List, [], length, get_or, Ordering, Less, Equal, Greater, sym, ◌∙◌, ap, arith}
use Rattle.std.proofs.lemmas.List.{get_or_read}
use Rattle.comparison_steps.specs.Steps.{Left}
use Rattle.block_index.specs.Search.{IsAfter, IsBefore, IsAfterBlock, IsBeforeBlock, first_at}
use Rattle.block_index.proofs.Costs.{left_step}

-- the gap of a search after a step down or up from its middle
pub left_down : (n start now then low high : ℕ) → low < high → now ≤ then → then ≤ now + 1 → Left n start now (high - low) → Left n start then (low + (high - low) / 2 - low)
left_down n start now then low high some forward step left = left_step n start now then (high - low) _ (omega arith) (omega arith) forward step left

pub left_up : (n start now then low high : ℕ) → low < high → now ≤ then → then ≤ now + 1 → Left n start now (high - low) → Left n start then (high - (low + (high - low) / 2 + 1))
left_up n start now then low high some forward step left = left_step n start now then (high - low) _ (omega arith) (omega arith) forward step left

module _ {K : Type 0} (R : K → K → Ordering) (k : K) where
  pub before_here : (xs : List K) (m : ℕ) (x : K) → m < length xs → x ≡ get_or xs m x → R k x ≡ Less → IsBefore R k xs m
  before_here xs m x l read e d within = ap (R k) (sym (get_or_read xs m x l read d)) ∙ e

  pub after_here : (xs : List K) (m : ℕ) (x : K) → m < length xs → x ≡ get_or xs m x → R k x ≡ Greater → IsAfter R k xs (m + 1)
  after_here xs m x l read e d some =
      let same : m + 1 - 1 ≡ m = omega arith in
      ap (λ i. R k (get_or xs i d)) same ∙ ap (R k) (sym (get_or_read xs m x l read d)) ∙ e

  pub tied_here : (xs : List K) (m : ℕ) (x : K) → m < length xs → x ≡ get_or xs m x → R k x ≡ Equal → (d : K) → R k (get_or xs m d) ≡ Equal
  tied_here xs m x l read e d = ap (R k) (sym (get_or_read xs m x l read d)) ∙ e

  -- the same of the blocks' first keys: x is the first key of the block b that was read
  first_is : (bs : List (List K)) (m : ℕ) (b : List K) (x : K) → m < length bs → b ≡ get_or bs m b → ((d : K) → x ≡ get_or b 0 d) → (d : K) → x ≡ first_at bs m d
  first_is bs m b x l read first d = first d ∙ ap (λ keys. get_or keys 0 d) (get_or_read bs m b l read [])

  pub before_block : (bs : List (List K)) (m : ℕ) (b : List K) (x : K) → m < length bs → b ≡ get_or bs m b → ((d : K) → x ≡ get_or b 0 d) → R k x ≡ Less → IsBeforeBlock R k bs m
  before_block bs m b x l read first e d within = ap (R k) (sym (first_is bs m b x l read first d)) ∙ e

  pub after_block : (bs : List (List K)) (m : ℕ) (b : List K) (x : K) → m < length bs → b ≡ get_or bs m b → ((d : K) → x ≡ get_or b 0 d) → R k x ≡ Greater → IsAfterBlock R k bs (m + 1)
  after_block bs m b x l read first e d some =
      let same : m + 1 - 1 ≡ m = omega arith in
      ap (λ i. R k (first_at bs i d)) same ∙ ap (R k) (sym (first_is bs m b x l read first d)) ∙ e

  pub tied_block : (bs : List (List K)) (m : ℕ) (b : List K) (x : K) → m < length bs → b ≡ get_or bs m b → ((d : K) → x ≡ get_or b 0 d) → R k x ≡ Equal → (d : K) → R k (first_at bs m d) ≡ Equal
  tied_block bs m b x l read first e d = ap (R k) (sym (first_is bs m b x l read first d)) ∙ e
