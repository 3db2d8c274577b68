-- One more key in a block, and a full block in two.
use Rattle.std.proofs.Common.{◌≡◌, ℕ, zero, suc, ◌+◌, ◌-◌, ◌<◌, ◌≤◌, List, [], ◌∷◌, ◌++◌, length, get_or, set, take, drop, refl, sym, ◌∙◌, ap, subst, arith}
use Rattle.std.specs.List.{insert, remove}
use Rattle.std.proofs.lemmas.List.{length-take-le, length-drop, take-append-drop, get_or_read}
use Rattle.std.proofs.lemmas.List.Edits.{insert-append_left, insert-append_right, length-insert, length-remove}
use Rattle.block_index.specs.Blocks.{IsFilled, AreFilled}
use Rattle.block_index.specs.Edit.{Edits}
use Rattle.block_index.proofs.Edited.{edits_one, edits_two, edits_none}
use Rattle.block_index.proofs.Parts.{filled_at}

module _ {K : Type 0} where
  -- the key goes to the lower half
  pub halves_low : (keys low high new : List K) (at : ℕ) (k : K) → length keys ≡ 128 → low ≡ take 64 keys → high ≡ drop 64 keys → at ≤ 64 → new ≡ insert low at k → (new ++ high ≡ insert keys at k) × IsFilled new × IsFilled high
  halves_low keys low high new at k full low_is high_is small put =
      let short = length-take-le 64 keys (omega arith) in
      let low_len = ap length low_is in
      let grown = ap length put in
      let longer = length-insert low at k (omega arith) in
      let high_len = ap length high_is in
      let rest = length-drop 64 keys in (
        ap (λ l. l ++ high) put
            ∙ sym (insert-append_left low high at k (omega arith))
            ∙ ap (λ l. insert (l ++ high) at k) low_is ∙ ap (λ l. insert (take 64 keys ++ l) at k) high_is
            ∙ ap (λ l. insert l at k) (take-append-drop 64 keys),
        (omega arith, omega arith),
        (omega arith, omega arith),
      )

  -- the key goes to the upper half
  pub halves_high : (keys low high new : List K) (at : ℕ) (k : K) → length keys ≡ 128 → low ≡ take 64 keys → high ≡ drop 64 keys → 64 < at → at ≤ 128 → new ≡ insert high (at - 64) k → (low ++ new ≡ insert keys at k) × IsFilled low × IsFilled new
  halves_high keys low high new at k full low_is high_is large small put =
      let short = length-take-le 64 keys (omega arith) in
      let low_len = ap length low_is in
      let high_len = ap length high_is in
      let rest = length-drop 64 keys in
      let grown = ap length put in
      let longer = length-insert high (at - 64) k (omega arith) in (
        ap (λ l. low ++ l) put
            ∙ sym (insert-append_right low high 64 at k (omega arith) (omega arith))
            ∙ ap (λ l. insert (l ++ high) at k) low_is ∙ ap (λ l. insert (take 64 keys ++ l) at k) high_is
            ∙ ap (λ l. insert l at k) (take-append-drop 64 keys),
        (omega arith, omega arith),
        (omega arith, omega arith),
      )

  -- a block with one more key
  pub edits_grown : (bs : List (List K)) (i at : ℕ) (k : K) (b new : List K) → i < length bs → b ≡ get_or bs i b → length (get_or bs i []) < 128 → at ≤ length (get_or bs i []) → new ≡ insert b at k → Edits bs (set bs i new) i (insert (get_or bs i []) at k)
  edits_grown bs i at k b new l read small within put =
      let is = put ∙ ap (λ keys. insert keys at k) (get_or_read bs i b l read []) in
      let longer = length-insert (get_or bs i []) at k within in
      let grown = ap length is in
      subst (λ keys. Edits bs (set bs i new) i keys) is (edits_one bs i new l (omega arith, omega arith))

  -- a block with one key less
  pub edits_shrunk : (bs : List (List K)) (i at : ℕ) (b new : List K) → AreFilled bs → i < length bs → b ≡ get_or bs i b → 1 < length (get_or bs i []) → at < length (get_or bs i []) → new ≡ remove b at → Edits bs (set bs i new) i (remove (get_or bs i []) at)
  edits_shrunk bs i at b new f l read large within took =
      let is = took ∙ ap (λ keys. remove keys at) (get_or_read bs i b l read []) in
      let shorter = length-remove (get_or bs i []) at within in
      let shrunk = ap length is in
      let most = (filled_at bs i l f).1 in
      subst (λ keys. Edits bs (set bs i new) i keys) is (edits_one bs i new l (omega arith, omega arith))

  only : (keys : List K) (at : ℕ) → length keys ≡ 1 → at < length keys → remove keys at ≡ []
  only [] at one within = absurd (omega arith)
  only (x ∷ []) zero one within = refl
  only (x ∷ []) (suc at) one within = absurd (omega arith)
  only (x ∷ y ∷ keys) at one within = absurd (omega arith)

  -- a block that is gone with its only key
  pub edits_gone : (bs : List (List K)) (i at : ℕ) → length (get_or bs i []) ≡ 1 → at < length (get_or bs i []) → Edits bs (remove bs i) i (remove (get_or bs i []) at)
  edits_gone bs i at one within = subst (λ keys. Edits bs (remove bs i) i keys) (sym (only (get_or bs i []) at one within)) (edits_none bs i)

  -- two blocks in the place of a full one
  pub edits_split : (bs put : List (List K)) (i at : ℕ) (k : K) (b low high : List K) → i < length bs → b ≡ get_or bs i b → IsFilled low → IsFilled high → low ++ high ≡ insert b at k → put ≡ insert bs (i + 1) high → Edits bs (set put i low) i (insert (get_or bs i []) at k)
  edits_split bs put i at k b low high l read fl fh are put_is =
      subst (λ l. Edits bs (set l i low) i (insert (get_or bs i []) at k)) (sym put_is)
      (edits_two bs i low high (insert (get_or bs i []) at k) l fl fh (are ∙ ap (λ keys. insert keys at k) (get_or_read bs i b l read [])))
