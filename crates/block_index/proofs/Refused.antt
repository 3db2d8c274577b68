-- What was taken of keys one after the other: copied up to an end, or some of them until memory was refused.
use Rattle.std.proofs.Common.{◌≡◌, ℕ, Result, Ok, Err, ◌+◌, ◌≤◌, Bool, true, false, cond, List, [], ◌∷◌, ◌++◌, Ordering, length, ◌∙◌, refl, sym, ap, subst, append-nil, append_assoc, length-append, arith}
use Rattle.std.specs.Ordering.{is_le}
use Rattle.base.specs.declared.memory.OutOfMemory.{OutOfMemory}
use Rattle.block_index.specs.Taking.{up_to, Takes, Took}
use Rattle.block_index.proofs.Ranges.{takes_stop, takes_then}

module _ {K : Type 0} (R : K → K → Ordering) (to : K) where
  -- of more keys no fewer come before the first above the end
  pub up_to_more : (xs ys : List K) → length (up_to R to xs) ≤ length (up_to R to (xs ++ ys))
  up_to_more [] ys = omega arith
  up_to_more (x ∷ xs) ys =
      elim (is_le (R x to)) as (λ b. length (cond b (x ∷ up_to R to xs) []) ≤ length (cond b (x ∷ up_to R to (xs ++ ys)) [])) [
        | true ↦ let rest = up_to_more xs ys in omega arith
        | false ↦ omega arith
      ]

  -- the first of two lists was taken whole, and memory was refused in the second
  refused_second : (xs ys before some : List K) (old now new : ℕ) → Takes R to xs before some true → now + length before ≤ old + length some → new ≤ now + length (up_to R to ys) → new ≤ old + length (up_to R to (xs ++ ys))
  refused_second xs ys before some old now new took cost few =
      let whole = ap (λ l. length (before ++ up_to R to l)) (append-nil (xs ++ ys)) in
      let part = ap (λ l. length (some ++ up_to R to l)) (append-nil ys) in
      let long = ap length (ap (λ l. before ++ up_to R to l) (append_assoc xs ys []) ∙ took (ys ++ [])) in
      omega (arith, whole, part, long, length-append before (up_to R to (xs ++ ys)), length-append some (up_to R to ys))

  took_both : (xs ys before some after : List K) (old now new : ℕ) (r : Result Bool OutOfMemory) → Took R to xs before some old now (Ok true) → Took R to ys some after now new r → Took R to (xs ++ ys) before after old new r
  took_both xs ys before some after old now new (Ok more) h g =
      let paid : now + length before ≤ old + length some + 0 = h.1 in
      let forth = h.2 in
      let more_paid = g.1 in
      let more_forth = g.2 in
      (takes_then R to xs ys before some after true more refl h.0 g.0, omega arith, omega arith)
  took_both xs ys before some after old now new (Err refused) h g =
      let paid : now + length before ≤ old + length some + 0 = h.1 in
      let forth = h.2 in
      let more_forth = g.1 in
      (refused_second xs ys before some old now new h.0 (omega arith) g.0, omega arith)

  -- both of two lists
  pub took_then : (xs ys before some after : List K) (old now new : ℕ) (r : Result Bool OutOfMemory) (one : Bool) → one ≡ true → Took R to xs before some old now (Ok one) → Took R to ys some after now new r → Took R to (xs ++ ys) before after old new r
  took_then xs ys before some after old now new r one goes took more =
      took_both xs ys before some after old now new r (subst (λ b. Took R to xs before some old now (Ok b)) goes took) more

  -- the first of two lists, where an end came
  pub took_stop : (xs ys before after : List K) (old new : ℕ) (more : Bool) → more ≡ false → Took R to xs before after old new (Ok more) → Took R to (xs ++ ys) before after old new (Ok false)
  took_stop xs ys before after old new more stop h =
      (takes_stop R to xs ys before after more stop h.0, subst (λ b. new + length before ≤ old + length after + cond b 0 1) stop h.1, h.2)

  -- or memory was refused
  pub took_refused : (xs ys before after : List K) (old new : ℕ) (refused : OutOfMemory) → Took R to xs before after old new (Err refused) → Took R to (xs ++ ys) before after old new (Err refused)
  took_refused xs ys before after old new refused h =
      let few = h.0 in
      (omega (arith, up_to_more xs ys), h.1)

  pub took_none : (before : List K) (now : ℕ) → Took R to [] before before now now (Ok true)
  took_none before now = ((λ rest. refl), omega arith, omega arith)

  -- a key that isn't above the end
  pub took_key : (x : K) (before after : List K) (old new : ℕ) → is_le (R x to) ≡ true → after ≡ before ++ x ∷ [] → old ≤ new → new ≤ old + 1 → Took R to (x ∷ []) before after old new (Ok true)
  took_key x before after old new low is forth step = (
    (λ rest. ap (λ b. before ++ cond b (x ∷ up_to R to rest) []) low ∙ sym (append_assoc before (x ∷ []) (up_to R to rest)) ∙ ap (λ l. l ++ up_to R to rest) (sym is)),
    (let longer = ap length is in omega (arith, length-append before (x ∷ []))),
    forth,
  )

  -- one that is
  pub took_end : (x : K) (before : List K) (old new : ℕ) → is_le (R x to) ≡ false → old ≤ new → new ≤ old + 1 → Took R to (x ∷ []) before before old new (Ok false)
  took_end x before old new high forth step =
      ((λ rest. ap (λ b. before ++ cond b (x ∷ up_to R to rest) []) high), omega arith, forth)

  -- one that isn't, for which memory was refused
  pub took_nothing : (x : K) (before after : List K) (old new : ℕ) (refused : OutOfMemory) → is_le (R x to) ≡ true → old ≤ new → new ≤ old + 1 → Took R to (x ∷ []) before after old new (Err refused)
  took_nothing x before after old new refused low forth step =
      (let one : length (cond (is_le (R x to)) (x ∷ []) []) ≡ 1 = ap (λ b. length (cond b (x ∷ []) [])) low in omega arith, forth)

  -- all keys come to what those that are left come to
  abbrev pub Leads : (all left before some : List K) (old now : ℕ) → Type 0
  Leads all left before some old now = (after : List K) (new : ℕ) (r : Result Bool OutOfMemory) → Took R to left some after now new r → Took R to all before after old new r

  -- the first of those that are left were taken
  pub leads_then : (all left x rest before some next : List K) (old now new : ℕ) (more : Bool) → more ≡ true → left ≡ x ++ rest → Took R to x some next now new (Ok more) → Leads all left before some old now → Leads all rest before next old new
  leads_then all left x rest before some next old now new more goes is took leads after end r h =
      leads after end r (subst (λ l. Took R to l some after now end r) (sym is) (took_then x rest some next after now new end r more goes took h))

  pub leads_stop : (all left x rest before some next : List K) (old now new : ℕ) (more : Bool) → more ≡ false → left ≡ x ++ rest → Took R to x some next now new (Ok more) → Leads all left before some old now → Took R to all before next old new (Ok false)
  leads_stop all left x rest before some next old now new more stop is took leads =
      leads next new (Ok false) (subst (λ l. Took R to l some next now new (Ok false)) (sym is) (took_stop x rest some next now new more stop took))

  pub leads_refused : (all left x rest before some next : List K) (old now new : ℕ) (refused : OutOfMemory) → left ≡ x ++ rest → Took R to x some next now new (Err refused) → Leads all left before some old now → Took R to all before next old new (Err refused)
  leads_refused all left x rest before some next old now new refused is took leads =
      leads next new (Err refused) (subst (λ l. Took R to l some next now new (Err refused)) (sym is) (took_refused x rest some next now new refused took))

  pub leads_end : (all left before some : List K) (old now : ℕ) → left ≡ [] → Leads all left before some old now → Took R to all before some old now (Ok true)
  leads_end all left before some old now is leads = leads some now (Ok true) (subst (λ l. Took R to l some some now now (Ok true)) (sym is) (took_none some now))
