-- Reading parts with separators between them finds exactly the lists of the grammar, for arrays and objects alike.
use Rattle.std.proofs.Common.{◌≡◌, ℕ, zero, suc, ◌+◌, ◌<◌, ◌≤◌, true, false, not, ◌==◌, cond, List, [], ◌∷◌, ◌++◌, length, Option, Some, None, ◌⊎◌, ⊎_elim, refl, sym, ap, subst, ◌∙◌, arith, append_assoc, append-nil, length-append}
use Rattle.std.proofs.lemmas.Bool.Decides.{nat_tests}
use Rattle.json_spell.specs.Grammar.{is_ws, IsWs, Spaced, Then, After}
use Rattle.json_spell.specs.Reading.{Parse, read_map, ◌>>=◌, skip, after_byte, spaced, after_part, parts, closed, list_by}
use Rattle.json_spell.proofs.Opened.{some_is, bind_some, map_some, chosen, guarded, Found}
use Rattle.json_spell.proofs.Skips.{stops, skip-split, skip-all}
use Rattle.json_spell.proofs.Numbers.{in_number}

-- what is read is of the grammar
abbrev pub Sound : {A : Type 0} → Parse A → (A → List ℕ → Type 0) → Type 0
Sound {A} part P = (s : List ℕ) (a : A) (r : List ℕ) → part s ≡ Some (a, r) → Found (P a) s r

-- neither a number nor white space goes on
abbrev pub Ends : List ℕ → Type 0
Ends r = (stops in_number r ≡ true) × (stops is_ws r ≡ true)

-- a text of the grammar, no longer than the bound, is read
abbrev pub Complete : {A : Type 0} → Parse A → (A → List ℕ → Type 0) → (List ℕ → Type 0) → ℕ → Type 0
Complete {A} part P Behind bound = (a : A) (x r : List ℕ) → P a x → Behind r → length x ≤ bound → part (x ++ r) ≡ Some (a, r)

-- what is left is no longer
abbrev pub Shrinks : {A : Type 0} → Parse A → Type 0
Shrinks {A} part = (s : List ℕ) (a : A) (r : List ℕ) → part s ≡ Some (a, r) → length r ≤ length s

pub found-le : (P : List ℕ → Type 0) (s r : List ℕ) → Found P s r → length r ≤ length s
found-le P s r f = let whole : length s ≡ length (f.text ++ r) = ap length f.is in omega (arith, length-append f.text r)

-- a byte where it stands at the front
pub after_byte-sound : (byte : ℕ) (s r : List ℕ) → after_byte byte s ≡ Some r → s ≡ byte ∷ r
after_byte-sound byte [] r e = absurd cc
after_byte-sound byte (x ∷ s) r e =
    let g = guarded (x == byte) e in
    let x_is : x ≡ byte = grind (arith, nat_tests, g.0) in
    let s_is = some_is g.1 in
    cc

same-byte : (byte : ℕ) → (byte == byte) ≡ true
same-byte byte = grind (arith, nat_tests)

pub after_byte-complete : (byte : ℕ) (r : List ℕ) → after_byte byte (byte ∷ r) ≡ Some r
after_byte-complete byte r = rw (same-byte byte) refl

-- white space around a part
pub spaced-sound : {A : Type 0} (part : Parse A) (P : A → List ℕ → Type 0) → Sound part P → Sound (spaced part) (λ a. Spaced (P a))
spaced-sound {A} part P sound s a r e =
    let p = map_some _ (part (skip is_ws s)) e in
    let before = skip-split is_ws s in
    let inside = sound (skip is_ws s) p.0.0 p.0.1 p.1.0 in
    let after = skip-split is_ws p.0.1 in
    let a_is : p.0.0 ≡ a = ap (λ q. q.0) p.1.1 in
    let r_is : skip is_ws p.0.1 ≡ r = ap (λ q. q.1) p.1.1 in
    record {
      text = before.text ++ (inside.text ++ after.text);
      holds = subst (λ (b : A). Spaced (P b) (before.text ++ (inside.text ++ after.text))) a_is
          (record { before = before.text; inside = inside.text; after = after.text; ws_before = before.holds; holds = inside.holds; ws_after = after.holds; is = refl });
      is = spaced-text before.text inside.text after.text (skip is_ws s) p.0.1 (skip is_ws p.0.1) before.is inside.is after.is ∙ ap (λ q. (before.text ++ (inside.text ++ after.text)) ++ q) r_is;
    }
  where
    spaced-text : (b i f s1 s2 s3 : List ℕ) {s0 : List ℕ} → s0 ≡ b ++ s1 → s1 ≡ i ++ s2 → s2 ≡ f ++ s3 → s0 ≡ (b ++ (i ++ f)) ++ s3
    spaced-text b i f s1 s2 s3 e0 e1 e2 = e0 ∙ ap (λ q. b ++ q) (e1 ∙ ap (λ q. i ++ q) e2) ∙ simp append_assoc

ws-no_number : (x : ℕ) → is_ws x ≡ true → not (in_number x) ≡ true
ws-no_number x h = grind (arith, nat_tests)

ws-behind : (x r : List ℕ) → IsWs x → stops in_number r ≡ true → stops in_number (x ++ r) ≡ true
ws-behind [] r h e = e
ws-behind (a ∷ x) r h e = ws-no_number a h.0

pub spaced-complete : {A : Type 0} (part : Parse A) (P : A → List ℕ → Type 0) (bound : ℕ)
    → ((a : A) (x r : List ℕ) → P a x → stops is_ws (x ++ r) ≡ true)
    → Complete part P (λ r. stops in_number r ≡ true) bound → Complete (spaced part) (λ a. Spaced (P a)) Ends bound
spaced-complete {A} part P bound starts complete a x r h ends short =
    let b = h.before in
    let i = h.inside in
    let f = h.after in
    let whole : x ++ r ≡ b ++ (i ++ (f ++ r)) = ap (λ q. q ++ r) h.is ∙ simp append_assoc in
    let skipped : skip is_ws (x ++ r) ≡ i ++ (f ++ r) = ap (skip is_ws) whole ∙ skip-all is_ws b (i ++ (f ++ r)) h.ws_before (starts a i (f ++ r) h.holds) in
    let long : length x ≡ length (b ++ (i ++ f)) = ap length h.is in
    let got = complete a i (f ++ r) h.holds (ws-behind f r h.ws_after ends.0) (omega (arith, length-append b (i ++ f), length-append i f)) in
    rw (skipped, got, skip-all is_ws f r h.ws_after ends.1) refl

-- parts with separators, up to the closing bracket
pub record Listed {A L : Type 0} (cons : A → L → L) (close : ℕ) (Part : A → List ℕ → Type 0) (More : L → List ℕ → Type 0) (l : L) (s r : List ℕ) : Type 0 where
  pub head : A
  pub tail : L
  pub is_cons : l ≡ cons head tail
  pub inside : List ℕ
  pub holds : Then (Part head) (More tail) inside
  pub is : s ≡ inside ++ close ∷ r

module _ {A L : Type 0} (cons : A → L → L) (none : L) (close : ℕ) (Part : A → List ℕ → Type 0) (More : L → List ℕ → Type 0) where
  after_part-sound : (more : Parse L) → ((s : List ℕ) (l : L) (r : List ℕ) → more s ≡ Some (l, r) → Listed cons close Part More l s r)
      → More none [] → ((a : A) (l : L) (x : List ℕ) → After 0x2C (Then (Part a) (More l)) x → More (cons a l) x)
      → (a : A) (s x : List ℕ) (l : L) (r : List ℕ) → Part a x → after_part cons none close more a s ≡ Some (l, r) → Listed cons close Part More l (x ++ s) r
  after_part-sound more sound more_none more_cons a [] x l r h e = absurd cc
  after_part-sound more sound more_none more_cons a (y ∷ s) x l r h e = ⊎_elim separator last (chosen (y == 0x2C) e)
    where
      separator : ((y == 0x2C) ≡ true) × (read_map (cons a) (more s) ≡ Some (l, r)) → Listed cons close Part More l (x ++ y ∷ s) r
      separator f =
          let p = map_some _ (more s) f.1 in
          let behind = sound s p.0.0 p.0.1 p.1.0 in
          let y_is : y ≡ 0x2C = grind (arith, nat_tests, f.0) in
          let l_is : cons a p.0.0 ≡ l = ap (λ q. q.0) p.1.1 in
          let r_is : p.0.1 ≡ r = ap (λ q. q.1) p.1.1 in
          record {
            head = a;
            tail = p.0.0;
            is_cons = sym l_is;
            inside = x ++ 0x2C ∷ behind.inside;
            holds = record {
              first = x;
              second = 0x2C ∷ behind.inside;
              holds = h;
              then_holds = subst (λ (m : L). More m (0x2C ∷ behind.inside)) (sym behind.is_cons)
                  (more_cons behind.head behind.tail (0x2C ∷ behind.inside) (record { rest = behind.inside; holds = behind.holds; is = refl }));
              is = refl;
            };
            is = text y s behind.inside p.0.1 y_is behind.is ∙ ap (λ q. (x ++ 0x2C ∷ behind.inside) ++ close ∷ q) r_is;
          }
        where
          text : (y : ℕ) (s i q : List ℕ) → y ≡ 0x2C → s ≡ i ++ close ∷ q → x ++ y ∷ s ≡ (x ++ 0x2C ∷ i) ++ close ∷ q
          text y s i q e0 e1 = rw (e0, e1) (simp append_assoc)

      last : ((y == 0x2C) ≡ false) × (cond {A = Option (L × List ℕ)} (y == close) (Some (cons a none, s)) None ≡ Some (l, r)) → Listed cons close Part More l (x ++ y ∷ s) r
      last f =
          let g = guarded (y == close) f.1 in
          let same = some_is g.1 in
          let y_is : y ≡ close = grind (arith, nat_tests, g.0) in
          let l_is : cons a none ≡ l = ap (λ q. q.0) same in
          let r_is : s ≡ r = ap (λ q. q.1) same in
          record {
            head = a;
            tail = none;
            is_cons = sym l_is;
            inside = x ++ [];
            holds = record { first = x; second = []; holds = h; then_holds = more_none; is = refl };
            is = text y s y_is r_is;
          }
        where
          text : (y : ℕ) (s : List ℕ) → y ≡ close → s ≡ r → x ++ y ∷ s ≡ (x ++ []) ++ close ∷ r
          text y s e0 e1 = rw (e0, e1, append-nil x) refl

  pub parts-sound : (part : Parse A) → Sound part Part
      → More none [] → ((a : A) (l : L) (x : List ℕ) → After 0x2C (Then (Part a) (More l)) x → More (cons a l) x)
      → (n : ℕ) (s : List ℕ) (l : L) (r : List ℕ) → parts part cons none close n s ≡ Some (l, r) → Listed cons close Part More l s r
  unfolding parts
  parts-sound part sound more_none more_cons zero s l r e = absurd cc
  parts-sound part sound more_none more_cons (suc n) s l r e =
      let p = bind_some (part s) _ e in
      let f = sound s p.0.0 p.0.1 p.1.0 in
      subst (λ (t : List ℕ). Listed cons close Part More l t r) (sym f.is)
      (after_part-sound (parts part cons none close n) (parts-sound part sound more_none more_cons n) more_none more_cons p.0.0 p.0.1 f.text l r f.holds p.1.1)

  -- what more there may be of a list
  pub record Next (l : L) (x : List ℕ) : Type 0 where
    pub head : A
    pub tail : L
    pub is_cons : l ≡ cons head tail
    pub holds : After 0x2C (Then (Part head) (More tail)) x

  pub parts-complete : (part : Parse A) (bound : ℕ) → Complete part Part Ends bound
      → ((r : List ℕ) → Ends (close ∷ r)) → (close == 0x2C) ≡ false
      → ((l : L) (x : List ℕ) → More l x → ((l ≡ none) × (x ≡ [])) ⊎ Next l x)
      → (n : ℕ) (a : A) (l : L) (x r : List ℕ) → Then (Part a) (More l) x → length x ≤ bound → length x < n → parts part cons none close n (x ++ close ∷ r) ≡ Some (cons a l, r)
  unfolding parts
  parts-complete part bound complete ends differ cases zero a l x r h short fuel = absurd (omega arith)
  parts-complete part bound complete ends differ cases (suc n) a l x r h short fuel = ⊎_elim last (more (λ b m y i j k. parts-complete part bound complete ends differ cases n b m y r i j k)) (cases l h.second h.then_holds)
    where
      long : length x ≡ length h.first + length h.second
      long = ap length h.is ∙ length-append h.first h.second

      last : (l ≡ none) × (h.second ≡ []) → parts part cons none close (suc n) (x ++ close ∷ r) ≡ Some (cons a l, r)
      last z =
          let whole : x ++ close ∷ r ≡ h.first ++ close ∷ r = ap (λ q. q ++ close ∷ r) (h.is ∙ ap (λ q. h.first ++ q) z.1 ∙ append-nil h.first) in
          rw (whole, complete a h.first (close ∷ r) h.holds (ends r) (omega (arith, long)), differ, same-byte close, z.0) refl

      more : ((b : A) (m : L) (y : List ℕ) → Then (Part b) (More m) y → length y ≤ bound → length y < n → parts part cons none close n (y ++ close ∷ r) ≡ Some (cons b m, r))
          → Next l h.second → parts part cons none close (suc n) (x ++ close ∷ r) ≡ Some (cons a l, r)
      more so_far next =
          let rest = next.holds.rest in
          let whole : x ++ close ∷ r ≡ h.first ++ 0x2C ∷ (rest ++ close ∷ r) = ap (λ q. q ++ close ∷ r) (h.is ∙ ap (λ q. h.first ++ q) next.holds.is) ∙ simp append_assoc in
          let second_long : length h.second ≡ suc (length rest) = ap length next.holds.is in
          let behind = so_far next.head next.tail rest next.holds.holds (omega (arith, long)) (omega (arith, long)) in
          rw (whole, complete a h.first (0x2C ∷ (rest ++ close ∷ r)) h.holds (refl, refl) (omega (arith, long)), behind, next.is_cons) refl

  -- a list in its brackets, after the opening one
  pub list-sound : (more : Parse L) (Are : L → List ℕ → Type 0)
      → ((x : List ℕ) → IsWs x → Are none x) → ((a : A) (l : L) (x : List ℕ) → Then (Part a) (More l) x → Are (cons a l) x)
      → ((s : List ℕ) (l : L) (r : List ℕ) → more s ≡ Some (l, r) → Listed cons close Part More l s r)
      → (s : List ℕ) (l : L) (r : List ℕ) → list_by none close more s ≡ Some (l, r) → Found (λ x. (i : List ℕ) × (Are l i × (x ≡ i ++ close ∷ []))) s r
  list-sound more Are are_none are_cons sound s l r e = at (after_byte close (skip is_ws s)) refl e
    where
      at : (o : Option (List ℕ)) → after_byte close (skip is_ws s) ≡ o → closed none (more s) o ≡ Some (l, r) → Found (λ x. (i : List ℕ) × (Are l i × (x ≡ i ++ close ∷ []))) s r
      at None z f =
          let b = sound s l r f in
          record {
            text = b.inside ++ close ∷ [];
            holds = (b.inside, (subst (λ (m : L). Are m b.inside) (sym b.is_cons) (are_cons b.head b.tail b.inside b.holds), refl));
            is = b.is ∙ simp append_assoc;
          }
      at (Some rest) z f =
          let same = some_is f in
          let l_is : none ≡ l = ap (λ q. q.0) same in
          let r_is : rest ≡ r = ap (λ q. q.1) same in
          let ws = skip-split is_ws s in
          record {
            text = ws.text ++ close ∷ [];
            holds = (ws.text, (subst (λ (m : L). Are m ws.text) l_is (are_none ws.text ws.holds), refl));
            is = ws.is ∙ ap (λ q. ws.text ++ q) (after_byte-sound close (skip is_ws s) rest z ∙ ap (λ q. close ∷ q) r_is) ∙ simp append_assoc;
          }

  pub list-empty : (more : Parse L) → not (is_ws close) ≡ true → (x r : List ℕ) → IsWs x → list_by none close more (x ++ close ∷ r) ≡ Some (none, r)
  list-empty more no_ws x r h = rw (skip-all is_ws x (close ∷ r) h no_ws, same-byte close) refl

  pub list-parts : (more : Parse L) (s : List ℕ) → after_byte close (skip is_ws s) ≡ None → list_by none close more s ≡ more s
  list-parts more s e = rw e refl

-- the parts depend on what is left alone
pub parts-same : {A L : Type 0} (cons : A → L → L) (none : L) (close : ℕ) (part part' : Parse A) (bound : ℕ)
    → ((s : List ℕ) → length s ≤ bound → part s ≡ part' s) → Shrinks part'
    → (n m : ℕ) (s : List ℕ) → length s ≤ bound → length s < n → length s < m → parts part cons none close n s ≡ parts part' cons none close m s
unfolding parts
parts-same cons none close part part' bound same shrinks zero m s short l k = absurd (omega arith)
parts-same cons none close part part' bound same shrinks (suc n) zero s short l k = absurd (omega arith)
parts-same {A} {L} cons none close part part' bound same shrinks (suc n) (suc m) s short l k =
    rw (same s short) (at (part' s) refl (λ r i j h. parts-same cons none close part part' bound same shrinks n m r i j h))
  where
    behind : (a : A) (r : List ℕ) → length r ≤ length s
        → ((r : List ℕ) → length r ≤ bound → length r < n → length r < m → parts part cons none close n r ≡ parts part' cons none close m r)
        → after_part cons none close (parts part cons none close n) a r ≡ after_part cons none close (parts part' cons none close m) a r
    behind a [] short_r so_far = refl
    behind a (x ∷ r) short_r so_far = rw (so_far r (omega arith) (omega arith) (omega arith)) refl

    at : (o : Option (A × List ℕ)) → part' s ≡ o
        → ((r : List ℕ) → length r ≤ bound → length r < n → length r < m → parts part cons none close n r ≡ parts part' cons none close m r)
        → (o >>= λ p. after_part cons none close (parts part cons none close n) p.0 p.1) ≡ (o >>= λ p. after_part cons none close (parts part' cons none close m) p.0 p.1)
    at None e so_far = refl
    at (Some p) e so_far = behind p.0 p.1 (shrinks s p.0 p.1 e) so_far
