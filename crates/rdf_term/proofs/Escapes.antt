-- The order of written texts, by the order of what each byte is written as.
use Rattle.std.proofs.Common.{◌≡◌, ◌≢◌, ℕ, ◌<◌, Some, List, [], ◌∷◌, ◌++◌, ◌⊎◌, Ordering, refl, sym, ap, ◌∙◌, inl, inr, ⊎_elim, append_assoc, arith, length, min, slice_get, slice_index}
use Rattle.std.specs.declared.cmp.Ordering.TheVariants.{Less, Equal, Greater}
use Rattle.std.specs.Ordering.{ordering_then, nat_cmp}
use Rattle.std.proofs.lemmas.Bool.{cases_eq, ne_eqb}
use Rattle.std.proofs.lemmas.Bool.Decides.{nat_tests}
use Rattle.rdf_term.specs.Order.{bytes_cmp}
use Rattle.rdf_term.specs.Text.{escaped, escaped_byte}
use Rattle.rdf_term.specs.Undo.{byte_of}

-- the byte is written as it is
pub record Stands (x : ℕ) : Type 0 where
  pub is : escaped_byte x ≡ x ∷ []
  pub not_quote : x ≢ 34
  pub not_backslash : x ≢ 92
  pub not_lf : x ≢ 10
  pub not_cr : x ≢ 13

-- the byte is written as a backslash and a letter
pub record Escapes (x : ℕ) : Type 0 where
  pub letter : ℕ
  pub is : escaped_byte x ≡ 92 ∷ letter ∷ []
  pub byte : byte_of letter ≡ x
  pub low : x < 128
  pub letter_low : letter < 128

pub kind : (x : ℕ) → Stands x ⊎ Escapes x
kind x =
    ⊎_elim (λ e. inr (record { letter = 34; is = ap escaped_byte e; byte = sym e; low = omega arith; letter_low = omega arith }))
    (λ a. ⊎_elim (λ e. inr (record { letter = 92; is = ap escaped_byte e; byte = sym e; low = omega arith; letter_low = omega arith }))
    (λ b. ⊎_elim (λ e. inr (record { letter = 110; is = ap escaped_byte e; byte = sym e; low = omega arith; letter_low = omega arith }))
    (λ c. ⊎_elim (λ e. inr (record { letter = 114; is = ap escaped_byte e; byte = sym e; low = omega arith; letter_low = omega arith }))
    (λ d. inl (record { is = rw (ne_eqb x 34 a, ne_eqb x 92 b, ne_eqb x 10 c, ne_eqb x 13 d) refl; not_quote = a; not_backslash = b; not_lf = c; not_cr = d }))
    (cases_eq x 13)) (cases_eq x 10)) (cases_eq x 92)) (cases_eq x 34)

then_assoc : (a b c : Ordering) → ordering_then (ordering_then a b) c ≡ ordering_then a (ordering_then b c)
then_assoc Less b c = refl
then_assoc Equal b c = refl
then_assoc Greater b c = refl

pub then_equal : (a : Ordering) → ordering_then a Equal ≡ a
then_equal Less = refl
then_equal Equal = refl
then_equal Greater = refl

nat_cmp-same : (x : ℕ) → nat_cmp x x ≡ Equal
nat_cmp-same x = grind (arith, nat_tests)

-- numbers that differ decide
apart : (x y : ℕ) → x ≢ y → (o : Ordering) → ordering_then (nat_cmp x y) o ≡ nat_cmp x y
apart x y n o = grind (arith, nat_tests)

pub same_byte : (x : ℕ) (s t : List ℕ) → bytes_cmp (escaped_byte x ++ s) (escaped_byte x ++ t) ≡ bytes_cmp s t
same_byte x s t = ⊎_elim
    (λ k. rw (k.is, nat_cmp-same x) refl)
    (λ k. rw (k.is, nat_cmp-same k.letter) refl)
    (kind x)

pub quote_first : (y : ℕ) (s t : List ℕ) → bytes_cmp (34 ∷ s) (escaped_byte y ++ t) ≡ nat_cmp 34 (slice_index (escaped_byte y) 0)
quote_first y s t = ⊎_elim
    (λ k. rw k.is (apart 34 y (λ e. k.not_quote (sym e)) (bytes_cmp s t)))
    (λ k. rw k.is refl)
    (kind y)

pub quote_second : (x : ℕ) (s t : List ℕ) → bytes_cmp (escaped_byte x ++ s) (34 ∷ t) ≡ nat_cmp (slice_index (escaped_byte x) 0) 34
quote_second x s t = ⊎_elim
    (λ k. rw k.is (apart x 34 k.not_quote (bytes_cmp s t)))
    (λ k. rw k.is refl)
    (kind x)

pub differ : (x y : ℕ) (s t : List ℕ) → x ≢ y → bytes_cmp (escaped_byte x ++ s) (escaped_byte y ++ t) ≡ bytes_cmp (escaped_byte x) (escaped_byte y)
differ x y s t n = ⊎_elim
    (λ k. ⊎_elim
    (λ m. rw (k.is, m.is) (apart x y n (bytes_cmp s t) ∙ sym (apart x y n Equal)))
    (λ m. rw (k.is, m.is) (apart x 92 k.not_backslash (bytes_cmp s (m.letter ∷ t)) ∙ sym (apart x 92 k.not_backslash (bytes_cmp [] (m.letter ∷ [])))))
    (kind y))
    (λ k. ⊎_elim
    (λ m.
    let other : 92 ≢ y = λ e. m.not_backslash (sym e) in
    rw (k.is, m.is) (apart 92 y other (bytes_cmp (k.letter ∷ s) t) ∙ sym (apart 92 y other (bytes_cmp (k.letter ∷ []) []))))
    (λ m.
    let other : k.letter ≢ m.letter = λ e. n (sym k.byte ∙ ap byte_of e ∙ m.byte) in
    rw (k.is, m.is) (apart k.letter m.letter other (bytes_cmp s t) ∙ sym (apart k.letter m.letter other Equal)))
    (kind y))
    (kind x)

pub longer : (s t : List ℕ) (x : ℕ) → bytes_cmp (s ++ x ∷ t) [] ≡ Greater
longer [] t x = refl
longer (y ∷ ys) t x = refl

pub shorter : (s t : List ℕ) (x : ℕ) → bytes_cmp [] (s ++ x ∷ t) ≡ Less
shorter [] t x = refl
shorter (y ∷ ys) t x = refl

-- fronts of one length decide first
fronts_then : (s t u v : List ℕ) → length s ≡ length t → bytes_cmp (s ++ u) (t ++ v) ≡ ordering_then (bytes_cmp s t) (bytes_cmp u v)
fronts_then [] [] u v h = refl
fronts_then [] (y ∷ ys) u v h = absurd (omega arith)
fronts_then (x ∷ xs) [] u v h = absurd (omega arith)
fronts_then (x ∷ xs) (y ∷ ys) u v h =
    ap (λ o. ordering_then (nat_cmp x y) o) (fronts_then xs ys u v (omega arith)) ∙ sym (then_assoc (nat_cmp x y) (bytes_cmp xs ys) (bytes_cmp u v))

not_tied : (o p : Ordering) → (o ≡ Equal → ⊥) → ordering_then o p ≡ o
not_tied Less p n = refl
not_tied Equal p n = absurd (n refl)
not_tied Greater p n = refl

-- two IRIs in parts, of which the first ones are of one length
module _ (a b s t u v : List ℕ) (first : a ≡ s ++ u) (second : b ≡ t ++ v) (h : length s ≡ length t) where
  parts_then : bytes_cmp (a ++ 62 ∷ []) (b ++ 62 ∷ []) ≡ ordering_then (bytes_cmp s t) (bytes_cmp (u ++ 62 ∷ []) (v ++ 62 ∷ []))
  parts_then = rw (first, second, append_assoc s u (62 ∷ []), append_assoc t v (62 ∷ [])) (fronts_then s t (u ++ 62 ∷ []) (v ++ 62 ∷ []) h)

  pub parts_tied : (o r : Ordering) → o ≡ bytes_cmp s t → o ≡ Equal → r ≡ bytes_cmp (u ++ 62 ∷ []) (v ++ 62 ∷ []) → r ≡ bytes_cmp (a ++ 62 ∷ []) (b ++ 62 ∷ [])
  parts_tied o r fronts tie ends = ends ∙ ap (λ p. ordering_then p (bytes_cmp (u ++ 62 ∷ []) (v ++ 62 ∷ []))) (sym tie ∙ fronts) ∙ sym parts_then

  pub parts_decided : (o : Ordering) → o ≡ bytes_cmp s t → (o ≡ Equal → ⊥) → o ≡ bytes_cmp (a ++ 62 ∷ []) (b ++ 62 ∷ [])
  parts_decided o fronts n = sym (not_tied o (bytes_cmp (u ++ 62 ∷ []) (v ++ 62 ∷ [])) n) ∙ ap (λ p. ordering_then p (bytes_cmp (u ++ 62 ∷ []) (v ++ 62 ∷ []))) fronts ∙ sym parts_then

-- the second IRI ends first
pub second_ends : (xs ys : List ℕ) (x : ℕ) → Some x ≡ slice_get xs 0 → min (length xs) (length ys) ≡ 0 → ordering_then (nat_cmp x 62) Greater ≡ bytes_cmp (xs ++ 62 ∷ []) (ys ++ 62 ∷ [])
second_ends [] ys x first h = cc
second_ends (z ∷ zs) [] x first h =
    let same : x ≡ z = cc in
    rw (same, longer zs [] 62) refl
second_ends (z ∷ zs) (y ∷ ys) x first h = absurd (omega arith)

-- numbers that differ decide what follows them, too
decided : (x y : ℕ) → x ≢ y → (o p q : Ordering) → ordering_then (nat_cmp x y) o ≡ ordering_then (ordering_then (nat_cmp x y) p) q
decided x y n o p q = apart x y n o ∙ sym (apart x y n q) ∙ ap (λ r. ordering_then r q) (sym (apart x y n p))

pub quoted_then : (a b u v : List ℕ) → bytes_cmp (escaped a ++ 34 ∷ u) (escaped b ++ 34 ∷ v) ≡ ordering_then (bytes_cmp (escaped a ++ 34 ∷ []) (escaped b ++ 34 ∷ [])) (bytes_cmp u v)
quoted_then [] [] u v = refl
quoted_then [] (y ∷ ys) u v = ⊎_elim
    (λ k. rw k.is (decided 34 y (λ e. k.not_quote (sym e)) _ _ _))
    (λ k. rw k.is refl)
    (kind y)
quoted_then (x ∷ xs) [] u v = ⊎_elim
    (λ k. rw k.is (decided x 34 k.not_quote _ _ _))
    (λ k. rw k.is refl)
    (kind x)
quoted_then (x ∷ xs) (y ∷ ys) u v =
    let rest = quoted_then xs ys u v in
    ⊎_elim
    (λ k. ⊎_elim
    (λ m. rw (k.is, m.is) (ap (λ o. ordering_then (nat_cmp x y) o) rest ∙ sym (then_assoc (nat_cmp x y) _ _)))
    (λ m. rw (k.is, m.is) (decided x 92 k.not_backslash _ _ _))
    (kind y))
    (λ k. ⊎_elim
    (λ m. rw (k.is, m.is) (decided 92 y (λ e. m.not_backslash (sym e)) _ _ _))
    (λ m. rw (k.is, m.is) (ap (λ o. ordering_then (nat_cmp k.letter m.letter) o) rest ∙ sym (then_assoc (nat_cmp k.letter m.letter) _ _)))
    (kind y))
    (kind x)
