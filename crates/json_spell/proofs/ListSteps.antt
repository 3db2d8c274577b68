-- What each step over a part makes of the parts that were read before it.
use Rattle.std.proofs.Common.{◌≡◌, ℕ, Bool, true, false, cond, ◌==◌, List, [], ◌∷◌, ◌++◌, Option, Some, None, option_map, Bor, refl, sym, ap, ◌∙◌}
use Rattle.json_spell.specs.Grammar.{is_ws}
use Rattle.json_spell.specs.Reading.{Parse, read_map, ◌>>=◌, skip, after_byte, after_part, ending_at, parts_by, closed, list_by}

-- parts in front of a list
abbrev pub onto : {A L : Type 0} → (A → L → L) → List A → L → L
onto cons [] l = l
onto cons (a ∷ xs) l = cons a (onto cons xs l)

onto-push : {A L : Type 0} (cons : A → L → L) (xs : List A) (a : A) (l : L) → onto cons (xs ++ a ∷ []) l ≡ onto cons xs (cons a l)
onto-push cons [] a l = refl
onto-push cons (b ∷ xs) a l = ap (cons b) (onto-push cons xs a l)

read_map-twice : {A L : Type 0} (cons : A → L → L) (xs : List A) (a : A) (o : Option (L × List ℕ)) → read_map (onto cons (xs ++ a ∷ [])) o ≡ read_map (onto cons xs) (read_map (cons a) o)
read_map-twice cons xs a None = refl
read_map-twice cons xs a (Some p) = ap (λ l. Some (l, p.1)) (onto-push cons xs a p.0)

-- a list that does not close at once
pub list_by-open : {L : Type 0} (none : L) (close : ℕ) (more : Parse L) (s left : List ℕ) {r : Option (Bor (List ℕ))} → left ≡ skip is_ws s → option_map (λ rest. rest.now) r ≡ after_byte close left → r ≡ None
    → list_by none close more s ≡ more s
list_by-open none close more s left left_is e r_is =
    let no_close : after_byte close (skip is_ws s) ≡ None = ap (after_byte close) (sym left_is) ∙ sym e ∙ ap (option_map (λ rest. rest.now)) r_is in
    ap (closed none (more s)) no_close

-- the same before any part of it is read
nothing-read : {A L : Type 0} (cons : A → L → L) (o : Option (L × List ℕ)) → o ≡ read_map (onto cons []) o
nothing-read cons None = refl
nothing-read cons (Some p) = refl

pub list-start : {A L : Type 0} (cons : A → L → L) (none : L) (close : ℕ) (more : Parse L) (xs : List A) (s left : List ℕ) {r : Option (Bor (List ℕ))}
    → xs ≡ [] → left ≡ skip is_ws s → option_map (λ rest. rest.now) r ≡ after_byte close left → r ≡ None → list_by none close more s ≡ read_map (onto cons xs) (more s)
list-start cons none close more xs s left xs_is left_is e r_is =
    list_by-open none close more s left left_is e r_is ∙ nothing-read cons (more s) ∙ ap (λ ys. read_map (onto cons ys) (more s)) (sym xs_is)

module _ {A L : Type 0} (part : Parse A) (cons : A → L → L) (none : L) (close : ℕ) (at : Parse L) (at-is : (s : List ℕ) → at s ≡ parts_by part cons none close at s) where
  -- what a part leads to
  behind : (s : List ℕ) (a : A) (r : List ℕ) → part s ≡ Some (a, r) → at s ≡ after_part cons none close at a r
  behind s a r e = at-is s ∙ ap (λ o. o >>= λ p. after_part cons none close at p.0 p.1) e

  -- the closing bracket follows it
  pub so-closed : (xs : List A) (s whole : List ℕ) (a : A) (r : List ℕ) (x : ℕ) (q : List ℕ) → read_map (onto cons xs) (at s) ≡ at whole → part s ≡ Some (a, r) → r ≡ x ∷ q
      → (x == 0x2C) ≡ false → (x == close) ≡ true → at whole ≡ Some (onto cons (xs ++ a ∷ []) none, q)
  so-closed xs s whole a r x q same e r_is no_separator is_close =
      let there : after_part cons none close at a (x ∷ q) ≡ Some (cons a none, q) = rw (no_separator, is_close) refl in
      sym same ∙ ap (read_map (onto cons xs)) (behind s a r e ∙ ap (after_part cons none close at a) r_is ∙ there) ∙ ap (λ l. Some (l, q)) (sym (onto-push cons xs a none))

  -- a separator follows it
  pub so-more : (xs : List A) (s whole : List ℕ) (a : A) (r : List ℕ) (x : ℕ) (q : List ℕ) → read_map (onto cons xs) (at s) ≡ at whole → part s ≡ Some (a, r) → r ≡ x ∷ q
      → (x == 0x2C) ≡ true → read_map (onto cons (xs ++ a ∷ [])) (at q) ≡ at whole
  so-more xs s whole a r x q same e r_is is_separator =
      let there : after_part cons none close at a (x ∷ q) ≡ read_map (cons a) (at q) = rw is_separator refl in
      read_map-twice cons xs a (at q) ∙ ap (read_map (onto cons xs)) (sym (behind s a r e ∙ ap (after_part cons none close at a) r_is ∙ there)) ∙ same

  -- what a part leads to, by what stands behind it
  by_tests : (a : A) (q : List ℕ) (b c : Bool) → cond {A = Option (L × List ℕ)} b (read_map (cons a) (at q)) (cond c (Some (cons a none, q)) None)
      ≡ (cond {A = Option (Bool × List ℕ)} b (Some (true, q)) (cond c (Some (false, q)) None) >>= λ e. cond e.0 (read_map (cons a) (at e.1)) (Some (cons a none, e.1)))
  by_tests a q true c = refl
  by_tests a q false true = refl
  by_tests a q false false = refl

  by_ending : (a : A) (r : List ℕ) → after_part cons none close at a r ≡ (ending_at close r >>= λ e. cond e.0 (read_map (cons a) (at e.1)) (Some (cons a none, e.1)))
  by_ending a [] = refl
  by_ending a (x ∷ q) = by_tests a q (x == 0x2C) (x == close)

  part_then : (s : List ℕ) (a : A) (r : List ℕ) (o : Option (Bool × List ℕ)) → part s ≡ Some (a, r) → ending_at close r ≡ o
      → at s ≡ (o >>= λ e. cond e.0 (read_map (cons a) (at e.1)) (Some (cons a none, e.1)))
  part_then s a r o e is = behind s a r e ∙ by_ending a r ∙ ap (λ o. o >>= λ e. cond e.0 (read_map (cons a) (at e.1)) (Some (cons a none, e.1))) is

  -- the same of a list, of which some parts were read: there is no further part, nothing ends it, it ends there, or another one follows
  pub list-no_part : (xs : List A) (s : List ℕ) (list : Option (L × List ℕ)) → list ≡ read_map (onto cons xs) (at s) → part s ≡ None → list ≡ None
  list-no_part xs s list same e = same ∙ ap (read_map (onto cons xs)) (at-is s ∙ ap (λ o. o >>= λ p. after_part cons none close at p.0 p.1) e)

  pub list-no_end : (xs : List A) (s : List ℕ) (a : A) (r : List ℕ) (list : Option (L × List ℕ)) → list ≡ read_map (onto cons xs) (at s) → part s ≡ Some (a, r)
      → ending_at close r ≡ None → list ≡ None
  list-no_end xs s a r list same e is = same ∙ ap (read_map (onto cons xs)) (part_then s a r None e is)

  pub list-end : (xs ys : List A) (s : List ℕ) (a : A) (r q : List ℕ) (list : Option (L × List ℕ)) → list ≡ read_map (onto cons xs) (at s) → part s ≡ Some (a, r)
      → ending_at close r ≡ Some (false, q) → ys ≡ xs ++ a ∷ [] → list ≡ Some (onto cons ys none, q)
  list-end xs ys s a r q list same e is ys_is =
      same ∙ ap (read_map (onto cons xs)) (part_then s a r (Some (false, q)) e is) ∙ ap (λ l. Some (l, q)) (sym (onto-push cons xs a none) ∙ ap (λ zs. onto cons zs none) (sym ys_is))

  pub list-more : (xs ys : List A) (s : List ℕ) (a : A) (r q : List ℕ) (list : Option (L × List ℕ)) → list ≡ read_map (onto cons xs) (at s) → part s ≡ Some (a, r)
      → ending_at close r ≡ Some (true, q) → ys ≡ xs ++ a ∷ [] → list ≡ read_map (onto cons ys) (at q)
  list-more xs ys s a r q list same e is ys_is =
      same ∙ ap (read_map (onto cons xs)) (part_then s a r (Some (true, q)) e is) ∙ sym (read_map-twice cons xs a (at q)) ∙ ap (λ zs. read_map (onto cons zs) (at q)) (sym ys_is)
