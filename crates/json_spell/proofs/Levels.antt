-- What nests at most 64 levels isn't deep.
use Rattle.std.proofs.Common.{◌≡◌, ℕ, zero, suc, Bool, true, false, List, [], ◌∷◌, ◌++◌, ⊎_elim, refl, sym, ap, subst, ◌∙◌, arith}
use Rattle.std.specs.Char.{is_ascii_digit}
use Rattle.std.proofs.lemmas.List.{append-nil}
use Rattle.std.proofs.lemmas.Bool.Decides.{nat_tests}
use Rattle.json_spell.specs.declared.deep.Position.TheVariants.{Outside}
use Rattle.json_spell.specs.Deep.{IsDeep, deep_from}
use Rattle.json_spell.specs.Tree.{Tree, null, boolean, number, string, array, object, Trees, no_trees, tree, Pairs, no_pairs, pair}
use Rattle.json_spell.specs.Number.{EachPasses, is_digit1_9, is_minus, is_sign, is_point, is_e, AreDigits, IsOptional, IsInt, IsFrac, IsExp, IsNumber}
use Rattle.json_spell.specs.Text.{IsString}
use Rattle.json_spell.specs.Grammar.{is_ws, IsWs, Spaced, Then, After, IsMember, IsValue, AreValues, AreMoreValues, AreMembers, AreMoreMembers, Reads, null_name, true_name, false_name}
use Rattle.json_spell.specs.Nesting.{Nests, AllNest, MembersNest}
use Rattle.json_spell.proofs.Depth.{shallow}
use Rattle.json_spell.proofs.Shallow.{Passes, calm, passes-none, passes-append, passes-byte, passes-brackets, passes-string}

ws-calm : (x : ℕ) → is_ws x ≡ true → calm x ≡ true
ws-calm x h = grind (arith, nat_tests)

digit-calm : (x : ℕ) → is_ascii_digit x ≡ true → calm x ≡ true
digit-calm x h = grind (arith, nat_tests)

digit1_9-calm : (x : ℕ) → is_digit1_9 x ≡ true → calm x ≡ true
digit1_9-calm x h = grind (arith, nat_tests)

sign-calm : (x : ℕ) → is_sign x ≡ true → calm x ≡ true
sign-calm x h = grind (arith, nat_tests)

minus-calm : (x : ℕ) → is_minus x ≡ true → calm x ≡ true
minus-calm x h = grind (arith, nat_tests)

point-calm : (x : ℕ) → is_point x ≡ true → calm x ≡ true
point-calm x h = grind (arith, nat_tests)

e-calm : (x : ℕ) → is_e x ≡ true → calm x ≡ true
e-calm x h = grind (arith, nat_tests)

-- what goes over a text byte by byte: over nothing, two texts, a byte outside of strings, a string, and brackets with one level more in them
pub record Walks (P : ℕ → List ℕ → Type 0) : Type 0 where
  pub none : (n : ℕ) → P n []
  pub append : (n : ℕ) (x y : List ℕ) → P n x → P n y → P n (x ++ y)
  pub byte : (n x : ℕ) → calm x ≡ true → P n (x ∷ [])
  pub string : (n : ℕ) (m x : List ℕ) → IsString m x → P n x
  pub array : (n : ℕ) (x : List ℕ) → P n x → P (suc n) (0x5B ∷ (x ++ 0x5D ∷ []))
  pub object : (n : ℕ) (x : List ℕ) → P n x → P (suc n) (0x7B ∷ (x ++ 0x7D ∷ []))

-- goes over each value
module _ (Over : ℕ → List ℕ → Type 0) (by : Walks Over) where
  each-passes : (test : ℕ → Bool) → ((x : ℕ) → test x ≡ true → calm x ≡ true) → (n : ℕ) (xs : List ℕ) → EachPasses test xs → Over n xs
  each-passes test quiet n [] h = by.none n
  each-passes test quiet n (x ∷ xs) h = by.append n (x ∷ []) xs (by.byte n x (quiet x h.0)) (each-passes test quiet n xs h.1)

  pub ws-passes : (n : ℕ) (xs : List ℕ) → IsWs xs → Over n xs
  ws-passes n xs h = each-passes is_ws ws-calm n xs h

  first-passes : (n x : ℕ) (xs : List ℕ) → calm x ≡ true → Over n xs → Over n (x ∷ xs)
  first-passes n x xs quiet h = by.append n (x ∷ []) xs (by.byte n x quiet) h

  digits-passes : (n : ℕ) (xs : List ℕ) → AreDigits xs → Over n xs
  digits-passes n [] h = absurd h
  digits-passes n (x ∷ xs) h = each-passes is_ascii_digit digit-calm n (x ∷ xs) h

  optional-passes : (test : ℕ → Bool) → ((x : ℕ) → test x ≡ true → calm x ≡ true) → (n : ℕ) (xs : List ℕ) → IsOptional test xs → Over n xs
  optional-passes test quiet n [] h = by.none n
  optional-passes test quiet n (x ∷ xs) h = first-passes n x xs (quiet x h.0) (subst (λ (q : List ℕ). Over n q) (sym h.1) (by.none n))

  int-passes : (n : ℕ) (xs : List ℕ) → IsInt xs → Over n xs
  int-passes n [] h = absurd h
  int-passes n (x ∷ xs) h = ⊎_elim
      (λ z. subst (λ (q : List ℕ). Over n q) (ap (λ q. q ∷ xs) (sym z.0) ∙ refl) (first-passes n 0x30 xs refl (subst (λ (q : List ℕ). Over n q) (sym z.1) (by.none n))))
      (λ d. first-passes n x xs (digit1_9-calm x d.0) (each-passes is_ascii_digit digit-calm n xs d.1)) h

  frac-passes : (n : ℕ) (xs : List ℕ) → IsFrac xs → Over n xs
  frac-passes n [] h = by.none n
  frac-passes n (x ∷ xs) h = first-passes n x xs (point-calm x h.0) (digits-passes n xs h.1)

  exp-passes : (n : ℕ) (xs : List ℕ) → IsExp xs → Over n xs
  exp-passes n [] h = by.none n
  exp-passes n (x ∷ xs) h =
      let d = h.1 in
      first-passes n x xs (e-calm x h.0) (subst (λ (q : List ℕ). Over n q) (sym d.is) (by.append n d.sign d.digits (optional-passes is_sign sign-calm n d.sign d.optional_sign) (digits-passes n d.digits d.are_digits)))

  number-passes : (n : ℕ) (x : List ℕ) → IsNumber x → Over n x
  number-passes n x h =
      subst (λ (q : List ℕ). Over n q) (sym h.is)
      (by.append n h.minus (h.int ++ (h.frac ++ h.exp)) (optional-passes is_minus minus-calm n h.minus h.optional_minus)
      (by.append n h.int (h.frac ++ h.exp) (int-passes n h.int h.int_holds)
      (by.append n h.frac h.exp (frac-passes n h.frac h.frac_holds) (exp-passes n h.exp h.exp_holds))))

  -- texts of texts
  pub spaced-passes : (n : ℕ) (P : List ℕ → Type 0) → ((y : List ℕ) → P y → Over n y) → (x : List ℕ) → Spaced P x → Over n x
  spaced-passes n P part x h =
      subst (λ (q : List ℕ). Over n q) (sym h.is)
      (by.append n h.before (h.inside ++ h.after) (ws-passes n h.before h.ws_before) (by.append n h.inside h.after (part h.inside h.holds) (ws-passes n h.after h.ws_after)))

  then-passes : (n : ℕ) (P Q : List ℕ → Type 0) → ((y : List ℕ) → P y → Over n y) → ((y : List ℕ) → Q y → Over n y) → (x : List ℕ) → Then P Q x → Over n x
  then-passes n P Q front behind x h = subst (λ (q : List ℕ). Over n q) (sym h.is) (by.append n h.first h.second (front h.first h.holds) (behind h.second h.then_holds))

  after-passes : (n a : ℕ) (P : List ℕ → Type 0) → calm a ≡ true → ((y : List ℕ) → P y → Over n y) → (x : List ℕ) → After a P x → Over n x
  after-passes n a P quiet part x h = subst (λ (q : List ℕ). Over n q) (sym h.is) (first-passes n a h.rest quiet (part h.rest h.holds))

  pub member-passes : (n : ℕ) (k : List ℕ) (t : Tree) → ((y : List ℕ) → IsValue t y → Over n y) → (x : List ℕ) → IsMember k (IsValue t) x → Over n x
  member-passes n k t value =
      then-passes n (Spaced (IsString k)) (After 0x3A (Spaced (IsValue t))) (spaced-passes n (IsString k) (by.string n k))
      (after-passes n 0x3A (Spaced (IsValue t)) refl (spaced-passes n (IsValue t) value))

  null-passes : (n : ℕ) → Over n null_name
  null-passes n = each-passes calm (λ x h. h) n null_name (refl, (refl, (refl, (refl, tt))))

  true-passes : (n : ℕ) → Over n true_name
  true-passes n = each-passes calm (λ x h. h) n true_name (refl, (refl, (refl, (refl, tt))))

  false-passes : (n : ℕ) → Over n false_name
  false-passes n = each-passes calm (λ x h. h) n false_name (refl, (refl, (refl, (refl, (refl, tt)))))

  mutual
    pub value-passes : (n : ℕ) (t : Tree) (x : List ℕ) → Nests n t → IsValue t x → Over n x
    value-passes n null x d h = subst (λ (q : List ℕ). Over n q) (sym h) (null-passes n)
    value-passes n (boolean true) x d h = subst (λ (q : List ℕ). Over n q) (sym h) (true-passes n)
    value-passes n (boolean false) x d h = subst (λ (q : List ℕ). Over n q) (sym h) (false-passes n)
    value-passes n (number s) x d h = number-passes n x h.1
    value-passes n (string m) x d h = by.string n m x h
    value-passes zero (array ts) x d h = absurd d
    value-passes (suc n) (array ts) x d h =
        subst (λ (q : List ℕ). Over (suc n) q) (sym h.is) (by.array n h.inside (values-pass n ts h.inside d h.holds))
    value-passes zero (object ps) x d h = absurd d
    value-passes (suc n) (object ps) x d h =
        subst (λ (q : List ℕ). Over (suc n) q) (sym h.is) (by.object n h.inside (members-pass n ps h.inside d h.holds))

    pub values-pass : (n : ℕ) (ts : Trees) (x : List ℕ) → AllNest n ts → AreValues ts x → Over n x
    values-pass n no_trees x d h = ws-passes n x h
    values-pass n (tree t ts) x d h =
        then-passes n (Spaced (IsValue t)) (AreMoreValues ts) (spaced-passes n (IsValue t) (λ y i. value-passes n t y d.0 i)) (λ y i. more_values-pass n ts y d.1 i) x h

    more_values-pass : (n : ℕ) (ts : Trees) (x : List ℕ) → AllNest n ts → AreMoreValues ts x → Over n x
    more_values-pass n no_trees x d h = subst (λ (q : List ℕ). Over n q) (sym h) (by.none n)
    more_values-pass n (tree t ts) x d h =
        after-passes n 0x2C (Then (Spaced (IsValue t)) (AreMoreValues ts)) refl
        (then-passes n (Spaced (IsValue t)) (AreMoreValues ts) (spaced-passes n (IsValue t) (λ y i. value-passes n t y d.0 i)) (λ y i. more_values-pass n ts y d.1 i)) x h

    pub members-pass : (n : ℕ) (ps : Pairs) (x : List ℕ) → MembersNest n ps → AreMembers ps x → Over n x
    members-pass n no_pairs x d h = ws-passes n x h
    members-pass n (pair k t ps) x d h =
        then-passes n (IsMember k (IsValue t)) (AreMoreMembers ps) (member-passes n k t (λ y i. value-passes n t y d.0 i)) (λ y i. more_members-pass n ps y d.1 i) x h

    more_members-pass : (n : ℕ) (ps : Pairs) (x : List ℕ) → MembersNest n ps → AreMoreMembers ps x → Over n x
    more_members-pass n no_pairs x d h = subst (λ (q : List ℕ). Over n q) (sym h) (by.none n)
    more_members-pass n (pair k t ps) x d h =
        after-passes n 0x2C (Then (IsMember k (IsValue t)) (AreMoreMembers ps)) refl
        (then-passes n (IsMember k (IsValue t)) (AreMoreMembers ps) (member-passes n k t (λ y i. value-passes n t y d.0 i)) (λ y i. more_members-pass n ps y d.1 i)) x h

-- the scan for deep texts does
pub passes : Walks Passes
passes =
    record {
      none = passes-none;
      append = passes-append;
      byte = passes-byte;
      string = passes-string;
      array = λ n x. passes-brackets 0x5B 0x5D n x refl refl refl refl refl refl;
      object = λ n x. passes-brackets 0x7B 0x7D n x refl refl refl refl refl refl;
    }

none-deep : (o c : ℕ) → deep_from Outside o c [] ≡ false
unfolding deep_from
none-deep o c = refl

pub reads_low : (bytes : List ℕ) (t : Tree) → Reads bytes t → Nests 64 t → ¬ (IsDeep bytes)
reads_low bytes t h nests =
    let p = spaced-passes Passes passes 64 (IsValue t) (λ y i. value-passes Passes passes 64 t y nests i) bytes h 0 0 [] (omega arith) in
    shallow bytes (ap (deep_from Outside 0 0) (sym (append-nil bytes)) ∙ p.is ∙ none-deep p.opened p.closed)
