-- What isn't deep nests at most 64 levels.
use Rattle.std.proofs.Common.{◌≡◌, ℕ, zero, suc, ◌+◌, Bool, true, false, ◌||◌, nat_lt, cond, List, [], ◌∷◌, ◌++◌, refl, sym, ap, subst, ◌∙◌, arith, append_assoc, append-nil}
use Rattle.std.proofs.lemmas.Bool.Decides.{nat_tests}
use Rattle.json_spell.specs.declared.deep.Position.TheVariants.{Outside}
use Rattle.json_spell.specs.Deep.{IsDeep, deep_from, position_after, is_opening, is_closing}
use Rattle.json_spell.specs.Tree.{Tree, null, boolean, number, string, array, object, Trees, no_trees, tree, Pairs, no_pairs, pair}
use Rattle.json_spell.specs.Text.{IsString}
use Rattle.json_spell.specs.Grammar.{Spaced, IsMember, IsValue, AreValues, AreMoreValues, AreMembers, AreMoreMembers, Reads}
use Rattle.json_spell.specs.Nesting.{Nests, AllNest, MembersNest}
use Rattle.json_spell.proofs.Depth.{deep}
use Rattle.json_spell.proofs.Shallow.{Passes, passes-byte, passes-string}
use Rattle.json_spell.proofs.Levels.{passes, ws-passes, spaced-passes, member-passes, value-passes}

-- where n levels are left and the scan finds nothing deep in what begins with the text, this holds
abbrev Shows : ℕ → List ℕ → Type 0 → Type 0
Shows n x G = (o c : ℕ) (r : List ℕ) → o + n ≡ c + 64 → deep_from Outside o c (x ++ r) ≡ false → G

shows-front : (n : ℕ) (x y : List ℕ) (G : Type 0) → Shows n x G → Shows n (x ++ y) G
shows-front n x y G front o c r left e = front o c (y ++ r) left (ap (deep_from Outside o c) (sym (append_assoc x y r)) ∙ e)

shows-behind : (n : ℕ) (x y : List ℕ) (G : Type 0) → Passes n x → Shows n y G → Shows n (x ++ y) G
shows-behind n x y G passes behind o c r left e =
    let p = passes o c (y ++ r) (omega (arith, left)) in
    behind p.opened p.closed r (omega (arith, p.same, left)) (sym p.is ∙ ap (deep_from Outside o c) (sym (append_assoc x y r)) ∙ e)

shows-both : (n : ℕ) (x y : List ℕ) (G H : Type 0) → Shows n x G → (G → Passes n x) → Shows n y H → Shows n (x ++ y) (G × H)
shows-both n x y G H front passes behind o c r left e =
    let g = shows-front n x y G front o c r left e in
    (g, shows-behind n x y H (passes g) behind o c r left e)

shows-spaced : (n : ℕ) (P : List ℕ → Type 0) (G : Type 0) → ((y : List ℕ) → P y → Shows n y G) → (x : List ℕ) → Spaced P x → Shows n x G
shows-spaced n P G part x h =
    subst (λ (q : List ℕ). Shows n q G) (sym h.is)
    (shows-behind n h.before (h.inside ++ h.after) G (ws-passes Passes passes n h.before h.ws_before) (shows-front n h.inside h.after G (part h.inside h.holds)))

shows-after : (n : ℕ) (a : ℕ) (x rest : List ℕ) (G : Type 0) → x ≡ a ∷ rest → Passes n (a ∷ []) → Shows n rest G → Shows n x G
shows-after n a x rest G is passes h = subst (λ (q : List ℕ). Shows n q G) (sym is) (shows-behind n (a ∷ []) rest G passes h)

neither : (a b : Bool) → (a || b) ≡ false → (a ≡ false) × (b ≡ false)
neither true b e = absurd cc
neither false b e = (refl, e)

step-low : (x o c : ℕ) (r : List ℕ) → deep_from Outside o c (x ∷ r) ≡ false
    → (nat_lt (c + cond (is_closing x) 1 0 + 64) (o + cond (is_opening x) 1 0) ≡ false) × (deep_from (position_after Outside x) (o + cond (is_opening x) 1 0) (c + cond (is_closing x) 1 0) r ≡ false)
unfolding deep_from
step-low x o c r e = neither _ _ e

-- where a bracket opens, a level is left, and behind it one less
bracket-none : (x o c : ℕ) (r : List ℕ) → ◌≡◌ {A = ℕ} (cond (is_opening x) 1 0) 1 → ◌≡◌ {A = ℕ} (cond (is_closing x) 1 0) 0
    → o ≡ c + 64 → deep_from Outside o c (x ∷ r) ≡ false → ⊥
bracket-none x o c r opens closes left e =
    let low = (step-low x o c r e).0 in
    grind (arith, nat_tests, opens, closes, left, low)

shows-bracket : (x n : ℕ) (inside rest : List ℕ) (G : Type 0) → position_after Outside x ≡ Outside → ◌≡◌ {A = ℕ} (cond (is_opening x) 1 0) 1 → ◌≡◌ {A = ℕ} (cond (is_closing x) 1 0) 0
    → Shows n inside G → Shows (suc n) (x ∷ (inside ++ rest)) G
shows-bracket x n inside rest G stays opens closes h o c r left e =
    let low = (step-low x o c ((inside ++ rest) ++ r) e).1 in
    shows-front n inside rest G h (o + cond (is_opening x) 1 0) (c + cond (is_closing x) 1 0) r (omega (arith, opens, closes, left))
    (ap (λ p. deep_from p (o + cond (is_opening x) 1 0) (c + cond (is_closing x) 1 0) ((inside ++ rest) ++ r)) (sym stays) ∙ low)

spaced-value-passes : (n : ℕ) (t : Tree) (x : List ℕ) → Spaced (IsValue t) x → Nests n t → Passes n x
spaced-value-passes n t x h nests = spaced-passes Passes passes n (IsValue t) (λ y i. value-passes Passes passes n t y nests i) x h

-- a name, its colon and then a value
member-shows : (n : ℕ) (k : List ℕ) (t : Tree) → ((y : List ℕ) → IsValue t y → Shows n y (Nests n t)) → (x : List ℕ) → IsMember k (IsValue t) x → Shows n x (Nests n t)
member-shows n k t value x h =
    subst (λ (q : List ℕ). Shows n q (Nests n t)) (sym h.is)
    (shows-behind n h.first h.second (Nests n t) (spaced-passes Passes passes n (IsString k) (passes-string n k) h.first h.holds)
    (shows-after n 0x3A h.second h.then_holds.rest (Nests n t) h.then_holds.is (passes-byte n 0x3A refl) (shows-spaced n (IsValue t) (Nests n t) value h.then_holds.rest h.then_holds.holds)))

mutual
  value-shows : (n : ℕ) (t : Tree) (x : List ℕ) → IsValue t x → Shows n x (Nests n t)
  value-shows n null x h = λ o c r left e. tt
  value-shows n (boolean b) x h = λ o c r left e. tt
  value-shows n (number s) x h = λ o c r left e. tt
  value-shows n (string m) x h = λ o c r left e. tt
  value-shows zero (array ts) x h = λ o c r left e.
      bracket-none 0x5B o c ((h.inside ++ 0x5D ∷ []) ++ r) refl refl (omega (arith, left)) (ap (λ q. deep_from Outside o c (q ++ r)) (sym h.is) ∙ e)
  value-shows (suc n) (array ts) x h =
      subst (λ (q : List ℕ). Shows (suc n) q (AllNest n ts)) (sym h.is) (shows-bracket 0x5B n h.inside (0x5D ∷ []) (AllNest n ts) refl refl refl (values-show n ts h.inside h.holds))
  value-shows zero (object ps) x h = λ o c r left e.
      bracket-none 0x7B o c ((h.inside ++ 0x7D ∷ []) ++ r) refl refl (omega (arith, left)) (ap (λ q. deep_from Outside o c (q ++ r)) (sym h.is) ∙ e)
  value-shows (suc n) (object ps) x h =
      subst (λ (q : List ℕ). Shows (suc n) q (MembersNest n ps)) (sym h.is) (shows-bracket 0x7B n h.inside (0x7D ∷ []) (MembersNest n ps) refl refl refl (members-show n ps h.inside h.holds))

  values-show : (n : ℕ) (ts : Trees) (x : List ℕ) → AreValues ts x → Shows n x (AllNest n ts)
  values-show n no_trees x h = λ o c r left e. tt
  values-show n (tree t ts) x h =
      subst (λ (q : List ℕ). Shows n q (AllNest n (tree t ts))) (sym h.is)
      (shows-both n h.first h.second (Nests n t) (AllNest n ts) (shows-spaced n (IsValue t) (Nests n t) (λ y i. value-shows n t y i) h.first h.holds)
      (spaced-value-passes n t h.first h.holds) (more_values-show n ts h.second h.then_holds))

  more_values-show : (n : ℕ) (ts : Trees) (x : List ℕ) → AreMoreValues ts x → Shows n x (AllNest n ts)
  more_values-show n no_trees x h = λ o c r left e. tt
  more_values-show n (tree t ts) x h =
      let i = h.holds in
      shows-after n 0x2C x h.rest (AllNest n (tree t ts)) h.is (passes-byte n 0x2C refl)
      (subst (λ (q : List ℕ). Shows n q (AllNest n (tree t ts))) (sym i.is)
      (shows-both n i.first i.second (Nests n t) (AllNest n ts) (shows-spaced n (IsValue t) (Nests n t) (λ y j. value-shows n t y j) i.first i.holds)
      (spaced-value-passes n t i.first i.holds) (more_values-show n ts i.second i.then_holds)))

  members-show : (n : ℕ) (ps : Pairs) (x : List ℕ) → AreMembers ps x → Shows n x (MembersNest n ps)
  members-show n no_pairs x h = λ o c r left e. tt
  members-show n (pair k t ps) x h =
      subst (λ (q : List ℕ). Shows n q (MembersNest n (pair k t ps))) (sym h.is)
      (shows-both n h.first h.second (Nests n t) (MembersNest n ps) (member-shows n k t (λ y i. value-shows n t y i) h.first h.holds)
      (λ nests. member-passes Passes passes n k t (λ y i. value-passes Passes passes n t y nests i) h.first h.holds) (more_members-show n ps h.second h.then_holds))

  more_members-show : (n : ℕ) (ps : Pairs) (x : List ℕ) → AreMoreMembers ps x → Shows n x (MembersNest n ps)
  more_members-show n no_pairs x h = λ o c r left e. tt
  more_members-show n (pair k t ps) x h =
      let i = h.holds in
      shows-after n 0x2C x h.rest (MembersNest n (pair k t ps)) h.is (passes-byte n 0x2C refl)
      (subst (λ (q : List ℕ). Shows n q (MembersNest n (pair k t ps))) (sym i.is)
      (shows-both n i.first i.second (Nests n t) (MembersNest n ps) (member-shows n k t (λ y j. value-shows n t y j) i.first i.holds)
      (λ nests. member-passes Passes passes n k t (λ y j. value-passes Passes passes n t y nests j) i.first i.holds) (more_members-show n ps i.second i.then_holds)))

not_deep : (bytes : List ℕ) (b : Bool) → deep_from Outside 0 0 bytes ≡ b → ¬ (IsDeep bytes) → deep_from Outside 0 0 bytes ≡ false
not_deep bytes true e low = absurd (low (deep bytes e))
not_deep bytes false e low = e

pub low_nests : (bytes : List ℕ) (t : Tree) → Reads bytes t → ¬ (IsDeep bytes) → Nests 64 t
low_nests bytes t h low =
    shows-spaced 64 (IsValue t) (Nests 64 t) (λ y i. value-shows 64 t y i) bytes h 0 0 [] refl
    (ap (deep_from Outside 0 0) (append-nil bytes) ∙ not_deep bytes (deep_from Outside 0 0 bytes) refl low)
