-- Reading the content of a string finds exactly the strings of the grammar.
use Rattle.std.proofs.Common.{◌≡◌, ℕ, Bool, true, false, ◌&&◌, ◌==◌, cond, List, [], ◌∷◌, ◌++◌, Option, Some, None, option_map, ⊎_elim, refl, ap, subst, arith}
use lib.Utf8.{scalar}
use Rattle.std.proofs.lemmas.Bool.Decides.{nat_tests}
use Rattle.json_spell.specs.Text.{Char, short, unicode, surrogates, short_escape, code_unit, is_high_surrogate, is_low_surrogate, surrogate_pair, IsChar, spelled, code_point}
use Rattle.json_spell.specs.Reading.{low_half, unicode_at, escape_at}
use Rattle.json_spell.proofs.Opened.{some_is, bind_some, map_some, chosen, guarded}

-- an escape after its backslash, with the char that it spells
pub record Escape (s : List ℕ) (c : ℕ) (rest : List ℕ) : Type 0 where
  pub char : Char
  pub tail : List ℕ
  pub holds : IsChar char
  pub spells : spelled char ≡ 0x5C ∷ tail
  pub means : code_point char ≡ c
  pub is : s ≡ tail ++ rest

-- the second half of a surrogate pair
record LowHalf (high : ℕ) (s : List ℕ) (c : ℕ) (rest : List ℕ) : Type 0 where
  e : ℕ
  f : ℕ
  g : ℕ
  h : ℕ
  low : ℕ
  spells : code_unit e f g h ≡ Some low
  is_low : is_low_surrogate low ≡ true
  means : surrogate_pair high low ≡ c
  is : s ≡ 0x5C ∷ 0x75 ∷ e ∷ f ∷ g ∷ h ∷ rest

low_half-sound : (high : ℕ) (s : List ℕ) (c : ℕ) (r : List ℕ) → low_half high s ≡ Some (c, r) → LowHalf high s c r
unfolding low_half
low_half-sound high (x ∷ y ∷ e ∷ f ∷ g ∷ h ∷ s) c r is =
    let letters = guarded ((x == 0x5C) && (y == 0x75)) is in
    let v = bind_some (code_unit e f g h) _ letters.1 in
    let low = guarded (is_low_surrogate v.0) v.1.1 in
    let same = some_is low.1 in
    let x_is : x ≡ 0x5C = grind (arith, nat_tests, letters.0) in
    let y_is : y ≡ 0x75 = grind (arith, nat_tests, letters.0) in
    let rest_is : s ≡ r = ap (λ p. p.1) same in
    record { e = e; f = f; g = g; h = h; low = v.0; spells = v.1.0; is_low = low.0; means = ap (λ p. p.0) same; is = cc }
low_half-sound high s c r is = absurd cc

-- what the code unit after `\u` leads to
abbrev by_unit : List ℕ → ℕ → Option (ℕ × List ℕ)
by_unit s u = cond (is_high_surrogate u) (low_half u s) (cond (scalar u) (Some (u, s)) None)

unicode-sound : (s : List ℕ) (c : ℕ) (r : List ℕ) → unicode_at s ≡ Some (c, r) → Escape (0x75 ∷ s) c r
unfolding unicode_at
unicode-sound (a ∷ b ∷ c ∷ d ∷ s) m r is = ⊎_elim pair one (chosen (is_high_surrogate u.0) u.1.1)
  where
    u : (u : ℕ) × ((code_unit a b c d ≡ Some u) × (by_unit s u ≡ Some (m, r)))
    u = bind_some (code_unit a b c d) _ is

    pair : (is_high_surrogate u.0 ≡ true) × (low_half u.0 s ≡ Some (m, r)) → Escape (0x75 ∷ a ∷ b ∷ c ∷ d ∷ s) m r
    pair h =
        let low = low_half-sound u.0 s m r h.1 in
        record {
          char = surrogates a b c d u.0 low.e low.f low.g low.h low.low;
          tail = 0x75 ∷ a ∷ b ∷ c ∷ d ∷ 0x5C ∷ 0x75 ∷ low.e ∷ low.f ∷ low.g ∷ low.h ∷ [];
          holds = (u.1.0, h.0, low.spells, low.is_low);
          spells = refl;
          means = low.means;
          is = ap (λ q. 0x75 ∷ a ∷ b ∷ c ∷ d ∷ q) low.is;
        }

    one : (is_high_surrogate u.0 ≡ false) × (cond {A = Option (ℕ × List ℕ)} (scalar u.0) (Some (u.0, s)) None ≡ Some (m, r)) → Escape (0x75 ∷ a ∷ b ∷ c ∷ d ∷ s) m r
    one h =
        let g = guarded (scalar u.0) h.1 in
        let same = some_is g.1 in
        let rest_is : s ≡ r = ap (λ p. p.1) same in
        record {
          char = unicode a b c d u.0;
          tail = 0x75 ∷ a ∷ b ∷ c ∷ d ∷ [];
          holds = (u.1.0, g.0);
          spells = refl;
          means = ap (λ p. p.0) same;
          is = ap (λ q. 0x75 ∷ a ∷ b ∷ c ∷ d ∷ q) rest_is;
        }
unicode-sound s m r is = absurd cc

pub escape-sound : (s : List ℕ) (c : ℕ) (r : List ℕ) → escape_at s ≡ Some (c, r) → Escape s c r
unfolding escape_at
escape-sound [] c r is = absurd cc
escape-sound (x ∷ s) c r is = ⊎_elim hex letter (chosen (x == 0x75) is)
  where
    hex : ((x == 0x75) ≡ true) × (unicode_at s ≡ Some (c, r)) → Escape (x ∷ s) c r
    hex h = let x_is : 0x75 ≡ x = grind (arith, nat_tests, h.0) in subst (λ (y : ℕ). Escape (y ∷ s) c r) x_is (unicode-sound s c r h.1)

    letter : ((x == 0x75) ≡ false) × (option_map {U = ℕ × List ℕ} (λ m. (m, s)) (short_escape x) ≡ Some (c, r)) → Escape (x ∷ s) c r
    letter h =
        let m = map_some _ (short_escape x) h.1 in
        let rest_is : s ≡ r = ap (λ p. p.1) m.1.1 in
        record { char = short x m.0; tail = x ∷ []; holds = m.1.0; spells = refl; means = ap (λ p. p.0) m.1.1; is = ap (λ q. x ∷ q) rest_is }

-- the two surrogates and the characters between them
high-no_scalar : (u : ℕ) → scalar u ≡ true → is_high_surrogate u ≡ false
high-no_scalar u h = grind (arith, nat_tests)

-- a letter that stands for a character is not `u`
unicode-no_short : (c : ℕ) → short_escape 0x75 ≡ Some c → ⊥
unfolding short_escape
unicode-no_short c e = cc

short-no_unicode-at : (x c : ℕ) (b : Bool) → (x == 0x75) ≡ b → short_escape x ≡ Some c → (x == 0x75) ≡ false
short-no_unicode-at x c false e h = e
short-no_unicode-at x c true e h =
    let x_is : x ≡ 0x75 = grind (arith, nat_tests) in absurd (unicode-no_short c (subst (λ (y : ℕ). short_escape y ≡ Some c) x_is h))

short-no_unicode : (x c : ℕ) → short_escape x ≡ Some c → (x == 0x75) ≡ false
short-no_unicode x c h = short-no_unicode-at x c (x == 0x75) refl h

low_half-complete : (high e f g h low : ℕ) (r : List ℕ) → code_unit e f g h ≡ Some low → is_low_surrogate low ≡ true → low_half high (0x5C ∷ 0x75 ∷ e ∷ f ∷ g ∷ h ∷ r) ≡ Some (surrogate_pair high low, r)
unfolding low_half
low_half-complete high e f g h low r spells is_low = rw (spells, is_low) refl

pub short-complete : (x c : ℕ) (r : List ℕ) → IsChar (short x c) → escape_at (x ∷ r) ≡ Some (c, r)
unfolding escape_at
short-complete x c r h = rw (short-no_unicode x c h, h) refl

pub unicode-complete : (a b c d u : ℕ) (r : List ℕ) → IsChar (unicode a b c d u) → escape_at (0x75 ∷ a ∷ b ∷ c ∷ d ∷ r) ≡ Some (u, r)
unfolding escape_at unicode_at
unicode-complete a b c d u r h = rw (h.0, high-no_scalar u h.1, h.1) refl

pub surrogates-complete : (a b c d u e f g h v : ℕ) (r : List ℕ) → IsChar (surrogates a b c d u e f g h v) → escape_at (0x75 ∷ a ∷ b ∷ c ∷ d ∷ 0x5C ∷ 0x75 ∷ e ∷ f ∷ g ∷ h ∷ r) ≡ Some (surrogate_pair u v, r)
unfolding escape_at unicode_at
surrogates-complete a b c d u e f g h v r is = rw (is.0, is.1) (low_half-complete u e f g h v r is.2 is.3)
