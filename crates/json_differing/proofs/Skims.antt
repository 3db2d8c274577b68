-- The scan of brackets passes over each value.
use Rattle.std.proofs.Common.{◌≡◌, ℕ, zero, suc, ◌+◌, ◌-◌, ◌==◌, Bool, true, false, ◌||◌, cond, List, [], ◌∷◌, ◌++◌, drop, Some, refl, sym, ap, subst, ◌∙◌, arith, append_assoc}
use Rattle.std.proofs.lemmas.Bool.Decides.{nat_tests}
use Rattle.json_spell.specs.declared.deep.Position.TheVariants.{Outside, Inside}
use Rattle.json_spell.specs.Deep.{position_after, is_opening, is_closing}
use Rattle.json_differing.specs.Brackets.{past_from, is_inner}
use Rattle.json_spell.specs.Closed.{ends_itself}
use Rattle.json_spell.specs.Tree.{Tree, array, object, Trees, no_trees, Pairs, no_pairs}
use Rattle.json_spell.specs.Text.{is_unescaped, all_spelled, IsString}
use Rattle.json_spell.specs.Grammar.{IsValue}
use Rattle.json_spell.specs.Nesting.{Nests}
use Rattle.json_spell.specs.Reading.{after_byte, before, list_by, members_at, skip, value_at, values_at}
use Rattle.json_spell.proofs.Complete.{value_span}
use Rattle.json_spell.proofs.Lists.{after_byte-sound}
use Rattle.json_spell.proofs.Opened.{map_some, some_is}
use Rattle.json_spell.proofs.Levels.{Walks, members-pass, values-pass}
use Rattle.json_spell.proofs.Shallow.{calm, inside-chars, none-of}
use Rattle.json_spell.proofs.ValueSteps.{value_at-array, value_at-object}

-- behind the text, with as many brackets open as before it
abbrev pub Skims : ℕ → List ℕ → Type 0
Skims n x = (o : ℕ) (r : List ℕ) → past_from Outside (suc o) (x ++ r) ≡ past_from Outside (suc o) r

-- one byte outside of strings
step : (x o : ℕ) (r : List ℕ) → is_closing x ≡ false → past_from Outside o (x ∷ r) ≡ past_from (position_after Outside x) (o + cond (is_opening x) 1 0) r
unfolding past_from
step x o r e = rw e refl

skims-byte : (n x : ℕ) → calm x ≡ true → Skims n (x ∷ [])
skims-byte n x quiet o r =
    let no = none-of (x == 0x22) (is_opening x) (is_closing x) quiet in
    let opens : ◌≡◌ {A = ℕ} (cond (is_opening x) 1 0) 0 = rw (no.1) refl in
    let stays : position_after Outside x ≡ Outside = rw (no.0) refl in
    let same : suc o + cond (is_opening x) 1 0 ≡ suc o = omega (arith, opens) in
    step x (suc o) r no.2 ∙ ap (λ p. past_from p (suc o + cond (is_opening x) 1 0) r) stays ∙ ap (λ k. past_from Outside k r) same

-- brackets with a text in them
closes-one : (b o : ℕ) (r : List ℕ) → is_closing b ≡ true → past_from Outside (suc (suc o)) (b ∷ r) ≡ past_from Outside (suc o) r
unfolding past_from
closes-one b o r e =
    let more : (suc (suc o) == 1) ≡ false = grind (arith, nat_tests) in
    let less : suc (suc o) - 1 ≡ suc o = omega arith in
    rw (e, more) (ap (λ k. past_from Outside k r) less)

skims-brackets : (a b n : ℕ) (x : List ℕ) → is_closing a ≡ false → position_after Outside a ≡ Outside → ◌≡◌ {A = ℕ} (cond (is_opening a) 1 0) 1 → is_closing b ≡ true → Skims n x → Skims (suc n) (a ∷ (x ++ b ∷ []))
skims-brackets a b n x no_close stays opens closes inside o r =
    let more : suc o + cond (is_opening a) 1 0 ≡ suc (suc o) = omega (arith, opens) in
    step a (suc o) ((x ++ b ∷ []) ++ r) no_close
    ∙ ap (λ p. past_from p (suc o + cond (is_opening a) 1 0) ((x ++ b ∷ []) ++ r)) stays
    ∙ ap (λ k. past_from Outside k ((x ++ b ∷ []) ++ r)) more
    ∙ ap (past_from Outside (suc (suc o))) (append_assoc x (b ∷ []) r)
    ∙ inside (suc o) (b ∷ r) ∙ closes-one b o r closes

-- strings
inside-step : (x o : ℕ) (r : List ℕ) → is_unescaped x ≡ true → past_from Inside o (x ∷ r) ≡ past_from Inside o r
unfolding past_from
inside-step x o r h =
    let no_mark : (x == 0x22) ≡ false = grind (arith, nat_tests) in
    let no_backslash : (x == 0x5C) ≡ false = grind (arith, nat_tests) in
    let stays : position_after Inside x ≡ Inside = rw (no_mark, no_backslash) refl in
    ap (λ p. past_from p o r) stays

pub escaped-byte : (x o : ℕ) (r : List ℕ) → past_from Inside o (0x5C ∷ x ∷ r) ≡ past_from Inside o r
unfolding past_from
escaped-byte x o r = refl

pub mark-opens : (o : ℕ) (r : List ℕ) → past_from Outside o (0x22 ∷ r) ≡ past_from Inside o r
unfolding past_from
mark-opens o r = let same : o + 0 ≡ o = omega arith in ap (λ k. past_from Inside k r) same

pub mark-closes : (o : ℕ) (r : List ℕ) → past_from Inside o (0x22 ∷ r) ≡ past_from Outside o r
unfolding past_from
mark-closes o r = refl

skims-string : (n : ℕ) (m x : List ℕ) → IsString m x → Skims n x
skims-string n m x h o r =
    ap (λ q. past_from Outside (suc o) (q ++ r)) h.text_is
    ∙ ap (λ q. past_from Outside (suc o) (0x22 ∷ q)) (append_assoc (all_spelled h.chars) (0x22 ∷ []) r)
    ∙ mark-opens (suc o) (all_spelled h.chars ++ 0x22 ∷ r)
    ∙ inside-chars (past_from Inside (suc o)) (λ y q. inside-step y (suc o) q) (λ y q. escaped-byte y (suc o) q) h.chars (0x22 ∷ r) h.are_chars
    ∙ mark-closes (suc o) r

skims : Walks Skims
skims =
    record {
      none = λ n o r. refl;
      append = λ n x y front behind o r. ap (past_from Outside (suc o)) (append_assoc x y r) ∙ front o (y ++ r) ∙ behind o r;
      byte = skims-byte;
      string = skims-string;
      array = λ n x. skims-brackets 0x5B 0x5D n x refl refl refl refl;
      object = λ n x. skims-brackets 0x7B 0x7D n x refl refl refl refl;
    }

-- the last bracket
ends-array : (r : List ℕ) → past_from Outside 1 (0x5D ∷ r) ≡ Some r
unfolding past_from
ends-array r = refl

ends-object : (r : List ℕ) → past_from Outside 1 (0x7D ∷ r) ≡ Some r
unfolding past_from
ends-object r = refl

array-ends : (n : ℕ) (ts : Trees) (x s r : List ℕ) → Nests n (array ts) → IsValue (array ts) x → 0x5B ∷ s ≡ x ++ r → past_from Outside 1 s ≡ Some r
array-ends zero ts x s r nests h is = absurd nests
array-ends (suc n) ts x s r nests h is =
    let whole : 0x5B ∷ s ≡ 0x5B ∷ (h.inside ++ 0x5D ∷ r) = is ∙ ap (λ q. q ++ r) h.is ∙ ap (λ q. 0x5B ∷ q) (append_assoc h.inside (0x5D ∷ []) r) in
    ap (past_from Outside 1) (ap (drop 1) whole) ∙ values-pass Skims skims n ts h.inside nests h.holds 0 (0x5D ∷ r) ∙ ends-array r

object-ends : (n : ℕ) (ps : Pairs) (x s r : List ℕ) → Nests n (object ps) → IsValue (object ps) x → 0x7B ∷ s ≡ x ++ r → past_from Outside 1 s ≡ Some r
object-ends zero ps x s r nests h is = absurd nests
object-ends (suc n) ps x s r nests h is =
    let whole : 0x7B ∷ s ≡ 0x7B ∷ (h.inside ++ 0x7D ∷ r) = is ∙ ap (λ q. q ++ r) h.is ∙ ap (λ q. 0x7B ∷ q) (append_assoc h.inside (0x7D ∷ []) r) in
    ap (past_from Outside 1) (ap (drop 1) whole) ∙ members-pass Skims skims n ps h.inside nests h.holds 0 (0x7D ∷ r) ∙ ends-object r

-- so a value in brackets ends where its first bracket is closed
pub array_past : (n : ℕ) (t : Tree) (s r : List ℕ) → Nests n t → value_at (0x5B ∷ s) ≡ Some (t, r) → (past_from Outside 1 s ≡ Some r) × (ends_itself t ≡ true)
array_past n t s r nests e =
    let m = map_some _ (list_by no_trees 0x5D values_at s) (sym (value_at-array (0x5B ∷ s) 0x5B s refl refl) ∙ e) in
    let t_is : t ≡ array m.0.0 = ap (λ q. q.0) (sym m.1.1) in
    let span = value_span (0x5B ∷ s) t r e in
    (array-ends n m.0.0 (before r (0x5B ∷ s)) s r (subst (λ (u : Tree). Nests n u) t_is nests) (subst (λ (u : Tree). IsValue u (before r (0x5B ∷ s))) t_is span.0) span.1, ap ends_itself t_is)

pub object_past : (n : ℕ) (t : Tree) (s r : List ℕ) → Nests n t → value_at (0x7B ∷ s) ≡ Some (t, r) → (past_from Outside 1 s ≡ Some r) × (ends_itself t ≡ true)
object_past n t s r nests e =
    let m = map_some _ (list_by no_pairs 0x7D members_at s) (sym (value_at-object (0x7B ∷ s) 0x7B s refl refl) ∙ e) in
    let t_is : t ≡ object m.0.0 = ap (λ q. q.0) (sym m.1.1) in
    let span = value_span (0x7B ∷ s) t r e in
    (object-ends n m.0.0 (before r (0x7B ∷ s)) s r (subst (λ (u : Tree). Nests n u) t_is nests) (subst (λ (u : Tree). IsValue u (before r (0x7B ∷ s))) t_is span.0) span.1, ap ends_itself t_is)

-- bytes of a string that are no mark
inner-at : (x o : ℕ) (s : List ℕ) (b : Bool) → is_inner x ≡ b → past_from Inside o (skip is_inner s) ≡ past_from Inside o s → past_from Inside o (cond b (skip is_inner s) (x ∷ s)) ≡ past_from Inside o (x ∷ s)
unfolding past_from
inner-at x o s true e h =
    let no_mark : (x == 0x22) ≡ false = grind (arith, nat_tests) in
    let no_backslash : (x == 0x5C) ≡ false = grind (arith, nat_tests) in
    let stays : position_after Inside x ≡ Inside = rw (no_mark, no_backslash) refl in
    h ∙ ap (λ p. past_from p o s) (sym stays)
inner-at x o s false e h = refl

pub past_inner : (o : ℕ) (s : List ℕ) → past_from Inside o (skip is_inner s) ≡ past_from Inside o s
past_inner o [] = refl
past_inner o (x ∷ s) = inner-at x o s (is_inner x) refl (past_inner o s)

-- a value in brackets, by its first byte
pub bracket_past : (n : ℕ) (t : Tree) (b : ℕ) (all s end r : List ℕ) → all ≡ b ∷ s → ((b == 0x5B) || (b == 0x7B)) ≡ true → past_from Outside 1 s ≡ Some end → Nests n t → value_at all ≡ Some (t, r) → (end ≡ r) × (ends_itself t ≡ true)
bracket_past n t b all s end r is opens past nests e = at (b == 0x5B) (b == 0x7B) refl refl opens
  where
    told : (past_from Outside 1 s ≡ Some r) × (ends_itself t ≡ true) → (end ≡ r) × (ends_itself t ≡ true)
    told h = (some_is (sym past ∙ h.0), h.1)

    at : (x y : Bool) → (b == 0x5B) ≡ x → (b == 0x7B) ≡ y → (x || y) ≡ true → (end ≡ r) × (ends_itself t ≡ true)
    at true y is_array other h =
        let b_is : b ≡ 0x5B = grind (arith, nat_tests) in
        told (array_past n t s r nests (ap (λ k. value_at (k ∷ s)) (sym b_is) ∙ ap value_at (sym is) ∙ e))
    at false false no_array no_object h = absurd cc
    at false true no_array is_object h =
        let b_is : b ≡ 0x7B = grind (arith, nat_tests) in
        told (object_past n t s r nests (ap (λ k. value_at (k ∷ s)) (sym b_is) ∙ ap value_at (sym is) ∙ e))

-- a string goes on
pub past_mark : (o mark : ℕ) (left rest : List ℕ) → left ≡ mark ∷ rest → (mark == 0x22) ≡ true → past_from Inside o left ≡ past_from Outside o rest
past_mark o mark left rest is e =
    let mark_is : mark ≡ 0x22 = grind (arith, nat_tests) in
    ap (past_from Inside o) is ∙ ap (λ k. past_from Inside o (k ∷ rest)) mark_is ∙ mark-closes o rest

pub past_escape : (o mark escaped : ℕ) (left rest inside : List ℕ) → left ≡ mark ∷ rest → (mark == 0x5C) ≡ true → rest ≡ escaped ∷ inside → past_from Inside o left ≡ past_from Inside o inside
past_escape o mark escaped left rest inside is e rest_is =
    let mark_is : mark ≡ 0x5C = grind (arith, nat_tests) in
    ap (past_from Inside o) (is ∙ ap (λ q. mark ∷ q) rest_is) ∙ ap (λ k. past_from Inside o (k ∷ escaped ∷ inside)) mark_is ∙ escaped-byte escaped o inside

pub past_inside : (o : ℕ) (s new : List ℕ) → new ≡ skip is_inner s → past_from Inside o new ≡ past_from Inside o s
past_inside o s new is = ap (past_from Inside o) is ∙ past_inner o s

-- a colon or a comma, and another string
between : (byte o : ℕ) (r : List ℕ) → ((byte == 0x3A) || (byte == 0x2C)) ≡ true → past_from Outside o (byte ∷ r) ≡ past_from Outside o r
between byte o r e =
    let no_close : is_closing byte ≡ false = grind (arith, nat_tests) in
    let no_open : is_opening byte ≡ false = grind (arith, nat_tests) in
    let no_mark : (byte == 0x22) ≡ false = grind (arith, nat_tests) in
    let opens : ◌≡◌ {A = ℕ} (cond (is_opening byte) 1 0) 0 = rw no_open refl in
    let stays : position_after Outside byte ≡ Outside = rw no_mark refl in
    let same : o + cond (is_opening byte) 1 0 ≡ o = omega (arith, opens) in
    step byte o r no_close ∙ ap (λ p. past_from p (o + cond (is_opening byte) 1 0) r) stays ∙ ap (λ k. past_from Outside k r) same

pub past_between : (o byte : ℕ) (s rest inside : List ℕ) → s ≡ byte ∷ rest → ((byte == 0x3A) || (byte == 0x2C)) ≡ true → after_byte 0x22 rest ≡ Some inside → past_from Outside o s ≡ past_from Inside o inside
past_between o byte s rest inside is e mark =
    ap (past_from Outside o) (is ∙ ap (λ q. byte ∷ q) (after_byte-sound 0x22 rest inside mark)) ∙ between byte o (0x22 ∷ inside) e ∙ mark-opens o inside
