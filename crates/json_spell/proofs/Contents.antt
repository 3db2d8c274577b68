-- Reading the content of a string, run by run, finds exactly the strings of the grammar.
use Rattle.std.proofs.Common.{◌≡◌, ℕ, zero, suc, ◌<◌, ◌≤◌, Bool, true, false, ◌&&◌, ◌==◌, cond, List, [], ◌∷◌, ◌++◌, length, Option, Some, None, ⊎_elim, refl, sym, ap, subst, ◌∙◌, arith, append_assoc, append-nil}
use Rattle.std.specs.Prelude.{encode_utf8}
use Rattle.std.specs.Char.{IsScalar}
use Rattle.std.specs.Str.{is_utf8, encode_utf8_all}
use lib.Utf8.{scalar, scalars}
use Rattle.std.proofs.lemmas.Str.{IsUtf8-from_is_utf8, is_utf8-from_IsUtf8, IsUtf8-append, IsUtf8-encode, encode_ascii}
use Rattle.std.proofs.lemmas.Bool.{cases_lt}
use Rattle.std.proofs.lemmas.Bool.Decides.{nat_tests}
use Rattle.json_spell.specs.Number.{EachPasses}
use Rattle.json_spell.specs.Text.{Char, unescaped, is_unescaped, spelled, code_point, AreChars, all_spelled, all_utf8}
use Rattle.json_spell.specs.Reading.{Parse, read_map, ◌>>=◌, skip, before, escape_at, after_run, run_at, content_by, content, content_at}
use Rattle.json_spell.proofs.Opened.{some_is, bind_some, map_some, chosen, guarded}
use Rattle.json_spell.proofs.Skips.{skip-split, before-append}
use Rattle.json_spell.proofs.Chars.{Escape, escape-sound}

-- chars with the bytes that they take and the bytes that they stand for
pub record Spells (text means : List ℕ) : Type 0 where
  pub chars : List Char
  pub are_chars : AreChars chars
  pub text_is : text ≡ all_spelled chars
  pub means_is : means ≡ all_utf8 chars

-- chars one after another
spells-append : {s t m n : List ℕ} → Spells s m → Spells t n → Spells (s ++ t) (m ++ n)
spells-append {s} {t} {m} {n} f g = record {
  chars = f.chars ++ g.chars;
  are_chars = both f.chars f.are_chars;
  text_is = rw (f.text_is, g.text_is) (sym (spelled-append f.chars));
  means_is = rw (f.means_is, g.means_is) (sym (all_utf8-append f.chars));
}
  where
    both : (ps : List Char) → AreChars ps → AreChars (ps ++ g.chars)
    both [] h = g.are_chars
    both (p ∷ ps) h = (h.0, both ps h.1)

    spelled-append : (ps : List Char) → all_spelled (ps ++ g.chars) ≡ all_spelled ps ++ all_spelled g.chars
    spelled-append [] = refl
    spelled-append (p ∷ ps) = rw (spelled-append ps) (sym (append_assoc (spelled p) (all_spelled ps) (all_spelled g.chars)))

    all_utf8-append : (ps : List Char) → all_utf8 (ps ++ g.chars) ≡ all_utf8 ps ++ all_utf8 g.chars
    all_utf8-append [] = refl
    all_utf8-append (p ∷ ps) = rw (all_utf8-append ps) (sym (append_assoc (encode_utf8 (code_point p)) (all_utf8 ps) (all_utf8 g.chars)))

-- a run of bytes that stand for themselves is one of characters that do
each-split : (test : ℕ → Bool) (x y : List ℕ) → EachPasses test (x ++ y) → EachPasses test x × EachPasses test y
each-split test [] y h = (tt, h)
each-split test (a ∷ x) y h = let r = each-split test x y h.1 in ((h.0, r.0), r.1)

pub high-unescaped : (x : ℕ) → 0x5D ≤ x → is_unescaped x ≡ true
high-unescaped x h = grind (arith, nat_tests)

unescaped-from_bytes : (c : ℕ) → EachPasses is_unescaped (encode_utf8 c) → is_unescaped c ≡ true
unescaped-from_bytes c h = ⊎_elim low high (cases_lt c 128)
  where
    low : c < 128 → is_unescaped c ≡ true
    low l = (subst (EachPasses is_unescaped) (encode_ascii c l) h).0

    high : 128 ≤ c → is_unescaped c ≡ true
    high l = high-unescaped c (omega arith)

run-spells-all : (cs : List ℕ) → scalars cs ≡ true → EachPasses is_unescaped (encode_utf8_all cs) → Spells (encode_utf8_all cs) (encode_utf8_all cs)
run-spells-all [] s h = record { chars = []; are_chars = tt; text_is = refl; means_is = refl }
run-spells-all (c ∷ cs) s h =
    let both = both-true (scalar c) (scalars cs) s in
    let bytes = each-split is_unescaped (encode_utf8 c) (encode_utf8_all cs) h in
    let rest = run-spells-all cs both.1 bytes.1 in
    record {
      chars = unescaped c ∷ rest.chars;
      are_chars = ((both.0, unescaped-from_bytes c bytes.0), rest.are_chars);
      text_is = ap (λ q. encode_utf8 c ++ q) rest.text_is;
      means_is = ap (λ q. encode_utf8 c ++ q) rest.means_is;
    }
  where
    both-true : (a b : Bool) → (a && b) ≡ true → (a ≡ true) × (b ≡ true)
    both-true true b e = (refl, e)
    both-true false b e = absurd cc

run-spells : (run : List ℕ) → is_utf8 run ≡ true → EachPasses is_unescaped run → Spells run run
run-spells run u h =
    let text = IsUtf8-from_is_utf8 run u in
    subst (λ (bytes : List ℕ). Spells bytes bytes) text.1.1
    (run-spells-all text.0 text.1.0 (subst (EachPasses is_unescaped) (sym text.1.1) h))

escape-spells : (s : List ℕ) (c : ℕ) (r : List ℕ) (e : Escape s c r) → Spells (0x5C ∷ e.tail) (encode_utf8 c)
escape-spells s c r e = record {
  chars = e.char ∷ [];
  are_chars = (e.holds, tt);
  text_is = sym e.spells ∙ sym (append-nil (spelled e.char));
  means_is = ap encode_utf8 (sym e.means) ∙ sym (append-nil (encode_utf8 (code_point e.char)));
}

-- the content of a string up to its closing quotation mark, and what follows
pub record Content (s m r : List ℕ) : Type 0 where
  pub text : List ℕ
  pub spells : Spells text m
  pub is : s ≡ text ++ 0x22 ∷ r

-- what an escape after a run leads to
abbrev after_escape : Parse (List ℕ) → List ℕ → Parse (List ℕ)
after_escape more run rest = escape_at rest >>= λ p. read_map (λ m. run ++ (encode_utf8 p.0 ++ m)) (more p.1)

-- a run and a closing quotation mark make one text
closed : (run rest r : List ℕ) (x : ℕ) → x ≡ 0x22 → rest ≡ r → run ++ x ∷ rest ≡ run ++ 0x22 ∷ r
closed run rest r x x_is r_is = rw (x_is, r_is) refl

-- a run, an escape and what is behind them make one text
joined : (run tail text r : List ℕ) (x : ℕ) (rest : List ℕ) → x ≡ 0x5C → rest ≡ tail ++ (text ++ 0x22 ∷ r) → run ++ x ∷ rest ≡ (run ++ ((0x5C ∷ tail) ++ text)) ++ 0x22 ∷ r
joined run tail text r x rest x_is rest_is = rw (x_is, rest_is) (simp append_assoc)

-- one step of the reader, where the next one is sound
after_run-sound : (more : Parse (List ℕ)) → ((s m r : List ℕ) → more s ≡ Some (m, r) → Content s m r)
    → (run rest m r : List ℕ) → Spells run run → after_run more run rest ≡ Some (m, r) → Content (run ++ rest) m r
after_run-sound more sound run [] m r h e = absurd cc
after_run-sound more sound run (x ∷ rest) m r h e = ⊎_elim last escape (chosen (x == 0x22) e)
  where
    last : ((x == 0x22) ≡ true) × (◌≡◌ {A = Option (List ℕ × List ℕ)} (Some (run, rest)) (Some (m, r))) → Content (run ++ x ∷ rest) m r
    last f =
        let same = some_is f.1 in
        let m_is : run ≡ m = ap (λ p. p.0) same in
        let r_is : rest ≡ r = ap (λ p. p.1) same in
        let x_is : x ≡ 0x22 = grind (arith, nat_tests, f.0) in
        record { text = run; spells = subst (Spells run) m_is h; is = closed run rest r x x_is r_is }

    escape : ((x == 0x22) ≡ false) × (cond (x == 0x5C) (after_escape more run rest) None ≡ Some (m, r)) → Content (run ++ x ∷ rest) m r
    escape f =
        let g = guarded (x == 0x5C) f.1 in
        let p = bind_some (escape_at rest) _ g.1 in
        let q = map_some _ (more p.0.1) p.1.1 in
        let esc = escape-sound rest p.0.0 p.0.1 p.1.0 in
        let behind = sound p.0.1 q.0.0 q.0.1 q.1.0 in
        let m_is : run ++ (encode_utf8 p.0.0 ++ q.0.0) ≡ m = ap (λ p. p.0) q.1.1 in
        let r_is : q.0.1 ≡ r = ap (λ p. p.1) q.1.1 in
        let x_is : x ≡ 0x5C = grind (arith, nat_tests, g.0) in
        record {
          text = run ++ ((0x5C ∷ esc.tail) ++ behind.text);
          spells = subst (Spells (run ++ ((0x5C ∷ esc.tail) ++ behind.text))) m_is (spells-append h (spells-append (escape-spells rest p.0.0 p.0.1 esc) behind.spells));
          is = joined run esc.tail behind.text r x rest x_is (esc.is ∙ ap (λ q. esc.tail ++ q) (behind.is ∙ ap (λ q. behind.text ++ 0x22 ∷ q) r_is));
        }

-- a step that gives something has a run in UTF-8
content_by-run : (more : Parse (List ℕ)) (s : List ℕ) (p : List ℕ × List ℕ) → content_by more s ≡ Some p
    → (is_utf8 (before (skip is_unescaped s) s) ≡ true) × (after_run more (before (skip is_unescaped s) s) (skip is_unescaped s) ≡ Some p)
content_by-run more s p e =
    let b = bind_some (run_at s) _ e in
    let g = guarded (is_utf8 (before (skip is_unescaped s) s)) b.1.0 in
    (g.0, rw (some_is g.1) (b.1.1))

pub content-sound : (n : ℕ) (s m r : List ℕ) → content n s ≡ Some (m, r) → Content s m r
unfolding content
content-sound zero s m r e = absurd cc
content-sound (suc n) s m r e =
    let f = skip-split is_unescaped s in
    let g = content_by-run (content n) s (m, r) e in
    let run_is : before (skip is_unescaped s) s ≡ f.text = ap (λ q. before (skip is_unescaped s) q) f.is ∙ before-append f.text (skip is_unescaped s) in
    let run = run-spells f.text (rw run_is at g.0) f.holds in
    let got = after_run-sound (content n) (content-sound n) f.text (skip is_unescaped s) m r run (rw run_is at g.1) in
    record { text = got.text; spells = got.spells; is = f.is ∙ got.is }

-- where the run of unescaped bytes ends behind more such bytes
skip-past : (test : ℕ → Bool) (x s : List ℕ) → EachPasses test x → skip test (x ++ s) ≡ skip test s
skip-past test [] s h = refl
skip-past test (a ∷ x) s h = rw (h.0) (skip-past test x s h.1)

before-past : (x s : List ℕ) (test : ℕ → Bool) → before (skip test s) (x ++ s) ≡ x ++ before (skip test s) s
before-past x s test =
    let f = skip-split test s in
    let run_is : before (skip test s) s ≡ f.text = ap (λ q. before (skip test s) q) f.is ∙ before-append f.text (skip test s) in
    let whole : before (skip test s) (x ++ s) ≡ x ++ f.text =
    ap (λ q. before (skip test s) (x ++ q)) f.is ∙ ap (λ q. before (skip test s) q) (sym (append_assoc x f.text (skip test s))) ∙ before-append (x ++ f.text) (skip test s) in
    whole ∙ ap (λ q. x ++ q) (sym run_is)

-- more bytes before a run stand before the content
after_run-past : (more : Parse (List ℕ)) (x run rest m r : List ℕ) → after_run more run rest ≡ Some (m, r) → after_run more (x ++ run) rest ≡ Some (x ++ m, r)
after_run-past more x run [] m r e = absurd cc
after_run-past more x run (y ∷ rest) m r e = at (y == 0x22) (y == 0x5C) (escape_at rest) e
  where
    behind : (o : Option (List ℕ × List ℕ)) (c : ℕ) → read_map (λ m. run ++ (encode_utf8 c ++ m)) o ≡ Some (m, r) → read_map (λ m. (x ++ run) ++ (encode_utf8 c ++ m)) o ≡ Some (x ++ m, r)
    behind None c h = absurd cc
    behind (Some q) c h =
        let same = some_is h in
        let m_is : run ++ (encode_utf8 c ++ q.0) ≡ m = ap (λ p. p.0) same in
        let r_is : q.1 ≡ r = ap (λ p. p.1) same in
        rw (append_assoc, m_is, r_is) refl

    escape : (o : Option (ℕ × List ℕ)) → (o >>= λ p. read_map (λ m. run ++ (encode_utf8 p.0 ++ m)) (more p.1)) ≡ Some (m, r) → (o >>= λ p. read_map (λ m. (x ++ run) ++ (encode_utf8 p.0 ++ m)) (more p.1)) ≡ Some (x ++ m, r)
    escape None h = absurd cc
    escape (Some p) h = behind (more p.1) p.0 h

    at : (a b : Bool) (o : Option (ℕ × List ℕ))
        → cond {A = Option (List ℕ × List ℕ)} a (Some (run, rest)) (cond b (o >>= λ p. read_map (λ m. run ++ (encode_utf8 p.0 ++ m)) (more p.1)) None) ≡ Some (m, r)
        → cond {A = Option (List ℕ × List ℕ)} a (Some (x ++ run, rest)) (cond b (o >>= λ p. read_map (λ m. (x ++ run) ++ (encode_utf8 p.0 ++ m)) (more p.1)) None) ≡ Some (x ++ m, r)
    at true b o h =
        let same = some_is h in
        let m_is : run ≡ m = ap (λ p. p.0) same in
        let r_is : rest ≡ r = ap (λ p. p.1) same in
        rw (m_is, r_is) refl
    at false true o h = escape o h
    at false false o h = absurd cc

pub content_by-step : (more : Parse (List ℕ)) (s : List ℕ) → is_utf8 (before (skip is_unescaped s) s) ≡ true → content_by more s ≡ after_run more (before (skip is_unescaped s) s) (skip is_unescaped s)
content_by-step more s e = rw e refl

pub content-past : (n : ℕ) (c : ℕ) (s m r : List ℕ) → IsScalar c → EachPasses is_unescaped (encode_utf8 c) → content n s ≡ Some (m, r) → content n (encode_utf8 c ++ s) ≡ Some (encode_utf8 c ++ m, r)
unfolding content
content-past zero c s m r scalar_is h e = absurd cc
content-past (suc n) c s m r scalar_is h e =
    let g = content_by-run (content n) s (m, r) e in
    let x = encode_utf8 c in
    let run = before (skip is_unescaped s) s in
    let left_is : skip is_unescaped (x ++ s) ≡ skip is_unescaped s = skip-past is_unescaped x s h in
    let run_is : before (skip is_unescaped (x ++ s)) (x ++ s) ≡ x ++ run = ap (λ q. before q (x ++ s)) left_is ∙ before-past x s is_unescaped in
    let text : is_utf8 (x ++ run) ≡ true = is_utf8-from_IsUtf8 (x ++ run) (IsUtf8-append x run (IsUtf8-encode c scalar_is) (IsUtf8-from_is_utf8 run g.0)) in
    content_by-step (content n) (x ++ s) (ap is_utf8 run_is ∙ text)
    ∙ ap (λ q. after_run (content n) q (skip is_unescaped (x ++ s))) run_is
    ∙ ap (λ q. after_run (content n) (x ++ run) q) left_is
    ∙ after_run-past (content n) x run (skip is_unescaped s) m r g.1

pub content_at-sound : (s m r : List ℕ) → content_at s ≡ Some (m, r) → Content s m r
unfolding content_at
content_at-sound s m r e = content-sound (suc (length s)) s m r e
