-- Reading the content of a string misses no string of the grammar, and its bound on escapes never matters.
use Rattle.std.proofs.Common.{◌≡◌, ℕ, zero, suc, ◌+◌, ◌/◌, ◌%◌, ◌<◌, ◌≤◌, Bool, true, false, ◌==◌, cond, List, [], ◌∷◌, ◌++◌, length, Option, Some, None, refl, sym, ap, ◌∙◌, arith, append_assoc, length-append, ltb}
use lib.Utf8.{encode}
use Rattle.std.specs.Str.{is_utf8}
use Rattle.std.proofs.lemmas.Str.{is_utf8-from_IsUtf8, IsUtf8-nil, len_utf8_bounds, length-encode}
use Rattle.json_spell.specs.Number.{EachPasses}
use Rattle.json_spell.specs.Text.{Char, unescaped, short, unicode, surrogates, is_unescaped, surrogate_pair, AreChars, all_spelled, all_utf8}
use Rattle.json_spell.specs.Reading.{Parse, read_map, ◌>>=◌, skip, before, escape_at, after_run, run_at, content_by, content, content_at}
use Rattle.json_spell.proofs.Skips.{skip-le, before-append}
use Rattle.json_spell.proofs.Chars.{escape-sound, short-complete, unicode-complete, surrogates-complete}
use Rattle.json_spell.proofs.Contents.{high-unescaped, content-past, content_by-step}

-- each byte of an unescaped character is one that stands for itself
pub unescaped-bytes : (c : ℕ) → is_unescaped c ≡ true → EachPasses is_unescaped (encode c)
unfolding encode
unescaped-bytes c h = at (ltb c 128) (ltb c 2048) (ltb c 65536)
  where
    high : (n : ℕ) → is_unescaped (128 + n) ≡ true
    high n = high-unescaped (128 + n) (omega arith)

    higher : (m n : ℕ) → 0x5D ≤ m → is_unescaped (m + n) ≡ true
    higher m n l = high-unescaped (m + n) (omega arith)

    at : (x y z : Bool) → EachPasses is_unescaped (cond x (c ∷ []) (cond y ((192 + c / 64) ∷ (128 + c % 64) ∷ []) (cond z ((224 + c / 4096) ∷ (128 + (c / 64) % 64) ∷ (128 + c % 64) ∷ []) ((240 + c / 262144) ∷ (128 + (c / 4096) % 64) ∷ (128 + (c / 64) % 64) ∷ (128 + c % 64) ∷ []))))
    at true y z = (h, tt)
    at false true z = (higher 192 (c / 64) (omega arith), (high (c % 64), tt))
    at false false true = (higher 224 (c / 4096) (omega arith), (high ((c / 64) % 64), (high (c % 64), tt)))
    at false false false = (higher 240 (c / 262144) (omega arith), (high ((c / 4096) % 64), (high ((c / 64) % 64), (high (c % 64), tt))))

-- a step with no byte that stands for itself at the front
empty-run : (more : Parse (List ℕ)) (s : List ℕ) → skip is_unescaped s ≡ s → content_by more s ≡ after_run more [] s
empty-run more s e =
    let none : before (skip is_unescaped s) s ≡ [] = ap (λ q. before q s) e ∙ before-append [] s in
    content_by-step more s (ap is_utf8 none ∙ is_utf8-from_IsUtf8 [] IsUtf8-nil)
    ∙ ap (λ q. after_run more q (skip is_unescaped s)) none
    ∙ ap (λ q. after_run more [] q) e

-- a step over an escape
escape-step : (n : ℕ) (tail : List ℕ) (c : ℕ) (s m r : List ℕ) → escape_at tail ≡ Some (c, s) → content n s ≡ Some (m, r) → content (suc n) (0x5C ∷ tail) ≡ Some (encode c ++ m, r)
unfolding content
escape-step n tail c s m r escape e =
    empty-run (content n) (0x5C ∷ tail) refl ∙ rw (escape, e) refl

last-step : (n : ℕ) (r : List ℕ) → content (suc n) (0x22 ∷ r) ≡ Some ([], r)
unfolding content
last-step n r = empty-run (content n) (0x22 ∷ r) refl

pub content-complete : (n : ℕ) (ps : List Char) (r : List ℕ) → AreChars ps → length ps < n → content n (all_spelled ps ++ 0x22 ∷ r) ≡ Some (all_utf8 ps, r)
content-complete zero ps r h l = absurd (omega arith)
content-complete (suc n) [] r h l = last-step n r
content-complete (suc n) (unescaped c ∷ ps) r h l =
    let scalar = h.0.0 in
    let behind = content-complete (suc n) ps r h.1 (omega arith) in
    rw (append_assoc (encode c) (all_spelled ps) (0x22 ∷ r)) (content-past (suc n) c (all_spelled ps ++ 0x22 ∷ r) (all_utf8 ps) r scalar (unescaped-bytes c h.0.1) behind)
content-complete (suc n) (short x c ∷ ps) r h l =
    escape-step n (x ∷ (all_spelled ps ++ 0x22 ∷ r)) c (all_spelled ps ++ 0x22 ∷ r) (all_utf8 ps) r (short-complete x c (all_spelled ps ++ 0x22 ∷ r) h.0) (content-complete n ps r h.1 (omega arith))
content-complete (suc n) (unicode a b c d u ∷ ps) r h l =
    escape-step n (0x75 ∷ a ∷ b ∷ c ∷ d ∷ (all_spelled ps ++ 0x22 ∷ r)) u (all_spelled ps ++ 0x22 ∷ r) (all_utf8 ps) r (unicode-complete a b c d u (all_spelled ps ++ 0x22 ∷ r) h.0) (content-complete n ps r h.1 (omega arith))
content-complete (suc n) (surrogates a b c d u e f g k v ∷ ps) r h l =
    escape-step n (0x75 ∷ a ∷ b ∷ c ∷ d ∷ 0x5C ∷ 0x75 ∷ e ∷ f ∷ g ∷ k ∷ (all_spelled ps ++ 0x22 ∷ r)) (surrogate_pair u v) (all_spelled ps ++ 0x22 ∷ r) (all_utf8 ps) r
    (surrogates-complete a b c d u e f g k v (all_spelled ps ++ 0x22 ∷ r) h.0) (content-complete n ps r h.1 (omega arith))

-- each char takes a byte at least
length-spelled : (ps : List Char) → length ps ≤ length (all_spelled ps)
length-spelled [] = omega arith
length-spelled (unescaped c ∷ ps) = let l = (len_utf8_bounds c).0 in omega (arith, length-append (encode c) (all_spelled ps), length-encode c, length-spelled ps)
length-spelled (short x c ∷ ps) = omega (arith, length-spelled ps)
length-spelled (unicode a b c d u ∷ ps) = omega (arith, length-spelled ps)
length-spelled (surrogates a b c d u e f g k v ∷ ps) = omega (arith, length-spelled ps)

pub content_at-complete : (ps : List Char) (r : List ℕ) → AreChars ps → content_at (all_spelled ps ++ 0x22 ∷ r) ≡ Some (all_utf8 ps, r)
unfolding content_at
content_at-complete ps r h = content-complete (suc (length (all_spelled ps ++ 0x22 ∷ r))) ps r h (omega (arith, length-append (all_spelled ps) (0x22 ∷ r), length-spelled ps))

-- what follows an escape is no longer than it was with it
pub escape-le : (s : List ℕ) (c : ℕ) (r : List ℕ) → escape_at s ≡ Some (c, r) → length r ≤ length s
escape-le s c r e =
    let f = escape-sound s c r e in
    let both : length s ≡ length (f.tail ++ r) = ap length f.is in
    omega (arith, length-append f.tail r)

-- a step depends on what comes behind the escape alone
after_run-same : (f g : Parse (List ℕ)) (run rest : List ℕ) → ((r : List ℕ) → length r < length rest → f r ≡ g r) → after_run f run rest ≡ after_run g run rest
after_run-same f g run [] same = refl
after_run-same f g run (x ∷ rest) same = at (escape_at rest) refl
  where
    at : (o : Option (ℕ × List ℕ)) → escape_at rest ≡ o
        → cond {A = Option (List ℕ × List ℕ)} (x == 0x22) (Some (run, rest)) (cond (x == 0x5C) (o >>= λ p. read_map (λ m. run ++ (encode p.0 ++ m)) (f p.1)) None)
        ≡ cond {A = Option (List ℕ × List ℕ)} (x == 0x22) (Some (run, rest)) (cond (x == 0x5C) (o >>= λ p. read_map (λ m. run ++ (encode p.0 ++ m)) (g p.1)) None)
    at None e = refl
    at (Some p) e = rw (same p.1 (let l = escape-le rest p.0 p.1 e in omega arith)) refl

content_by-same : (f g : Parse (List ℕ)) (s : List ℕ) → ((r : List ℕ) → length r < length s → f r ≡ g r) → content_by f s ≡ content_by g s
content_by-same f g s same =
    at (is_utf8 (before (skip is_unescaped s) s))
  where
    at : (b : Bool) → (cond b (Some (skip is_unescaped s)) None >>= λ rest. after_run f (before rest s) rest) ≡ (cond b (Some (skip is_unescaped s)) None >>= λ rest. after_run g (before rest s) rest)
    at true = after_run-same f g (before (skip is_unescaped s) s) (skip is_unescaped s) (λ r l. same r (let k = skip-le is_unescaped s in omega arith))
    at false = refl

pub content-same : (n m : ℕ) (s : List ℕ) → length s < n → length s < m → content n s ≡ content m s
unfolding content
content-same zero m s l k = absurd (omega arith)
content-same (suc n) zero s l k = absurd (omega arith)
content-same (suc n) (suc m) s l k = content_by-same (content n) (content m) s (λ r j. content-same n m r (omega arith) (omega arith))

-- so the content is read by one step and then the same again
pub content_at-is : (s : List ℕ) → content_at s ≡ content_by content_at s
unfolding content content_at
content_at-is s = content_by-same (content (length s)) content_at s (λ r l. content-same (length s) (suc (length r)) r l (omega arith))

-- the same by what stands behind the run
pub content_at-no_run : (s : List ℕ) → run_at s ≡ None → content_at s ≡ None
content_at-no_run s e = content_at-is s ∙ ap (λ o. o >>= λ rest. after_run content_at (before rest s) rest) e

content_at-run : (s rest : List ℕ) → run_at s ≡ Some rest → content_at s ≡ after_run content_at (before rest s) rest
content_at-run s rest e = content_at-is s ∙ ap (λ o. o >>= λ rest. after_run content_at (before rest s) rest) e

pub content_at-end : (s rest : List ℕ) → run_at s ≡ Some rest → rest ≡ [] → content_at s ≡ None
content_at-end s rest e rest_is = content_at-run s rest e ∙ rw rest_is refl

pub content_at-closed : (s rest r : List ℕ) → run_at s ≡ Some rest → rest ≡ 0x22 ∷ r → content_at s ≡ Some (before rest s, r)
content_at-closed s rest r e rest_is = content_at-run s rest e ∙ ap (after_run content_at (before rest s)) rest_is

pub content_at-escape : (s rest t : List ℕ) (c : ℕ) (r : List ℕ) → run_at s ≡ Some rest → rest ≡ 0x5C ∷ t → escape_at t ≡ Some (c, r)
    → content_at s ≡ read_map (λ m. before rest s ++ (encode c ++ m)) (content_at r)
content_at-escape s rest t c r e rest_is escape = content_at-run s rest e ∙ ap (after_run content_at (before rest s)) rest_is ∙ rw escape refl

pub content_at-no_escape : (s rest t : List ℕ) → run_at s ≡ Some rest → rest ≡ 0x5C ∷ t → escape_at t ≡ None → content_at s ≡ None
content_at-no_escape s rest t e rest_is escape = content_at-run s rest e ∙ ap (after_run content_at (before rest s)) rest_is ∙ rw escape refl

pub content_at-other : (s rest : List ℕ) (x : ℕ) (t : List ℕ) → run_at s ≡ Some rest → rest ≡ x ∷ t → (x == 0x22) ≡ false → (x == 0x5C) ≡ false → content_at s ≡ None
content_at-other s rest x t e rest_is no_mark no_backslash = content_at-run s rest e ∙ ap (after_run content_at (before rest s)) rest_is ∙ rw (no_mark, no_backslash) refl

-- the same with what was read before
pub content_so-none : (xs s whole : List ℕ) → read_map (λ m. xs ++ m) (content_at s) ≡ content_at whole → content_at s ≡ None → content_at whole ≡ None
content_so-none xs s whole same e = sym same ∙ ap (read_map (λ m. xs ++ m)) e

pub content_so-closed : (xs s whole run ys r : List ℕ) → read_map (λ m. xs ++ m) (content_at s) ≡ content_at whole → content_at s ≡ Some (run, r) → ys ≡ xs ++ run
    → content_at whole ≡ Some (ys, r)
content_so-closed xs s whole run ys r same e ys_is = sym same ∙ ap (read_map (λ m. xs ++ m)) e ∙ ap (λ q. Some (q, r)) (sym ys_is)

more-read : (xs run ys : List ℕ) (c : ℕ) (o : Option (List ℕ × List ℕ)) → ys ≡ (xs ++ run) ++ encode c
    → read_map (λ m. ys ++ m) o ≡ read_map (λ m. xs ++ m) (read_map (λ m. run ++ (encode c ++ m)) o)
more-read xs run ys c None e = refl
more-read xs run ys c (Some p) e =
    let whole : ys ++ p.0 ≡ xs ++ (run ++ (encode c ++ p.0)) = rw e (simp append_assoc) in
    ap (λ q. Some (q, p.1)) whole

pub content_so-more : (xs s whole run ys r : List ℕ) (c : ℕ) → read_map (λ m. xs ++ m) (content_at s) ≡ content_at whole
    → content_at s ≡ read_map (λ m. run ++ (encode c ++ m)) (content_at r) → ys ≡ (xs ++ run) ++ encode c
    → read_map (λ m. ys ++ m) (content_at r) ≡ content_at whole
content_so-more xs s whole run ys r c same e ys_is = more-read xs run ys c (content_at r) ys_is ∙ ap (read_map (λ m. xs ++ m)) (sym e) ∙ same

pub ruleset content_steps = content_at-no_run
