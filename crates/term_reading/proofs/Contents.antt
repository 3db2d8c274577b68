-- A content is read alike by bytes and by characters: bytes beyond ASCII stand for themselves or nowhere.
use Rattle.std.proofs.Common.{◌≡◌, ℕ, ◌==◌, ◌<◌, ◌≤◌, Bool, true, false, List, [], ◌∷◌, ◌++◌, Option, Some, None, length, refl, sym, ap, ◌∙◌, arith, ⊎_elim, lit<, append_assoc, append-nil, nat_lt, if◌then◌else◌}
use Rattle.std.specs.Char.{is_digit}
use Rattle.std.proofs.lemmas.Bool.{cases_lt, le-ltb, ne_eqb}
use Rattle.std.proofs.lemmas.Str.{encode_ascii, length-encode, len_utf8_bounds}
use Rattle.sorted_sets.specs.Rising.{Each}
use Rattle.term_reading.specs.declared.content.Enclosure.{Enclosure}
use Rattle.term_reading.specs.declared.content.Enclosure.TheVariants.{Brackets, Quotes}
use Rattle.term_reading.specs.declared.content.State.{State}
use Rattle.term_reading.specs.declared.content.State.TheVariants.{Between, Backslash, Digits}
use Rattle.term_reading.specs.declared.content.Effect.{Effect}
use Rattle.term_reading.specs.declared.content.Effect.TheVariants.{Close, Refuse, Go, Keep, Put}
use Rattle.term_reading.specs.Reader.{step, content_of, with_front, follow}
use Rattle.rdf_term.proofs.IriChars.{is_iri_char-high}
use Rattle.rdf_term.proofs.HighBytes.{encode_high}
use lib.Utf8.{encode}

other : (c : ℕ) → 128 ≤ c → (k : ℕ) → k < 128 → (c == k) ≡ false
other c h k l = ne_eqb c k (λ e. let n : ⊥ = omega arith in n)

is_digit-high : (c : ℕ) → 128 ≤ c → is_digit c 16 ≡ false
is_digit-high c h = rw (le-ltb c 48 (omega arith), le-ltb c 58 (omega arith), le-ltb c 65 (omega arith), le-ltb c 91 (omega arith), le-ltb c 97 (omega arith), le-ltb c 123 (omega arith)) refl

-- what each character beyond ASCII does
abbrev high_effect : State → Effect
high_effect Between = Keep
high_effect Backslash = Refuse
high_effect (Digits left value) = Refuse

refused : (b : Bool) → (if b then Refuse else Refuse) ≡ Refuse
refused true = refl
refused false = refl

step-high : (e : Enclosure) (s : State) (c : ℕ) → 128 ≤ c → step e s c ≡ high_effect s
unfolding step
step-high Brackets Between c h = rw (is_iri_char-high c h, other c h 62 (lit< tt), other c h 92 (lit< tt)) refl
step-high Quotes Between c h = rw (other c h 34 (lit< tt), other c h 92 (lit< tt), other c h 10 (lit< tt), other c h 13 (lit< tt)) refl
step-high Brackets Backslash c h = rw (other c h 117 (lit< tt), other c h 85 (lit< tt)) refl
step-high Quotes Backslash c h = rw (other c h 117 (lit< tt), other c h 85 (lit< tt), other c h 116 (lit< tt), other c h 98 (lit< tt), other c h 110 (lit< tt), other c h 114 (lit< tt), other c h 102 (lit< tt), other c h 34 (lit< tt), other c h 39 (lit< tt), other c h 92 (lit< tt)) refl
step-high e (Digits left value) c h = rw (is_digit-high c h) (refused (nat_lt 1114111 value))

with_front-with_front : (a b : List ℕ) (r : Option (List ℕ × List ℕ)) → with_front a (with_front b r) ≡ with_front (a ++ b) r
unfolding with_front
with_front-with_front a b None = refl
with_front-with_front a b (Some p) = ap (λ l. Some (l, p.1)) (sym (append_assoc a b p.0))

pub with_front-nil : (r : Option (List ℕ × List ℕ)) → r ≡ with_front [] r
unfolding with_front
with_front-nil None = refl
with_front-nil (Some p) = refl

with_front-None : (a : List ℕ) → with_front a None ≡ None
unfolding with_front
with_front-None a = refl

high_bytes : (e : Enclosure) (bs rest : List ℕ) → Each (λ b. 128 ≤ b) bs → content_of e Between (bs ++ rest) ≡ with_front bs (content_of e Between rest)
unfolding content_of
high_bytes e [] rest h = with_front-nil (content_of e Between rest)
high_bytes e (b ∷ bs) rest h =
    rw (step-high e Between b h.0) (ap (with_front (b ∷ [])) (high_bytes e bs rest h.1) ∙ with_front-with_front (b ∷ []) bs (content_of e Between rest))

high_refused : (e : Enclosure) (s : State) (bs rest : List ℕ) → 0 < length bs → Each (λ b. 128 ≤ b) bs → high_effect s ≡ Refuse → content_of e s (bs ++ rest) ≡ None
unfolding content_of
high_refused e s [] rest l h r = absurd (omega arith)
high_refused e s (b ∷ bs) rest l h r = rw (step-high e s b h.0, r) refl

low_step : (e : Enclosure) (s : State) (c : ℕ) (rest : List ℕ) → c < 128 → content_of e s (encode c ++ rest) ≡ follow (λ next. content_of e next rest) (encode c) rest (step e s c)
unfolding content_of
low_step e s c rest l = rw (encode_ascii c l) refl

high_step : (e : Enclosure) (s : State) (c : ℕ) (rest : List ℕ) → 128 ≤ c → content_of e s (encode c ++ rest) ≡ follow (λ next. content_of e next rest) (encode c) rest (step e s c)
high_step e Between c rest h = rw (step-high e Between c h) (high_bytes e (encode c) rest (encode_high c h))
high_step e Backslash c rest h = rw (step-high e Backslash c h) (high_refused e Backslash (encode c) rest (omega (arith, length-encode c, len_utf8_bounds c)) (encode_high c h) refl)
high_step e (Digits left value) c rest h = rw (step-high e (Digits left value) c h) (high_refused e (Digits left value) (encode c) rest (omega (arith, length-encode c, len_utf8_bounds c)) (encode_high c h) refl)

char_step : (e : Enclosure) (s : State) (c : ℕ) (rest : List ℕ) → content_of e s (encode c ++ rest) ≡ follow (λ next. content_of e next rest) (encode c) rest (step e s c)
char_step e s c rest = ⊎_elim (low_step e s c rest) (high_step e s c rest) (cases_lt c 128)

-- the steps of a loop that has read `out` and has `left` before it
module _ (e : Enclosure) (s : State) (c : ℕ) (out left rest : List ℕ) (read : Option (List ℕ × List ℕ)) (is : left ≡ encode c ++ rest) (here : with_front out (content_of e s left) ≡ read) where
  stepped : (effect : Effect) → effect ≡ step e s c → with_front out (follow (λ next. content_of e next rest) (encode c) rest effect) ≡ read
  stepped effect does = ap (λ x. with_front out (follow (λ next. content_of e next rest) (encode c) rest x)) does ∙ sym (ap (with_front out) (ap (content_of e s) is ∙ char_step e s c rest)) ∙ here

  pub at_close : Close ≡ step e s c → Some (out, rest) ≡ read
  unfolding with_front
  at_close does = ap (λ l. Some (l, rest)) (sym (append-nil out)) ∙ stepped Close does

  pub at_refuse : Refuse ≡ step e s c → None ≡ read
  at_refuse does = sym (with_front-None out) ∙ stepped Refuse does

  pub at_go : (next : State) → Go next ≡ step e s c → with_front out (content_of e next rest) ≡ read
  at_go next does = stepped (Go next) does

  pub at_keep : Keep ≡ step e s c → with_front (out ++ encode c) (content_of e Between rest) ≡ read
  at_keep does = sym (with_front-with_front out (encode c) (content_of e Between rest)) ∙ stepped Keep does

  pub at_put : (meant : ℕ) → Put meant ≡ step e s c → with_front (out ++ encode meant) (content_of e Between rest) ≡ read
  at_put meant does = sym (with_front-with_front out (encode meant) (content_of e Between rest)) ∙ stepped (Put meant) does

-- the text ends before the content is closed
pub at_end : (e : Enclosure) (s : State) (out left : List ℕ) (read : Option (List ℕ × List ℕ)) → length left ≡ 0 → with_front out (content_of e s left) ≡ read → None ≡ read
unfolding content_of
at_end e s out [] read none here = sym (with_front-None out) ∙ here
at_end e s out (x ∷ xs) read none here = absurd (omega arith)
