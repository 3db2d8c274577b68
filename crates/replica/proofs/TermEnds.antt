-- A term's canonical text ends at the first space outside quotes.
use Rattle.std.proofs.Common.{◌≡◌, ℕ, suc, ◌+◌, ◌-◌, ◌<◌, ◌≤◌, ◌==◌, Bool, true, false, List, [], ◌∷◌, ◌++◌, Option, None, Some, MatchOption, IfSome, refl, sym, ◌∙◌, ap, ⊎_elim, append_assoc, append-nil, subst, true≢false, arith, length, take, drop, get_or, length-drop}
use Rattle.std.specs.{Char.is_ascii_alphanumeric, List.list_all, Option.option_map, Option.option_map_or}
use Rattle.std.proofs.{Math.Seq.drop-cons, lemmas.List.drop_all, lemmas.List.take_all, lemmas.List.take_more}
use Rattle.std.proofs.lemmas.Bool.{and_parts, cases_eq, ne_eqb}
use denote.Ref.{Bor}
use Rattle.sorted_sets.specs.Rising.{Each}
use Rattle.rdf_term.specs.declared.term.Term.{Term}
use Rattle.rdf_term.specs.declared.term.Term.TheVariants.{Iri, Blank, Plain, Lang, Typed}
use Rattle.rdf_term.specs.declared.tag.TagState.{TagState}
use Rattle.rdf_term.specs.declared.tag.TagState.TheVariants.{Start, First, Dash, Later}
use Rattle.rdf_term.specs.{Fit.is_fit, Grammar.is_iri, Grammar.is_iri_char, Grammar.is_tag, Grammar.is_word}
use Rattle.rdf_term.specs.{TagReader.is_rest_of_tag, TagReader.tag_state_after, Text.escaped, Text.in_brackets, Text.quoted, Text.term_text}
use Rattle.term_reading.specs.Reader.{with_front}
use Rattle.rdf_term.proofs.{Escapes.kind, Tags.is_tag_read}
use Rattle.replica.specs.declared.term_end.TermState.{TermState}
use Rattle.replica.specs.declared.term_end.TermState.TheVariants.{Outside, Quoted, Escaped}
use Rattle.replica.specs.TermEnd.{next_state, term_state_after, split_on, split_term}

-- ---- more bytes in front

pub with_front-nil : (read : Option (List ℕ × List ℕ)) → with_front [] read ≡ read
unfolding with_front
with_front-nil None = refl
with_front-nil (Some p) = refl

pub with_front-Some : (front text rest : List ℕ) → with_front front (Some (text, rest)) ≡ Some (front ++ text, rest)
unfolding with_front
with_front-Some front text rest = refl

pub with_front-None : (front : List ℕ) → with_front front None ≡ None
unfolding with_front
with_front-None front = refl

pub with_front-twice : (xs ys : List ℕ) (read : Option (List ℕ × List ℕ)) → with_front xs (with_front ys read) ≡ with_front (xs ++ ys) read
unfolding with_front
with_front-twice xs ys None = refl
with_front-twice xs ys (Some p) = ap (λ l. Some (l, p.1)) (sym (append_assoc xs ys p.0))

-- ---- bytes outside quotes

-- a byte that neither ends a term nor opens a quote
pub record IsInner (b : ℕ) : Type 0 where
  pub no_space : (b == 32) ≡ false
  pub no_quote : (b == 34) ≡ false

inner_next : (b : ℕ) → IsInner b → next_state Outside b ≡ Some Outside
unfolding next_state term_state_after
inner_next b h = rw (h.no_space, h.no_quote) refl

pub split_inner : (xs rest : List ℕ) → Each IsInner xs → split_term Outside (xs ++ 32 ∷ rest) ≡ Some (xs, rest)
unfolding split_term next_state
split_inner [] rest h = refl
split_inner (x ∷ xs) rest h =
    ap (split_on (λ next. split_term next (xs ++ 32 ∷ rest)) x (xs ++ 32 ∷ rest)) (inner_next x h.0)
    ∙ ap (with_front (x ∷ [])) (split_inner xs rest h.1)
    ∙ with_front-Some (x ∷ []) xs rest

-- ---- between quotes

stands_next : (b : ℕ) → (b == 34) ≡ false → (b == 92) ≡ false → next_state Quoted b ≡ Some Quoted
unfolding next_state term_state_after
stands_next b quote backslash = rw (quote, backslash) refl

quoted_byte : (b : ℕ) (rest : List ℕ) → next_state Quoted b ≡ Some Quoted → split_term Quoted (b ∷ rest) ≡ with_front (b ∷ []) (split_term Quoted rest)
unfolding split_term
quoted_byte b rest is = ap (split_on (λ next. split_term next rest) b rest) is

escaped_pair : (letter : ℕ) (rest : List ℕ) → split_term Quoted (92 ∷ letter ∷ rest) ≡ with_front (92 ∷ []) (with_front (letter ∷ []) (split_term Quoted rest))
unfolding split_term next_state term_state_after
escaped_pair letter rest = refl

closed : (rest : List ℕ) → split_term Quoted (34 ∷ rest) ≡ with_front (34 ∷ []) (split_term Outside rest)
unfolding split_term next_state term_state_after
closed rest = refl

split_escaped : (text rest : List ℕ) → split_term Quoted (escaped text ++ 34 ∷ rest) ≡ with_front (escaped text ++ 34 ∷ []) (split_term Outside rest)
split_escaped [] rest = closed rest
split_escaped (x ∷ xs) rest =
    let more = split_escaped xs rest in
    ⊎_elim
    (λ k. rw k.is (
    quoted_byte x (escaped xs ++ 34 ∷ rest) (stands_next x (ne_eqb x 34 k.not_quote) (ne_eqb x 92 k.not_backslash))
    ∙ ap (with_front (x ∷ [])) more
    ∙ with_front-twice (x ∷ []) (escaped xs ++ 34 ∷ []) (split_term Outside rest)))
    (λ k. rw k.is (
    escaped_pair k.letter (escaped xs ++ 34 ∷ rest)
    ∙ ap (λ r. with_front (92 ∷ []) (with_front (k.letter ∷ []) r)) more
    ∙ ap (with_front (92 ∷ [])) (with_front-twice (k.letter ∷ []) (escaped xs ++ 34 ∷ []) (split_term Outside rest))
    ∙ with_front-twice (92 ∷ []) (k.letter ∷ (escaped xs ++ 34 ∷ [])) (split_term Outside rest)))
    (kind x)

opens : (rest : List ℕ) → split_term Outside (34 ∷ rest) ≡ with_front (34 ∷ []) (split_term Quoted rest)
unfolding split_term next_state term_state_after
opens rest = refl

split_literal : (text suffix rest : List ℕ) → Each IsInner suffix → split_term Outside (quoted text suffix ++ 32 ∷ rest) ≡ Some (quoted text suffix, rest)
split_literal text suffix rest inner =
    opens ((escaped text ++ 34 ∷ suffix) ++ 32 ∷ rest)
    ∙ ap (λ bytes. with_front (34 ∷ []) (split_term Quoted bytes)) (append_assoc (escaped text) (34 ∷ suffix) (32 ∷ rest))
    ∙ ap (with_front (34 ∷ [])) (split_escaped text (suffix ++ 32 ∷ rest) ∙ ap (with_front (escaped text ++ 34 ∷ [])) (split_inner suffix rest inner) ∙ with_front-Some (escaped text ++ 34 ∷ []) suffix rest)
    ∙ with_front-Some (34 ∷ []) ((escaped text ++ 34 ∷ []) ++ suffix) rest
    ∙ ap (λ l. Some (34 ∷ l, rest)) (append_assoc (escaped text) (34 ∷ []) suffix)

-- ---- what stands outside quotes in a fit term

-- what passes a test that a byte doesn't pass isn't that byte
apart : (test : ℕ → Bool) (b k : ℕ) → test b ≡ true → test k ≡ false → (b == k) ≡ false
apart test b k passes fails = ne_eqb b k (λ same. true≢false (sym passes ∙ ap test same ∙ fails))

passing_inner : (test : ℕ → Bool) → test 32 ≡ false → test 34 ≡ false → (xs : List ℕ) → list_all test xs ≡ true → Each IsInner xs
passing_inner test space quote [] h = tt
passing_inner test space quote (x ∷ xs) h =
    let parts = and_parts (test x) (list_all test xs) h in
    (record { no_space = apart test x 32 parts.0 space; no_quote = apart test x 34 parts.0 quote }, passing_inner test space quote xs parts.1)

Each-append : (xs ys : List ℕ) → Each IsInner xs → Each IsInner ys → Each IsInner (xs ++ ys)
Each-append [] ys hx hy = hy
Each-append (x ∷ xs) ys hx hy = (hx.0, Each-append xs ys hx.1 hy)

one : (b : ℕ) → (b == 32) ≡ false → (b == 34) ≡ false → IsInner b
one b space quote = record { no_space = space; no_quote = quote }

brackets_inner : (iri : List ℕ) → is_iri iri ≡ true → Each IsInner (in_brackets iri)
brackets_inner iri h = (one 60 refl refl, Each-append iri (62 ∷ []) (passing_inner is_iri_char refl refl iri h) (one 62 refl refl, tt))

word_inner : (xs : List ℕ) → is_word is_ascii_alphanumeric xs ≡ true → Each IsInner xs
word_inner [] h = tt
word_inner (x ∷ xs) h = passing_inner is_ascii_alphanumeric refl refl (x ∷ xs) h

no_space_in_tag : (state : TagState) → tag_state_after state 32 ≡ None
no_space_in_tag Start = refl
no_space_in_tag First = refl
no_space_in_tag Dash = refl
no_space_in_tag Later = refl

no_quote_in_tag : (state : TagState) → tag_state_after state 34 ≡ None
no_quote_in_tag Start = refl
no_quote_in_tag First = refl
no_quote_in_tag Dash = refl
no_quote_in_tag Later = refl

-- a byte that may stand nowhere in a tag doesn't stand in it
not_in_tag : (k b : ℕ) (bs : List ℕ) (state : TagState) → ((q : TagState) → tag_state_after q k ≡ None) → is_rest_of_tag state (b ∷ bs) ≡ true → (b == k) ≡ false
not_in_tag k b bs state nowhere h =
    ne_eqb b k (λ same. true≢false (sym h ∙ ap (λ c. is_rest_of_tag state (c ∷ bs)) same ∙ ap (λ o. option_map_or (λ next. is_rest_of_tag next bs) o false) (nowhere state)))

rest_inner : (state : TagState) (bs : List ℕ) → is_rest_of_tag state bs ≡ true → Each IsInner bs
rest_inner state [] h = tt
rest_inner state (b ∷ bs) h = (
  one b (not_in_tag 32 b bs state no_space_in_tag h) (not_in_tag 34 b bs state no_quote_in_tag h),
  by (λ next. rest_inner next bs) (tag_state_after state b) h,
)
  where
    by : ((next : TagState) → is_rest_of_tag next bs ≡ true → Each IsInner bs) → (o : Option TagState) → option_map_or (λ next. is_rest_of_tag next bs) o false ≡ true → Each IsInner bs
    by others None never = absurd (true≢false (sym never))
    by others (Some next) goes = others next goes

tag_inner : (tag : List ℕ) → is_tag tag ≡ true → Each IsInner tag
tag_inner tag h = rest_inner Start tag (is_tag_read tag ∙ h)

-- ---- terms

pub term_ends : (term : Term) (rest : List ℕ) → is_fit term ≡ true → split_term Outside (term_text term ++ 32 ∷ rest) ≡ Some (term_text term, rest)
term_ends (Iri iri) rest fit = split_inner (in_brackets iri) rest (brackets_inner iri fit)
term_ends (Blank label) rest fit = split_inner (95 ∷ 58 ∷ label) rest (one 95 refl refl, (one 58 refl refl, word_inner label fit))
term_ends (Plain text) rest fit = split_literal text [] rest tt
term_ends (Lang text tag) rest fit = split_literal text (64 ∷ tag) rest (one 64 refl refl, tag_inner tag fit)
term_ends (Typed text datatype) rest fit =
    let iri = (and_parts (is_iri datatype) _ fit).0 in
    split_literal text (94 ∷ 94 ∷ in_brackets datatype) rest (one 94 refl refl, (one 94 refl refl, brackets_inner datatype iri))

-- ---- what a split gives

space_ends : (state : TermState) (b : ℕ) → next_state state b ≡ None → b ≡ 32
unfolding next_state
space_ends Outside b none = ⊎_elim (λ same. same) (λ other. let more : Some (term_state_after Outside b) ≡ None = rw (ne_eqb b 32 other) at none in cc) (cases_eq b 32)
space_ends Quoted b none = cc
space_ends Escaped b none = cc

put_before : (b : ℕ) (bs : List ℕ) (read : Option (List ℕ × List ℕ)) → IfSome read (λ parts. bs ≡ parts.0 ++ 32 ∷ parts.1) →
    IfSome (with_front (b ∷ []) read) (λ parts. b ∷ bs ≡ parts.0 ++ 32 ∷ parts.1)
unfolding with_front
put_before b bs None h = tt
put_before b bs (Some parts) h = ap (λ l. b ∷ l) h

-- what was split is put together again
pub split_joins : (state : TermState) (bytes : List ℕ) → IfSome (split_term state bytes) (λ parts. bytes ≡ parts.0 ++ 32 ∷ parts.1)
unfolding split_term
split_joins state [] = tt
split_joins state (b ∷ bs) = by (λ q. split_joins q bs) (next_state state b) refl
  where
    by : ((q : TermState) → IfSome (split_term q bs) (λ parts. bs ≡ parts.0 ++ 32 ∷ parts.1)) → (next : Option TermState) → next_state state b ≡ next → IfSome (split_on (λ q. split_term q bs) b bs next) (λ parts. b ∷ bs ≡ parts.0 ++ 32 ∷ parts.1)
    by others None none = ap (λ c. c ∷ bs) (space_ends state b none)
    by others (Some q) is = put_before b bs (split_term q bs) (others q)

-- the bytes of two slices
abbrev pub both : Bor (List ℕ) × Bor (List ℕ) → List ℕ × List ℕ
both parts = (parts.0.now, parts.1.now)

pub slices_join : (found : Option (Bor (List ℕ) × Bor (List ℕ))) (bytes : List ℕ) → option_map both found ≡ split_term Outside bytes →
    IfSome found (λ parts. bytes ≡ parts.0.now ++ 32 ∷ parts.1.now)
slices_join None bytes is = tt
slices_join (Some parts) bytes is = subst (λ o. IfSome o (λ p. bytes ≡ p.0 ++ 32 ∷ p.1)) (sym is) (split_joins Outside bytes)

pub slices_are : (found : Option (Bor (List ℕ) × Bor (List ℕ))) (text rest : List ℕ) → option_map both found ≡ Some (text, rest) →
    MatchOption found ⊥ (λ parts. (parts.0.now ≡ text) × (parts.1.now ≡ rest))
slices_are None text rest is = cc
slices_are (Some parts) text rest is =
    let same : both parts ≡ (text, rest) = cc in
    (ap (λ p. p.0) same, ap (λ p. p.1) same)

-- ---- byte by byte

drop_here : (bytes : List ℕ) (i b : ℕ) → i < length bytes → b ≡ get_or bytes i 0 → drop i bytes ≡ b ∷ drop (i + 1) bytes
drop_here bytes i b within is =
    let next : suc i ≡ i + 1 = omega arith in
    drop-cons bytes i 0 within ∙ ap (λ k. get_or bytes i 0 ∷ drop k bytes) next ∙ ap (λ c. c ∷ drop (i + 1) bytes) (sym is)

-- where a byte ends the term, what is split are the bytes before it and those behind it
pub stops_here : (bytes : List ℕ) (state : TermState) (i b : ℕ) → i < length bytes → b ≡ get_or bytes i 0 → next_state state b ≡ None →
    split_term Outside bytes ≡ with_front (take i bytes) (split_term state (drop i bytes)) →
    Some (take i bytes, take (length bytes - (i + 1)) (drop (i + 1) bytes)) ≡ split_term Outside bytes
unfolding split_term
stops_here bytes state i b within is none so_far =
    let rest : drop i bytes ≡ b ∷ drop (i + 1) bytes = drop_here bytes i b within is in
    let long : length (drop (i + 1) bytes) ≤ length bytes - (i + 1) = omega (arith, length-drop (i + 1) bytes) in
    ap (λ xs. Some (take i bytes, xs)) (take_all (length bytes - (i + 1)) (drop (i + 1) bytes) long)
    ∙ sym (so_far
    ∙ ap (λ xs. with_front (take i bytes) (split_term state xs)) rest
    ∙ ap (λ o. with_front (take i bytes) (split_on (λ next. split_term next (drop (i + 1) bytes)) b (drop (i + 1) bytes) o)) none
    ∙ with_front-Some (take i bytes) [] (drop (i + 1) bytes)
    ∙ ap (λ xs. Some (xs, drop (i + 1) bytes)) (append-nil (take i bytes)))

-- and otherwise the split goes on after it
pub goes_on : (bytes : List ℕ) (state next : TermState) (i b : ℕ) → i < length bytes → b ≡ get_or bytes i 0 → next_state state b ≡ Some next →
    split_term Outside bytes ≡ with_front (take i bytes) (split_term state (drop i bytes)) →
    split_term Outside bytes ≡ with_front (take (i + 1) bytes) (split_term next (drop (i + 1) bytes))
unfolding split_term
goes_on bytes state next i b within is more so_far =
    let rest : drop i bytes ≡ b ∷ drop (i + 1) bytes = drop_here bytes i b within is in
    so_far
    ∙ ap (λ xs. with_front (take i bytes) (split_term state xs)) rest
    ∙ ap (λ o. with_front (take i bytes) (split_on (λ q. split_term q (drop (i + 1) bytes)) b (drop (i + 1) bytes) o)) more
    ∙ with_front-twice (take i bytes) (b ∷ []) (split_term next (drop (i + 1) bytes))
    ∙ ap (λ xs. with_front xs (split_term next (drop (i + 1) bytes))) (ap (λ c. take i bytes ++ c ∷ []) is ∙ sym (take_more bytes i 0 within))

-- at the end none was found
pub not_ended : (bytes : List ℕ) (state : TermState) (i : ℕ) → length bytes ≤ i → split_term Outside bytes ≡ with_front (take i bytes) (split_term state (drop i bytes)) → None ≡ split_term Outside bytes
unfolding split_term
not_ended bytes state i past so_far =
    sym (so_far ∙ ap (λ xs. with_front (take i bytes) (split_term state xs)) (drop_all i bytes past) ∙ with_front-None (take i bytes))
