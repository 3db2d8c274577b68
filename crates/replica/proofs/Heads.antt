-- The words of a head's line.
use Rattle.std.proofs.Common.{◌≡◌, ◌≢◌, ℕ, zero, suc, ◌<◌, ◌^◌, List, [], ◌∷◌, ◌++◌, sym, ◌∙◌, subst, append_assoc, arith, codes}
use Rattle.std.specs.{Fmt.decimal, Str.IsAscii, Str.IsUtf8}
use Rattle.std.proofs.{lemmas.Fmt.IsAscii-decimal, lemmas.Fmt.digits_decimal, lemmas.Str.IsAscii-append, lemmas.Str.IsUtf8-from_ascii}
use Rattle.std.proofs.{lemmas.Str.Ascii.IsAscii-nil, lemmas.Str.Ascii.IsAscii-cons, lemmas.Str.Parse.digit_at}
use Rattle.digits.proofs.Decimals.{decimal_numerals}
use Rattle.replica.specs.{declared.head.Head.Head, Head.HasNoSpace, Head.IsHead, Head.head_line}

-- the words with the spaces between them
pub line_words : (head : Head) →
    head_line head ≡ (35 ∷ []) ++ 32 ∷ (codes "patch" ++ 32 ∷ (decimal head.number ++ 32 ∷ ((43 ∷ decimal head.adds) ++ 32 ∷ (45 ∷ decimal head.removes))))
unfolding head_line
line_words head =
    let P = codes "# patch " in
    let n = decimal head.number in
    let S = codes " +" in
    let a = decimal head.adds in
    let M = codes " -" in
    let r = decimal head.removes in
    append_assoc (P ++ n ++ S ++ a) M r ∙ append_assoc (P ++ n ++ S) a (M ++ r) ∙ append_assoc (P ++ n) S (a ++ (M ++ r)) ∙ append_assoc P n (S ++ (a ++ (M ++ r)))

-- no digit is a space
pub no_space_in_decimal : (n : ℕ) → n < 2 ^ 64 → HasNoSpace (decimal n)
no_space_in_decimal n small = λ i within is.
    let range = digit_at (decimal n) i (digits_decimal decimal_numerals n small) within in
    absurd (omega (arith, range.0, is))

pub no_space_in_mark : HasNoSpace (35 ∷ [])
no_space_in_mark zero within is = absurd (omega arith)
no_space_in_mark (suc i) within is = absurd (omega arith)

-- nor is a byte of these words
pub no_space_in_sign : (sign n : ℕ) → sign ≢ 32 → n < 2 ^ 64 → HasNoSpace (sign ∷ decimal n)
no_space_in_sign sign n other small zero within is = other is
no_space_in_sign sign n other small (suc i) within is = no_space_in_decimal n small i (omega arith) is

-- a head's line is ASCII
pub head_utf8 : (line : List ℕ) (head : Head) → IsHead line head → IsUtf8 line
unfolding head_line
head_utf8 line head is = subst IsUtf8 (sym is.text) (IsUtf8-from_ascii (head_line head)
    (IsAscii-append (codes "# patch " ++ decimal head.number ++ codes " +" ++ decimal head.adds ++ codes " -") (decimal head.removes)
    (IsAscii-append (codes "# patch " ++ decimal head.number ++ codes " +" ++ decimal head.adds) (codes " -")
    (IsAscii-append (codes "# patch " ++ decimal head.number ++ codes " +") (decimal head.adds)
    (IsAscii-append (codes "# patch " ++ decimal head.number) (codes " +")
    (IsAscii-append (codes "# patch ") (decimal head.number) (word) (IsAscii-decimal head.number is.number)) plus) (IsAscii-decimal head.adds is.adds)) minus) (IsAscii-decimal head.removes is.removes)))
  where
    pair : (x y : ℕ) → x < 128 → y < 128 → IsAscii (x ∷ y ∷ [])
    pair x y l k = IsAscii-cons x (y ∷ []) l (IsAscii-cons y [] k IsAscii-nil)

    plus : IsAscii (codes " +")
    plus = pair 32 43 (omega arith) (omega arith)

    minus : IsAscii (codes " -")
    minus = pair 32 45 (omega arith) (omega arith)

    word : IsAscii (codes "# patch ")
    word = IsAscii-append (35 ∷ 32 ∷ 112 ∷ 97 ∷ []) (116 ∷ 99 ∷ 104 ∷ 32 ∷ [])
        (IsAscii-append (35 ∷ 32 ∷ []) (112 ∷ 97 ∷ []) (pair 35 32 (omega arith) (omega arith)) (pair 112 97 (omega arith) (omega arith)))
        (IsAscii-append (116 ∷ 99 ∷ []) (104 ∷ 32 ∷ []) (pair 116 99 (omega arith) (omega arith)) (pair 104 32 (omega arith) (omega arith)))

no_space_in_five : (a b c d e : ℕ) → a ≢ 32 → b ≢ 32 → c ≢ 32 → d ≢ 32 → e ≢ 32 → HasNoSpace (a ∷ b ∷ c ∷ d ∷ e ∷ [])
no_space_in_five a b c d e na nb nc nd ne zero within is = na is
no_space_in_five a b c d e na nb nc nd ne (suc zero) within is = nb is
no_space_in_five a b c d e na nb nc nd ne (suc (suc zero)) within is = nc is
no_space_in_five a b c d e na nb nc nd ne (suc (suc (suc zero))) within is = nd is
no_space_in_five a b c d e na nb nc nd ne (suc (suc (suc (suc zero)))) within is = ne is
no_space_in_five a b c d e na nb nc nd ne (suc (suc (suc (suc (suc n))))) within is = absurd (omega arith)

pub no_space_in_name : HasNoSpace (codes "patch")
no_space_in_name = no_space_in_five 112 97 116 99 104 (λ e. absurd (omega arith)) (λ e. absurd (omega arith)) (λ e. absurd (omega arith)) (λ e. absurd (omega arith)) (λ e. absurd (omega arith))
