-- The blocks that lie in the bytes of a shelf.
use Rattle.std.proofs.Common.{◌≡◌, ℕ, zero, suc, ◌+◌, ◌*◌, ◌<◌, ◌≤◌, List, [], ◌∷◌, ◌++◌, length, take, drop, set, get_or, Option, Some, None, arith, refl, sym, ap, ◌∙◌}
use Rattle.std.specs.Prelude.{is_some, count_by, cond}
use Rattle.std.specs.Option.{option_map}
use Rattle.std.proofs.Math.Nat.{zero-mul, suc-mul, mul-le-mul_right}
use Rattle.std.proofs.lemmas.List.{take-append-le, take-take, take_at, drop-append-le, drop-drop, drop-take, length-take, length-drop}
use Rattle.std.proofs.lemmas.List.Sums.{sum_by-cons}
use Rattle.std.proofs.lemmas.Slice.{drop-append-drop}
use Rattle.text_region.specs.Blocks.{block_at, blocks_in}

-- there is a block for each length
pub length-blocks_in : (size : ℕ) (bytes : List ℕ) (lengths : List (Option ℕ)) → length (blocks_in size bytes lengths) ≡ length lengths
length-blocks_in size bytes [] = refl
length-blocks_in size bytes (None ∷ lengths) = ap suc (length-blocks_in size (drop size bytes) lengths)
length-blocks_in size bytes (Some len ∷ lengths) = ap suc (length-blocks_in size (drop size bytes) lengths)

-- the blocks in use are those with a length
pub used-blocks_in : (size : ℕ) (bytes : List ℕ) (lengths : List (Option ℕ)) → count_by is_some (blocks_in size bytes lengths) ≡ count_by is_some lengths
used-blocks_in size bytes [] = refl
used-blocks_in size bytes (None ∷ lengths) = used-blocks_in size (drop size bytes) lengths
used-blocks_in size bytes (Some len ∷ lengths) =
    sum_by-cons (λ o. cond (is_some o) 1 0) (Some (take len bytes)) (blocks_in size (drop size bytes) lengths)
    ∙ ap (λ n. 1 + n) (used-blocks_in size (drop size bytes) lengths)
    ∙ sym (sum_by-cons (λ o. cond (is_some o) 1 0) (Some len) lengths)

-- the bytes from a block on, among those behind the first block
later : (size number : ℕ) (bytes : List ℕ) → drop (number * size) (drop size bytes) ≡ drop (suc number * size) bytes
later size number bytes = drop-drop (number * size) size bytes ∙ ap (λ n. drop n bytes) (omega (arith, suc-mul number size))

-- the text of a block lies at its number of sizes
pub block_at-blocks_in : (size : ℕ) (bytes : List ℕ) (lengths : List (Option ℕ)) (number : ℕ) → block_at (blocks_in size bytes lengths) number ≡ option_map (λ len. take len (drop (number * size) bytes)) (get_or lengths number None)
block_at-blocks_in size bytes [] number = refl
block_at-blocks_in size bytes (None ∷ lengths) zero = refl
block_at-blocks_in size bytes (Some len ∷ lengths) zero = ap (λ at. Some (take len (drop at bytes))) (sym (zero-mul size))
block_at-blocks_in size bytes (None ∷ lengths) (suc number) =
    block_at-blocks_in size (drop size bytes) lengths number ∙ ap (λ rest. option_map (λ len. take len rest) (get_or lengths number None)) (later size number bytes)
block_at-blocks_in size bytes (Some first ∷ lengths) (suc number) =
    block_at-blocks_in size (drop size bytes) lengths number ∙ ap (λ rest. option_map (λ len. take len rest) (get_or lengths number None)) (later size number bytes)

-- each text is no longer than its block
abbrev pub Fit : ℕ → List (Option ℕ) → Type 0
Fit size lengths = (number len : ℕ) → get_or lengths number None ≡ Some len → len ≤ size

-- a block lies in the bytes
pub lies : (size number count whole : ℕ) → whole ≡ count * size → number < count → number * size + size ≤ whole
lies size number count whole h l = omega (arith, suc-mul number size, mul-le-mul_right {m = suc number} {n = count} size l)

within : (size number count whole : ℕ) → whole ≡ suc count * size → suc number < suc count → size + number * size ≤ whole
within size number count whole h l = omega (arith, suc-mul number size, lies size number (suc count) whole h (omega arith))

-- the bytes behind the first block
whole_rest : (size : ℕ) (bytes : List ℕ) (n : ℕ) → length bytes ≡ suc n * size → length (drop size bytes) ≡ n * size
whole_rest size bytes n h = omega (arith, suc-mul n size, length-drop size bytes)

-- the first block lies in the bytes
first_there : (size : ℕ) (bytes : List ℕ) (n : ℕ) → length bytes ≡ suc n * size → size ≤ length bytes
first_there size bytes n h = omega (arith, suc-mul n size)

-- bytes more, and a block in no use
pub blocks_in-push : (size : ℕ) (bytes more : List ℕ) (lengths : List (Option ℕ)) → length bytes ≡ length lengths * size → Fit size lengths
    → blocks_in size (bytes ++ more) (lengths ++ None ∷ []) ≡ blocks_in size bytes lengths ++ None ∷ []
blocks_in-push size bytes more [] h fit = refl
blocks_in-push size bytes more (None ∷ lengths) h fit =
    ap (λ rest. None ∷ blocks_in size rest (lengths ++ None ∷ [])) (drop-append-le size bytes more (first_there size bytes (length lengths) h))
    ∙ ap (λ rest. None ∷ rest) (blocks_in-push size (drop size bytes) more lengths (whole_rest size bytes (length lengths) h) (λ n. fit (suc n)))
blocks_in-push size bytes more (Some len ∷ lengths) h fit =
    let there = first_there size bytes (length lengths) h in
    let short : len ≤ size = fit 0 len refl in
    ap (λ text. Some text ∷ blocks_in size (drop size (bytes ++ more)) (lengths ++ None ∷ [])) (take-append-le len bytes more (omega (arith, there, short)))
    ∙ ap (λ rest. Some (take len bytes) ∷ blocks_in size rest (lengths ++ None ∷ [])) (drop-append-le size bytes more there)
    ∙ ap (λ rest. Some (take len bytes) ∷ rest) (blocks_in-push size (drop size bytes) more lengths (whole_rest size bytes (length lengths) h) (λ n. fit (suc n)))

-- a block that goes out of use
pub blocks_in-free : (size : ℕ) (bytes : List ℕ) (lengths : List (Option ℕ)) (number : ℕ) → blocks_in size bytes (set lengths number None) ≡ set (blocks_in size bytes lengths) number None
blocks_in-free size bytes [] number = refl
blocks_in-free size bytes (None ∷ lengths) zero = refl
blocks_in-free size bytes (Some len ∷ lengths) zero = refl
blocks_in-free size bytes (None ∷ lengths) (suc number) = ap (λ rest. None ∷ rest) (blocks_in-free size (drop size bytes) lengths number)
blocks_in-free size bytes (Some len ∷ lengths) (suc number) = ap (λ rest. Some (take len bytes) ∷ rest) (blocks_in-free size (drop size bytes) lengths number)

-- the bytes with a text written over them
abbrev pub written : List ℕ → ℕ → List ℕ → List ℕ
written bytes at text = take at bytes ++ (text ++ drop (length text) (drop at bytes))

-- a text written behind the first block
written_later : (size at : ℕ) (bytes text : List ℕ) → size + at ≤ length bytes → drop size (written bytes (size + at) text) ≡ written (drop size bytes) at text
written_later size at bytes text h =
    drop-append-le size (take (size + at) bytes) (text ++ drop (length text) (drop (size + at) bytes)) (omega (arith, length-take (size + at) bytes))
    ∙ ap (λ front. front ++ (text ++ drop (length text) (drop (size + at) bytes))) (drop-take size at bytes)
    ∙ ap (λ rest. take at (drop size bytes) ++ (text ++ drop (length text) rest)) (sym (drop-drop at size bytes))

-- the text of the first block stays
first_kept : (len size at : ℕ) (bytes text : List ℕ) → len ≤ size → size + at ≤ length bytes → take len (written bytes (size + at) text) ≡ take len bytes
first_kept len size at bytes text short h =
    take-append-le len (take (size + at) bytes) (text ++ drop (length text) (drop (size + at) bytes)) (omega (arith, length-take (size + at) bytes))
    ∙ take-take len (size + at) bytes (omega arith)

-- a block that comes into use
pub blocks_in-put : (size : ℕ) (bytes : List ℕ) (lengths : List (Option ℕ)) (number at : ℕ) (text : List ℕ) → length bytes ≡ length lengths * size → Fit size lengths
    → number < length lengths → length text ≤ size → at ≡ number * size
    → blocks_in size (written bytes at text) (set lengths number (Some (length text))) ≡ set (blocks_in size bytes lengths) number (Some text)
blocks_in-put size bytes [] number at text h fit l short e = absurd (omega arith)
blocks_in-put size bytes (None ∷ lengths) zero at text h fit l short e =
    rw (e ∙ zero-mul size) (ap (λ first. Some first ∷ blocks_in size (drop size (text ++ drop (length text) bytes)) lengths) (take_at text (drop (length text) bytes) (length text) refl)
    ∙ ap (λ rest. Some text ∷ blocks_in size rest lengths) (drop-append-drop (length text) bytes text size short refl))
blocks_in-put size bytes (Some len ∷ lengths) zero at text h fit l short e =
    rw (e ∙ zero-mul size) (ap (λ first. Some first ∷ blocks_in size (drop size (text ++ drop (length text) bytes)) lengths) (take_at text (drop (length text) bytes) (length text) refl)
    ∙ ap (λ rest. Some text ∷ blocks_in size rest lengths) (drop-append-drop (length text) bytes text size short refl))
blocks_in-put size bytes (None ∷ lengths) (suc number) at text h fit l short e =
    let there : size + number * size ≤ length bytes = within size number (length lengths) (length bytes) h l in
    let same : at ≡ size + number * size = omega (arith, suc-mul number size) in
    rw same (ap (λ rest. None ∷ blocks_in size rest (set lengths number (Some (length text)))) (written_later size (number * size) bytes text there)
    ∙ ap (λ rest. None ∷ rest) (blocks_in-put size (drop size bytes) lengths number (number * size) text (whole_rest size bytes (length lengths) h) (λ n. fit (suc n)) (omega arith) short refl))
blocks_in-put size bytes (Some len ∷ lengths) (suc number) at text h fit l short e =
    let there : size + number * size ≤ length bytes = within size number (length lengths) (length bytes) h l in
    let same : at ≡ size + number * size = omega (arith, suc-mul number size) in
    rw same (ap (λ first. Some first ∷ blocks_in size (drop size (written bytes (size + number * size) text)) (set lengths number (Some (length text)))) (first_kept len size (number * size) bytes text (fit 0 len refl) there)
    ∙ ap (λ rest. Some (take len bytes) ∷ blocks_in size rest (set lengths number (Some (length text)))) (written_later size (number * size) bytes text there)
    ∙ ap (λ rest. Some (take len bytes) ∷ rest) (blocks_in-put size (drop size bytes) lengths number (number * size) text (whole_rest size bytes (length lengths) h) (λ n. fit (suc n)) (omega arith) short refl))
