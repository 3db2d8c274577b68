-- The first line feed of a list of bytes, and what the line before it has.
use Rattle.std.proofs.Common.{refl, ap, ◌≡◌, ℕ, suc, ◌+◌, ◌<◌, ◌≤◌, Bool, true, false, not, cond, ◌==◌, nat_lt, List, [], ◌∷◌, ◌++◌, length, take, drop, Some, None, MatchOption, arith, take_all}
use Rattle.std.specs.List.{prefix_len, position}
use Rattle.std.proofs.lemmas.Bool.Decides.{nat_tests}
use Rattle.wq_io.specs.Lines.{IsOneLine, line_feed}
use Rattle.wq_io.specs.Taking.{EndsAt}

-- how many bytes stand before the first line feed
abbrev pub before_feed : List ℕ → ℕ
before_feed bytes = prefix_len (λ b. not (b == line_feed)) bytes

one_more : (n : ℕ) → 1 + n ≡ suc n
one_more n = omega arith

line_case : (b : ℕ) (bs : List ℕ) (n : ℕ) (t : Bool) → (b == line_feed) ≡ t → IsOneLine (take n bs) → IsOneLine (take (cond (not t) (1 + n) 0) (b ∷ bs))
line_case b bs n true is h = refl
line_case b bs n false is h = rw (one_more n) (rw is h)

-- the bytes before it are one line
pub before_feed-line : (bytes : List ℕ) → IsOneLine (take (before_feed bytes) bytes)
before_feed-line [] = refl
before_feed-line (b ∷ bs) = line_case b bs (before_feed bs) (b == line_feed) refl (before_feed-line bs)

ends_case : (b : ℕ) (bs : List ℕ) (n : ℕ) (t : Bool) → (b == line_feed) ≡ t → (n < length bs → bs ≡ take n bs ++ line_feed ∷ drop (suc n) bs) →
    cond (not t) (1 + n) 0 < length (b ∷ bs) → b ∷ bs ≡ take (cond (not t) (1 + n) 0) (b ∷ bs) ++ line_feed ∷ drop (suc (cond (not t) (1 + n) 0)) (b ∷ bs)
ends_case b bs n true is h within = let feed : b ≡ line_feed = grind (arith, nat_tests) in ap (λ x. x ∷ bs) feed
ends_case b bs n false is h within =
    let shorter : n < length bs = omega arith in
    rw (one_more n) (ap (λ xs. b ∷ xs) (h shorter))

-- it is a line feed that stands there
pub before_feed-ends : (bytes : List ℕ) → before_feed bytes < length bytes →
    bytes ≡ take (before_feed bytes) bytes ++ line_feed ∷ drop (suc (before_feed bytes)) bytes
before_feed-ends [] within = absurd (omega arith)
before_feed-ends (b ∷ bs) within = ends_case b bs (before_feed bs) (b == line_feed) refl (before_feed-ends bs) within

found : (bytes : List ℕ) (t : Bool) → nat_lt (before_feed bytes) (length bytes) ≡ t →
    MatchOption (cond t (Some (before_feed bytes)) None) (IsOneLine bytes) (λ index. EndsAt index bytes)
found bytes true is =
    let within : before_feed bytes < length bytes = grind (arith, nat_tests) in
    record { within = within; in_line = before_feed-line bytes; is = before_feed-ends bytes within }
found bytes false is =
    let all : length bytes ≤ before_feed bytes = grind (arith, nat_tests) in
    rw (take_all (before_feed bytes) bytes all) at (before_feed-line bytes)

-- the position of the first line feed, or one line
pub line_feed_position : (bytes : List ℕ) →
    MatchOption (position (λ b. b == line_feed) bytes) (IsOneLine bytes) (λ index. EndsAt index bytes)
line_feed_position bytes = found bytes (nat_lt (before_feed bytes) (length bytes)) refl
