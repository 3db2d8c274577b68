-- The parts of a text that ends with a page as it stands, computed.
use Rattle.std.proofs.Common.{◌≡◌, ◌≢◌, ℕ, suc, ◌+◌, ◌-◌, Bool, true, false, cond, not, nat_lt, codes, List, [], ◌∷◌, ◌++◌, length, take, drop, Option, None, Some, option_map, Bor, refl, sym, ◌∙◌, ap, arith, append_assoc}
use Rattle.std.specs.{Option.MatchOption, List.after_first, List.before_first, List.list_any, List.position_or_len, Str.bytes_eq}
use Rattle.std.specs.Str.Pattern.{FindsTextPrefix, FindsTextSuffix, StripsPrefix, StripsSuffix}
use Rattle.std.proofs.lemmas.Bool.Decides.{nat_tests}
use Rattle.std.proofs.lemmas.List.{drop_at, length-append, length_push, take-append-drop, take_at}
use Rattle.std.proofs.{lemmas.List.Folds.list_any-append, lemmas.Slice.Eq.bytes_eq-Decides}
use Rattle.sorted_sets.proofs.Bools.{or_false_left, or_false_right}
use Rattle.snapshot.specs.LineText.{around_tab, is_tab, page_parts, without_prefix, without_suffix}

-- ---- a prefix

has_prefix : (n s rest : List ℕ) → s ≡ n ++ rest → without_prefix n s ≡ Some rest
has_prefix n s rest e =
    let front : take (length n) s ≡ n = ap (take (length n)) e ∙ take_at n rest (length n) refl in
    let there = (bytes_eq-Decides (take (length n) s) n).1 front in
    rw there (ap Some (ap (drop (length n)) e ∙ drop_at n rest (length n) refl))

no_prefix : (n s : List ℕ) → ((rest : List ℕ) → s ≢ n ++ rest) → without_prefix n s ≡ None
no_prefix n s none = by (bytes_eq (take (length n) s) n) refl
  where
    by : (b : Bool) → bytes_eq (take (length n) s) n ≡ b → cond b (Some (drop (length n) s)) None ≡ None
    by true e =
        let front = (bytes_eq-Decides (take (length n) s) n).0 e in
        absurd (none (drop (length n) s) (sym (take-append-drop (length n) s) ∙ ap (λ t. t ++ drop (length n) s) front))
    by false e = refl

-- what `strip_prefix` gives
pub prefixed : (n s : List ℕ) (r : Option (Bor (List ℕ))) → MatchOption r (FindsTextPrefix n s None) (λ x. StripsPrefix (FindsTextPrefix n) s x.now)
    → option_map {T = Bor (List ℕ)} {U = List ℕ} (λ x. x.now) r ≡ without_prefix n s
prefixed n s None none = sym (no_prefix n s none)
prefixed n s (Some x) (k, finds, cut, whole) = sym (has_prefix n s x.now (finds.1 ∙ ap (λ l. n ++ l) (sym cut)))

-- ---- a suffix

has_suffix : (n s front : List ℕ) → s ≡ front ++ n → without_suffix n s ≡ Some front
has_suffix n s front e =
    let m : length s - length n ≡ length front = omega (arith, ap length e, length-append front n) in
    let head : take (length s - length n) s ≡ front = ap (λ k. take k s) m ∙ ap (take (length front)) e ∙ take_at front n (length front) refl in
    let tail : drop (length s - length n) s ≡ n = ap (λ k. drop k s) m ∙ ap (drop (length front)) e ∙ drop_at front n (length front) refl in
    let there = (bytes_eq-Decides (drop (length s - length n) s) n).1 tail in
    rw there (ap Some head)

no_suffix : (n s : List ℕ) → ((front : List ℕ) → s ≢ front ++ n) → without_suffix n s ≡ None
no_suffix n s none = by (bytes_eq (drop (length s - length n) s) n) refl
  where
    by : (b : Bool) → bytes_eq (drop (length s - length n) s) n ≡ b → cond b (Some (take (length s - length n) s)) None ≡ None
    by true e =
        let tail = (bytes_eq-Decides (drop (length s - length n) s) n).0 e in
        absurd (none (take (length s - length n) s) (sym (take-append-drop (length s - length n) s) ∙ ap (λ t. take (length s - length n) s ++ t) tail))
    by false e = refl

-- what `strip_suffix` gives
pub suffixed : (n s : List ℕ) (r : Option (Bor (List ℕ))) → MatchOption r (FindsTextSuffix n s None) (λ x. StripsSuffix (FindsTextSuffix n) s x.now)
    → option_map {T = Bor (List ℕ)} {U = List ℕ} (λ x. x.now) r ≡ without_suffix n s
suffixed n s None none = sym (no_suffix n s none)
suffixed n s (Some x) (k, finds, cut, whole) = sym (has_suffix n s x.now (finds.1 ∙ ap (λ l. l ++ n) (sym cut)))

-- ---- the first TAB

tab_after : (front back : List ℕ) → list_any is_tab front ≡ false → position_or_len is_tab (front ++ 9 ∷ back) ≡ length front
tab_after [] back none = refl
tab_after (b ∷ bs) back none =
    let more : 1 + length bs ≡ suc (length bs) = omega arith in
    ap (λ t. cond (not t) (1 + position_or_len is_tab (bs ++ 9 ∷ back)) 0) (or_false_left (is_tab b) (list_any is_tab bs) none)
    ∙ ap (λ n. 1 + n) (tab_after bs back (or_false_right (is_tab b) (list_any is_tab bs) none)) ∙ more

no_tab : (text : List ℕ) → list_any is_tab text ≡ false → position_or_len is_tab text ≡ length text
no_tab [] none = refl
no_tab (b ∷ bs) none =
    let more : 1 + length bs ≡ suc (length bs) = omega arith in
    ap (λ t. cond (not t) (1 + position_or_len is_tab bs) 0) (or_false_left (is_tab b) (list_any is_tab bs) none)
    ∙ ap (λ n. 1 + n) (no_tab bs (or_false_right (is_tab b) (list_any is_tab bs) none)) ∙ more

tab_found : (front back : List ℕ) → list_any is_tab front ≡ false → around_tab (front ++ 9 ∷ back) ≡ Some (front, back)
tab_found front back none =
    let text : List ℕ = front ++ 9 ∷ back in
    let at : position_or_len is_tab text ≡ length front = tab_after front back none in
    let long : length text ≡ length front + length (9 ∷ back) = length-append front (9 ∷ back) in
    let within : nat_lt (position_or_len is_tab text) (length text) ≡ true = grind (arith, nat_tests) in
    let before : before_first is_tab text ≡ front = ap (λ n. take n text) at ∙ take_at front (9 ∷ back) (length front) refl in
    let after : after_first is_tab text ≡ back =
    ap (λ n. drop (n + 1) text) at ∙ ap (drop (length front + 1)) (sym (append_assoc front (9 ∷ []) back)) ∙ drop_at (front ++ 9 ∷ []) back (length front + 1) (length_push front 9) in
    rw within (λ i. Some (before i, after i))

tab_lacking : (text : List ℕ) → list_any is_tab text ≡ false → around_tab text ≡ None
tab_lacking text none =
    let at : position_or_len is_tab text ≡ length text = no_tab text none in
    let past : nat_lt (position_or_len is_tab text) (length text) ≡ false = grind (arith, nat_tests) in
    rw past refl

-- ---- all parts

pub parts_found : (front page : List ℕ) → list_any is_tab front ≡ false → page_parts (front ++ codes ",\t\"page\":" ++ page ++ codes "}") ≡ Some (front, page)
parts_found front page none =
    let back : List ℕ = codes "\"page\":" ++ (page ++ codes "}") in
    let split : front ++ codes ",\t\"page\":" ++ page ++ codes "}" ≡ (front ++ 44 ∷ []) ++ 9 ∷ back =
    append_assoc (front ++ codes ",\t\"page\":") page (codes "}") ∙ append_assoc front (codes ",\t\"page\":") (page ++ codes "}") ∙ sym (append_assoc front (44 ∷ []) (9 ∷ back)) in
    let lacks : list_any is_tab (front ++ 44 ∷ []) ≡ false = list_any-append is_tab front (44 ∷ []) ∙ rw none refl in
    ap page_parts split
    ∙ rw (
      tab_found (front ++ 44 ∷ []) back lacks,
      has_suffix (44 ∷ []) (front ++ 44 ∷ []) front refl,
      has_suffix (codes "}") (page ++ codes "}") page refl,
    ) refl

pub parts_lacking : (text : List ℕ) → list_any is_tab text ≡ false → page_parts text ≡ None
parts_lacking text none = rw (tab_lacking text none) refl
