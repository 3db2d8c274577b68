-- What `strip_suffix` gives of a text, computed.
use Rattle.std.proofs.Common.{◌≡◌, ◌≢◌, ℕ, ◌-◌, Bool, true, false, List, ◌++◌, drop, take, length, Option, Some, None, option_map, Bor, refl, subst, sym, ap, ◌∙◌, arith}
use Rattle.std.specs.Option.{MatchOption}
use Rattle.std.specs.Str.{bytes_eq}
use Rattle.std.specs.Str.Pattern.{FindsTextSuffix, StripsSuffix}
use Rattle.std.proofs.Math.Seq.{drop-append_seam}
use Rattle.std.proofs.lemmas.List.{length-take-le, take-append-drop}
use Rattle.std.proofs.lemmas.Slice.Eq.{bytes_eq-Decides}
use Rattle.sitelinks.specs.Project.{without_suffix}

-- a text behind another is what is left without the other's length
pub drop-behind : (front back : List ℕ) (n : ℕ) → length front ≡ n → drop n (front ++ back) ≡ back
drop-behind front back n e = rw (← e) (drop-append_seam front back)

ends : (s n : List ℕ) → s ≡ take (length s - length n) s ++ n → drop (length s - length n) s ≡ n
ends s n e =
    let m = length s - length n in
    ap (λ t. drop m t) e ∙ drop-behind (take m s) n m (length-take-le m s (omega arith))

-- a test for the end of a text
no_end : (n s : List ℕ) → ((front : List ℕ) → s ≢ front ++ n) → bytes_eq (drop (length s - length n) s) n ≡ false
no_end n s none = by (bytes_eq (drop m s) n) refl
  where
    m : ℕ
    m = length s - length n

    by : (b : Bool) → bytes_eq (drop m s) n ≡ b → b ≡ false
    by true e =
        let tail = (bytes_eq-Decides (drop m s) n).0 e in
        absurd (none (take m s) (sym (take-append-drop m s) ∙ ap (λ t. take m s ++ t) tail))
    by false e = refl

pub stripped : (n s : List ℕ) (r : Option (Bor (List ℕ))) → MatchOption r (FindsTextSuffix n s None) (λ x. StripsSuffix (FindsTextSuffix n) s x.now) → option_map {T = Bor (List ℕ)} {U = List ℕ} (λ x. x.now) r ≡ without_suffix n s
stripped n s None none = rw (no_end n s none) refl
stripped n s (Some x) (k, finds, cut, whole) =
    let e : s ≡ take (length s - length n) s ++ n = subst (λ (i : ℕ). s ≡ take (length s - i) s ++ n) finds.0 finds.1 in
    let there = (bytes_eq-Decides (drop (length s - length n) s) n).1 (ends s n e) in
    rw there (ap Some (cut ∙ ap (λ (i : ℕ). take (length s - i) s) finds.0))
