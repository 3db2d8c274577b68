-- A text behind another, compared with a third that has been taken apart.
use Rattle.std.proofs.Common.{◌≡◌, ◌≢◌, ℕ, Bool, true, false, List, ◌++◌, refl, sym, ◌∙◌, ap}
use Rattle.std.proofs.lemmas.Bool.Decides.{same_from_decides}
use Rattle.std.proofs.lemmas.List.{append_cancel_left}
use Rattle.std.proofs.lemmas.Slice.Eq.{bytes_eq-Decides}
use Rattle.std.specs.Str.{bytes_eq}

-- where the third begins with the first, what is left decides
pub joined : (front back rest text : List ℕ) → text ≡ front ++ rest → bytes_eq back rest ≡ bytes_eq (front ++ back) text
joined front back rest text e =
    let all = bytes_eq-Decides (front ++ back) text in
    same_from_decides (bytes_eq back rest) (bytes_eq (front ++ back) text) (bytes_eq-Decides back rest)
    (λ h. append_cancel_left front back rest (all.0 h ∙ e), λ q. all.1 (ap (λ t. front ++ t) q ∙ sym e))

-- and where it doesn't, they differ
pub not_joined : (front back text : List ℕ) → ((rest : List ℕ) → text ≢ front ++ rest) → false ≡ bytes_eq (front ++ back) text
not_joined front back text none = by (bytes_eq (front ++ back) text) refl
  where
    by : (b : Bool) → bytes_eq (front ++ back) text ≡ b → false ≡ b
    by true e = absurd (none back (sym ((bytes_eq-Decides (front ++ back) text).0 e)))
    by false e = refl

-- a text is the same as itself
pub same_text : (text : List ℕ) → bytes_eq text text ≡ true
same_text text = (bytes_eq-Decides text text).1 refl
