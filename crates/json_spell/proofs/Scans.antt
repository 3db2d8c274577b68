-- The scan from the front of a text answers as the definition of a deep text.
use Rattle.std.proofs.Common.{◌≡◌, ℕ, Bool, true, false, List, refl}
use Rattle.json_spell.specs.Deep.{IsDeep}
use Rattle.json_spell.specs.Scan.{is_deep_text}
use Rattle.json_spell.proofs.Depth.{deep, shallow}

-- a scan that finds it is right
pub scan-sound : (bytes : List ℕ) → is_deep_text bytes ≡ true → IsDeep bytes
unfolding is_deep_text
scan-sound bytes e = deep bytes e

found-by : (bytes : List ℕ) (b : Bool) → is_deep_text bytes ≡ b → IsDeep bytes → b ≡ true
unfolding is_deep_text
found-by bytes true e is = refl
found-by bytes false e is = absurd (shallow bytes e is)

-- it finds each deep text
pub scan-deep : (bytes : List ℕ) → IsDeep bytes → is_deep_text bytes ≡ true
scan-deep bytes is = found-by bytes (is_deep_text bytes) refl is

missed-by : (bytes : List ℕ) (b : Bool) → is_deep_text bytes ≡ b → ¬ (IsDeep bytes) → b ≡ false
missed-by bytes true e low = absurd (low (scan-sound bytes e))
missed-by bytes false e low = refl

-- and no other
pub scan-shallow : (bytes : List ℕ) → ¬ (IsDeep bytes) → is_deep_text bytes ≡ false
scan-shallow bytes low = missed-by bytes (is_deep_text bytes) refl low
