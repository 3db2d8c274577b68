-- A text is hashed piece by piece as it is hashed at once.
use Rattle.std.specs.Prelude.{◌≡◌, ℕ, List, [], ◌++◌, refl}
use Rattle.std.specs.Hash.DefaultHasher as sip
use Rattle.std.proofs.Common.{sym}
use Rattle.std.proofs.lemmas.List.Sums.{fold-append}

-- no bytes change nothing
pub write-none : (hasher : _) → sip.write hasher [] ≡ hasher
unfolding sip.write
write-none hasher = refl

-- it makes no difference how the bytes are cut
pub write-joined : (hasher : _) (first second : List ℕ) → sip.write (sip.write hasher first) second ≡ sip.write hasher (first ++ second)
unfolding sip.write
write-joined hasher first second = sym (fold-append sip.write_byte hasher first second)
