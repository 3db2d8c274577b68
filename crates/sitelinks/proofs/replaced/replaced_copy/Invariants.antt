use Rattle.std.proofs.Common.{◌≡◌, ◌++◌, length, string_bytes}
use Rattle.std.specs.Str.Iter.{chars_rest}
use Rattle.sitelinks.specs.Replaced.{replaced}
use Rattle.sitelinks.proofs.replaced.replaced_copy.Given as goal

abbrev pub invariant-loop-c : goal.invariant-loop-c
invariant-loop-c l = string_bytes l.out ++ replaced l.fn.from l.fn.to (chars_rest l.left) ≡ replaced l.fn.from l.fn.to l.fn.text

abbrev pub decreases-loop-c : goal.decreases-loop-c
decreases-loop-c l = length (chars_rest l.left)
