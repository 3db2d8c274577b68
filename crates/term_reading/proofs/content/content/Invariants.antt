use Rattle.std.proofs.Common.{◌≡◌, length, string_bytes}
use Rattle.std.specs.Str.Iter.{chars_rest}
use Rattle.term_reading.specs.declared.content.State.TheVariants.{Between}
use Rattle.term_reading.specs.Reader.{content_of, with_front}
use Rattle.term_reading.proofs.content.content.Given as goal

abbrev pub invariant-loop-c : goal.invariant-loop-c
invariant-loop-c l = with_front (string_bytes l.out) (content_of l.enclosure l.state (chars_rest l.left)) ≡ content_of l.enclosure Between l.fn.text

abbrev pub decreases-loop-c : goal.decreases-loop-c
decreases-loop-c l = length (chars_rest l.left)
