-- What was read so far and the content of what is left make the content of all.
use Rattle.std.proofs.Common.{◌≡◌, ◌≤◌, ◌++◌, length}
use Rattle.std.specs.String.{string_bytes}
use Rattle.json_spell.specs.Reading.{read_map, content_at}
use Rattle.json_reader.proofs.string.read_content.Given as goal

abbrev pub invariant-loop-content : goal.invariant-loop-content
invariant-loop-content l = record {
  same : read_map (λ m. string_bytes l.content ++ m) (content_at l.left) ≡ content_at l.bytes;
  no_longer : length l.left ≤ length l.bytes;
}

abbrev pub decreases-loop-content : goal.decreases-loop-content
decreases-loop-content l = length l.left
