-- The head of the answer to a match, from its parts.
use Rattle.std.proofs.Common.{◌≡◌, ◌∙◌, sym, ℕ, List, ◌++◌, codes, append_assoc}
use Rattle.std.specs.Fmt.{decimal}
use Rattle.replay_model.specs.Transcript.{match_head}
use Rattle.transcript.proofs.lines.match_line.Goals as goal

in_parts : (a b c d e : List ℕ) → a ++ (b ++ (c ++ (d ++ e))) ≡ a ++ b ++ c ++ d ++ e
in_parts a b c d e = sym (append_assoc a b (c ++ (d ++ e))) ∙ sym (append_assoc (a ++ b) c (d ++ e)) ∙ sym (append_assoc (a ++ b ++ c) d e)

pub returns : goal.returns
unfolding match_head
returns c = c.in_ok-format.ensures.ok ∙ in_parts (codes "# match ") (decimal c.args.number) (codes ": ") (decimal c.args.count) (codes " rows\n")
