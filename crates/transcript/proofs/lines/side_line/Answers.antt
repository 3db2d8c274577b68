-- The line of an entry of the side output, from its parts.
use Rattle.std.proofs.Common.{◌≡◌, ◌∙◌, sym, ℕ, List, ◌++◌, codes, append_assoc}
use Rattle.replay_model.specs.Transcript.{side_line}
use Rattle.transcript.proofs.lines.side_line.Goals as goal

in_parts : (a b c d e f g h i : List ℕ) → a ++ (b ++ (c ++ (d ++ (e ++ (f ++ (g ++ (h ++ i))))))) ≡ a ++ b ++ c ++ d ++ e ++ f ++ g ++ h ++ i
in_parts a b c d e f g h i = sym (simp append_assoc)

pub returns : goal.returns
unfolding side_line
returns c = c.in_ok-format.ensures.ok ∙ in_parts (codes "# side ") c.args.word.now (codes " ") c.args.stands.now (codes " ") c.args.id.now (codes " ") c.args.words.now (codes "\n")
