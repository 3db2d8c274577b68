-- The first line of a graph, from its parts.
use Rattle.std.proofs.Common.{◌≡◌, ◌∙◌, sym, ℕ, List, ◌++◌, codes, append_assoc}
use Rattle.std.specs.Fmt.{decimal}
use Rattle.subgraph.specs.Sections.{graph_head}
use Rattle.splitting.proofs.lines.graph_line.Goals as goal

in_parts : (a b c d e : List ℕ) → a ++ (b ++ (c ++ (d ++ e))) ≡ a ++ b ++ c ++ d ++ e
in_parts a b c d e = sym (append_assoc a b (c ++ (d ++ e))) ∙ sym (append_assoc (a ++ b) c (d ++ e)) ∙ sym (append_assoc (a ++ b ++ c) d e)

pub returns : goal.returns
unfolding graph_head
returns c = c.in_ok-format.ensures.ok ∙ in_parts (codes "# graph ") c.args.name.now (codes ": ") (decimal c.args.count) (codes " triples\n")
