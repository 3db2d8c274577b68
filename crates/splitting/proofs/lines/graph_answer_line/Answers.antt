-- The first line of an answer of a graph, from its parts.
use Rattle.std.proofs.Common.{◌≡◌, ◌∙◌, sym, ℕ, List, ◌++◌, codes, append_assoc}
use Rattle.std.specs.Fmt.{decimal}
use Rattle.subgraph.specs.Sections.{graph_answer_head}
use Rattle.splitting.proofs.lines.graph_answer_line.Goals as goal

in_parts : (a b c d e f g : List ℕ) → a ++ (b ++ (c ++ (d ++ (e ++ (f ++ g))))) ≡ a ++ b ++ c ++ d ++ e ++ f ++ g
in_parts a b c d e f g =
    sym (append_assoc a b (c ++ (d ++ (e ++ (f ++ g))))) ∙ sym (append_assoc (a ++ b) c (d ++ (e ++ (f ++ g)))) ∙ sym (append_assoc (a ++ b ++ c) d (e ++ (f ++ g)))
    ∙ sym (append_assoc (a ++ b ++ c ++ d) e (f ++ g)) ∙ sym (append_assoc (a ++ b ++ c ++ d ++ e) f g)

pub returns : goal.returns
unfolding graph_answer_head
returns c =
    c.in_ok-format.ensures.ok
    ∙ in_parts (codes "# ask ") (decimal c.args.number) (codes " ") c.args.name.now (codes ": ") (decimal c.args.count) (codes " triples\n")
