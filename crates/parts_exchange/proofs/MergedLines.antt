-- Lines that are merged one after the other.
use Rattle.std.proofs.Common.{◌≡◌, ℕ, ◌+◌, List, [], ◌++◌, length, flat_map, sym, ◌∙◌, ap, arith, append-nil, append_assoc}
use Rattle.sorted_sets.specs.Rising.{sorted}
use Rattle.rdf_term.specs.{declared.triple.Triple.Triple, Order.triple_cmp, Text.triple_text}
use Rattle.triple_catalog.specs.{declared.lines.TripleLines.TripleLines, Lines.AreLinesOf}
use Rattle.parts_exchange.specs.declared.merging.NextLine.{NextLine}
use Rattle.parts_exchange.specs.Merging.{AreOrderedLines, IsNext}
use Rattle.parts_exchange.proofs.Merged.{empty_lines}

-- the lines so far, with those of what is left of both lists, are the lines of all
pub record IsMerging (some others : List Triple) (left right text : List ℕ) (count : ℕ) : Type 0 where
  pub some_left : List Triple
  pub others_left : List Triple
  pub left_is : left ≡ flat_map triple_text some_left
  pub right_is : right ≡ flat_map triple_text others_left
  pub ordered : AreOrderedLines some_left
  pub orders : AreOrderedLines others_left
  pub lines : text ++ flat_map triple_text (sorted triple_cmp (some_left ++ others_left)) ≡ flat_map triple_text (sorted triple_cmp (some ++ others))
  pub counted : count + length (sorted triple_cmp (some_left ++ others_left)) ≡ length (sorted triple_cmp (some ++ others))

-- so it is for each two lists in order whose lines the texts are
abbrev pub Merges : TripleLines → TripleLines → List ℕ → List ℕ → List ℕ → ℕ → Type 0
Merges first second left right text count = (some others : List Triple) → AreLinesOf first some → AreLinesOf second others → AreOrderedLines some → AreOrderedLines others → IsMerging some others left right text count

pub merging_start : (first second : TripleLines) (left right text : List ℕ) → left ≡ first.text.items → right ≡ second.text.items → text ≡ [] → Merges first second left right text 0
merging_start first second left right text l r none some others are those ordered orders = record {
  some_left = some;
  others_left = others;
  left_is = l ∙ are.text;
  right_is = r ∙ those.text;
  ordered = ordered;
  orders = orders;
  lines = ap (λ t. t ++ flat_map triple_text (sorted triple_cmp (some ++ others))) none;
  counted = omega arith;
}

pub merging_more : (first second : TripleLines) (left right text after : List ℕ) (count : ℕ) (next : NextLine)
    → ((some others : List Triple) → left ≡ flat_map triple_text some → right ≡ flat_map triple_text others → AreOrderedLines some → AreOrderedLines others → IsNext some others next)
    → after ≡ text ++ next.line.now → Merges first second left right text count → Merges first second next.left.now next.right.now after (count + 1)
merging_more first second left right text after count next steps pushed so_far some others are those ordered orders =
    let m = so_far some others are those ordered orders in
    let n = steps m.some_left m.others_left m.left_is m.right_is m.ordered m.orders in
    let rest = flat_map triple_text (sorted triple_cmp (n.left ++ n.right)) in
    record {
      some_left = n.left;
      others_left = n.right;
      left_is = n.left_is;
      right_is = n.right_is;
      ordered = n.left_ordered;
      orders = n.right_ordered;
      lines = ap (λ t. t ++ rest) (pushed ∙ ap (λ l. text ++ l) n.line_is) ∙ append_assoc text (triple_text n.triple) rest
          ∙ ap (λ l. text ++ flat_map triple_text l) (sym n.all) ∙ m.lines;
      counted = omega (arith, ap length n.all, m.counted);
    }

pub merging_end : (first second result : TripleLines) (left right : List ℕ) → length left ≡ 0 → length right ≡ 0 → Merges first second left right result.text.items result.count
    → (some others : List Triple) → AreLinesOf first some → AreLinesOf second others → AreOrderedLines some → AreOrderedLines others → AreLinesOf result (sorted triple_cmp (some ++ others))
merging_end first second result left right no_left no_right so_far some others are those ordered orders =
    let m = so_far some others are those ordered orders in
    let none = empty_lines m.some_left left m.left_is m.ordered no_left in
    let nothing = empty_lines m.others_left right m.right_is m.orders no_right in
    let rest : m.some_left ++ m.others_left ≡ [] = (λ i. none i ++ nothing i) in
    record {
      count = omega (arith, m.counted, ap (λ l. length (sorted triple_cmp l)) rest);
      text = sym (append-nil result.text.items) ∙ sym (ap (λ l. result.text.items ++ flat_map triple_text (sorted triple_cmp l)) rest) ∙ m.lines;
    }
