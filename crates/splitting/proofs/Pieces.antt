-- The texts of graphs that are printed one after the other.
use Rattle.std.proofs.Common.{◌≡◌, refl, sym, ◌∙◌, ap, ℕ, zero, suc, ◌+◌, ◌≤◌, ◌-◌, List, [], ◌++◌, Ok, Err, append_assoc, append-nil, add-one, arith}
use Rattle.text_output.specs.{declared.write.Unwritten.Unwritten, Printing.Output, Printing.Prints}
use Rattle.text_output.specs.declared.write.Unwritten.TheVariants.{OutOfMemory}
use Rattle.text_output.proofs.Parts.{cut_short_at_once, prints_both, prints_first}
use Rattle.subgraph.specs.Sections.{texts_below}

module _ (text : ℕ → List ℕ) where
  -- the text of the next graph
  pub below-next : (i : ℕ) → texts_below (i + 1) text ≡ texts_below i text ++ text i
  below-next i = ap (λ n. texts_below n text) (add-one i)

  -- the texts of some graphs, and those of the others
  below-more : (i d : ℕ) → (rest : List ℕ) × (texts_below (i + d) text ≡ texts_below i text ++ rest)
  below-more i zero =
      let same : i + 0 ≡ i = omega arith in
      ([], ap (λ n. texts_below n text) same ∙ sym (append-nil (texts_below i text)))
  below-more i (suc d) =
      let before = below-more i d in
      let next : i + suc d ≡ suc (i + d) = omega arith in
      (before.0 ++ text (i + d), ap (λ n. texts_below n text) next ∙ ap (λ l. l ++ text (i + d)) before.1 ∙ append_assoc (texts_below i text) before.0 (text (i + d)))

  pub below-parts : (i n : ℕ) → i ≤ n → (rest : List ℕ) × (texts_below n text ≡ texts_below i text ++ rest)
  below-parts i n few =
      let same : i + (n - i) ≡ n = omega arith in
      let parts = below-more i (n - i) in
      (parts.0, ap (λ m. texts_below m text) (sym same) ∙ parts.1)

  -- the text of the next graph was printed
  pub below_printed : (i : ℕ) (old between new : Output) → Prints (texts_below i text) old between (Ok tt) → Prints (text i) between new (Ok tt) → Prints (texts_below (i + 1) text) old new (Ok tt)
  below_printed i old between new before x = rw (below-next i) (prints_both (Ok tt) (texts_below i text) (text i) old between new before x)

  -- it wasn't printed wholly
  pub below_cut_short : (why : Unwritten) (i n : ℕ) (old between new : Output) → i + 1 ≤ n → Prints (texts_below i text) old between (Ok tt) → Prints (text i) between new (Err why) → Prints (texts_below n text) old new (Err why)
  below_cut_short why i n old between new few before x =
      let parts = below-parts (i + 1) n few in
      rw parts.1 (prints_first why (texts_below (i + 1) text) parts.0 old new (rw (below-next i) (prints_both (Err why) (texts_below i text) (text i) old between new before x)))

  -- it wasn't begun
  pub below_not_begun : (i n : ℕ) (old now : Output) → i ≤ n → Prints (texts_below i text) old now (Ok tt) → Prints (texts_below n text) old now (Err OutOfMemory)
  below_not_begun i n old now few before =
      let parts = below-parts i n few in
      rw parts.1 (prints_both (Err OutOfMemory) (texts_below i text) parts.0 old now now before (cut_short_at_once parts.0 now))
