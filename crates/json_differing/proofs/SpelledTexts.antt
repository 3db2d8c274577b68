-- The value that a text has, by the value that was read.
use Rattle.std.proofs.Common.{◌≡◌, ℕ, true, List, [], Some, refl, sym, ap, subst, ◌∙◌, append-nil}
use Rattle.json_spell.specs.Tree.{Tree}
use Rattle.json_spell.specs.Closed.{ends_itself}
use Rattle.json_spell.specs.Grammar.{is_ws, IsValue, Reads}
use Rattle.json_spell.specs.Nesting.{Nests}
use Rattle.json_spell.specs.Reading.{before, skip, spaced, value_at}
use Rattle.json_differing.specs.Readable.{HasValue}
use Rattle.json_differing.specs.Spelled.{IsEnclosed, read_or_null, tree_of}
use Rattle.json_spell.proofs.Complete.{text-complete, value_span}
use Rattle.json_spell.proofs.Opened.{map_some}

-- a text that a value is spelled as
value_text : (t : Tree) (x : List ℕ) → IsValue t x → tree_of x ≡ t
unfolding tree_of
value_text t x h =
    let reads : Reads x t = record { before = []; inside = x; after = []; ws_before = tt; holds = h; ws_after = tt; is = sym (append-nil x) } in
    ap read_or_null (text-complete x t reads)

-- what was read at the front of a text
pub read_tree : (t : Tree) (x rest : List ℕ) → spaced value_at x ≡ Some (t, rest) → t ≡ tree_of x
unfolding tree_of
read_tree t x rest e = sym (ap read_or_null e)

-- the text before what follows a value
pub span_tree : (s : List ℕ) (t : Tree) (r text : List ℕ) → value_at s ≡ Some (t, r) → text ≡ before r s → (tree_of text ≡ t) × IsValue t text
span_tree s t r text e is =
    let h : IsValue t text = subst (λ (q : List ℕ). IsValue t q) (sym is) (value_span s t r e).0 in
    (value_text t text h, h)

-- with white space around the value
pub span_read : (bytes start : List ℕ) (t : Tree) (r text rest : List ℕ) → start ≡ skip is_ws bytes → value_at start ≡ Some (t, r) → text ≡ before r start → rest ≡ skip is_ws r
    → spaced value_at bytes ≡ Some (tree_of text, rest)
span_read bytes start t r text rest start_is e is rest_is =
    let at : value_at (skip is_ws bytes) ≡ Some (t, r) = ap value_at (sym start_is) ∙ e in
    let read : spaced value_at bytes ≡ Some (t, skip is_ws r) = rw at refl in
    read ∙ ap (λ q. Some (t, q)) (sym rest_is) ∙ ap (λ (u : Tree). Some (u, rest)) (sym (span_tree start t r text e is).0)

pub span_nests : (n : ℕ) (s : List ℕ) (t : Tree) (r text : List ℕ) → value_at s ≡ Some (t, r) → text ≡ before r s → Nests n t → Nests n (tree_of text)
span_nests n s t r text e is nests = subst (λ (u : Tree). Nests n u) (sym (span_tree s t r text e is).0) nests

-- a value in brackets that a scan passed over
module _ (levels : ℕ) (bytes start end text rest : List ℕ) (has : HasValue levels bytes) (start_is : start ≡ skip is_ws bytes) (text_is : text ≡ before end start) (rest_is : rest ≡ skip is_ws end)
    (past : (n : ℕ) (t : Tree) (r : List ℕ) → Nests n t → value_at start ≡ Some (t, r) → (end ≡ r) × (ends_itself t ≡ true)) where
  found : (p : Tree × List ℕ) × ((value_at start ≡ Some p) × ((p.0 ≡ has.tree) × Unit {0}))
  found =
      let m = map_some (λ (p : Tree × List ℕ). (p.0, skip is_ws p.1)) (value_at (skip is_ws bytes)) has.read in
      (m.0, (ap value_at start_is ∙ m.1.0, (ap (λ (q : Tree × List ℕ). q.0) m.1.1, tt)))

  told : (end ≡ found.0.1) × (ends_itself found.0.0 ≡ true)
  told = past levels found.0.0 found.0.1 (subst (λ (u : Tree). Nests levels u) (sym found.1.1.0) has.nests) found.1.0

  text_before : text ≡ before found.0.1 start
  text_before = text_is ∙ ap (λ q. before q start) told.0

  pub scanned_read : spaced value_at bytes ≡ Some (tree_of text, rest)
  scanned_read = span_read bytes start found.0.0 found.0.1 text rest start_is found.1.0 text_before (rest_is ∙ ap (skip is_ws) told.0)

  pub scanned_closed : IsEnclosed text
  scanned_closed =
      let s = span_tree start found.0.0 found.0.1 text found.1.0 text_before in
      (ap ends_itself s.0 ∙ told.1, subst (λ (u : Tree). IsValue u text) (sym s.0) s.1)
