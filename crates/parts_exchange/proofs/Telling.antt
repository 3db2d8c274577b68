-- What the store tells, and what the lines of both parts are together.
use Rattle.std.proofs.Common.{◌≡◌, true, false, List, ◌++◌, subst}
use Rattle.sorted_sets.specs.Rising.{difference, has, sorted}
use Rattle.rdf_term.specs.{declared.triple.Triple.Triple, Order.triple_cmp}
use Rattle.triple_catalog.specs.{declared.lines.TripleLines.TripleLines, Counts.Counts, Lines.AreLinesOf}
use Rattle.triple_store.specs.{declared.telling.Change.Change, declared.telling.Told.Told, Telling.IsChange, Telling.TellsIf}
use Rattle.triple_store.specs.declared.telling.Telling.TheVariants.{Change as TheChange}
use Rattle.triple_store.specs.declared.telling.Told.TheVariants.{Nothing as NothingTold, Whether as ToldWhether, Change as ToldChange}
use Rattle.parts_exchange.specs.Exchanged.{AreMerged, IsToldChange}

-- what is told where the change is asked for is one
pub told_change : (p q : Counts) (told : Told) → TellsIf TheChange p q told → IsToldChange told
told_change p q NothingTold h = h
told_change p q (ToldWhether changed) h = h
told_change p q (ToldChange change) h = tt

-- and it is that of the counts
pub change_told : (p q : Counts) (told : Told) (change : Change) → told ≡ ToldChange change → TellsIf TheChange p q told → IsChange p q change
change_told p q told change is h = subst (TellsIf TheChange p q) is h

-- two differences, of which the second is by keys, merged
pub merged : (first second : TripleLines) (old new own_before own_after others triples : List Triple) → AreLinesOf first (difference triple_cmp (sorted triple_cmp new) (sorted triple_cmp old)) → AreLinesOf second others
    → sorted triple_cmp old ≡ own_before → sorted triple_cmp new ≡ own_after
    → ((t : Triple) → has triple_cmp t (difference triple_cmp own_after own_before) ≡ true → has triple_cmp t others ≡ false)
    → triples ≡ sorted triple_cmp (difference triple_cmp own_after own_before ++ others) → AreMerged first second triples
merged first second old new own_before own_after others triples first_are second_are before_is after_is once all = record {
  some = difference triple_cmp own_after own_before;
  others = others;
  first_are = subst (AreLinesOf first) (λ i. difference triple_cmp (after_is i) (before_is i)) first_are;
  second_are = second_are;
  once = once;
  all = all;
}
