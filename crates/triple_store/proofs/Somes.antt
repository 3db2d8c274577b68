-- There are triples under keys exactly where there are keys.
use Rattle.std.proofs.Common.{◌≡◌, true, ◌||◌, nat_lt, List, [], ◌∷◌, length, refl, sym, ◌∙◌, ap, arith}
use Rattle.std.proofs.{lemmas.Bool.Decides.Decides-ltb, lemmas.List.length-map}
use Rattle.sorted_sets.specs.Rising.{has, sorted}
use Rattle.sorted_sets.proofs.{Bools.clash, Rising.has-sorted, Rising.has_itself}
use Rattle.rdf_term.specs.{declared.triple.Triple.Triple, Order.triple_cmp, Order.triple_cmp-total}
use Rattle.text_region.specs.Region.{Texts}
use Rattle.slot_keys.specs.declared.key.Key.{Key}
use Rattle.triple_catalog.specs.{declared.catalog.Catalog.Catalog, Moves.triples_at, Slots.triple_at}
use Rattle.triple_store.specs.Telling.{is_some_change}

some_in : (t : Triple) (ts : List Triple) → has triple_cmp t ts ≡ true → nat_lt 0 (length ts) ≡ true
some_in t [] there = clash there refl
some_in t (x ∷ ts) there = (Decides-ltb 0 (length (x ∷ ts))).1 (omega arith)

some_sorted : (ts : List Triple) → nat_lt 0 (length ts) ≡ nat_lt 0 (length (sorted triple_cmp ts))
some_sorted [] = refl
some_sorted (t ∷ ts) = (Decides-ltb 0 (length (t ∷ ts))).1 (omega arith) ∙ sym (some_in t (sorted triple_cmp (t ∷ ts)) (has-sorted triple_cmp-total t (t ∷ ts) ∙ has_itself triple_cmp-total t ts))

some_triples : (st : Catalog) (r : Texts) (keys : List Key) → nat_lt 0 (length keys) ≡ nat_lt 0 (length (sorted triple_cmp (triples_at st r keys)))
some_triples st r keys = ap (nat_lt 0) (sym (length-map keys (triple_at st.pool r))) ∙ some_sorted (triples_at st r keys)

-- whether keys came or are gone, and whether their triples did
pub some_change : (st : Catalog) (r : Texts) (came gone : List Key) → (nat_lt 0 (length came) || nat_lt 0 (length gone)) ≡ is_some_change (sorted triple_cmp (triples_at st r came)) (sorted triple_cmp (triples_at st r gone))
some_change st r came gone = λ i. some_triples st r came i || some_triples st r gone i
