-- A patch: what comes is put in the place of nothing, and then what goes has one owner less.
use Rattle.std.proofs.Common.{◌≡◌, ◌<◌, List, [], ◌∷◌, ap, refl, arith}
use Rattle.std.specs.List.{flat_map}
use Rattle.sorted_sets.specs.Rising.{has}
use Rattle.rdf_term.specs.{declared.triple.Triple.Triple, Order.triple_cmp}
use Rattle.text_region.specs.Region.{Texts}
use Rattle.term_pool.specs.Pool.{one_if}
use Rattle.triple_catalog.specs.{declared.catalog.Catalog.Catalog, Counts.Exchanges, Counts.count_of, Moves.Loses}
use Rattle.triple_catalog.specs.Stored.{AreKeysOf, KeepsKeys, counts_in}

-- no keys are those of no triples
pub no_keys : (st : Catalog) (r : Texts) → AreKeysOf st r [] []
no_keys st r = record { rising = tt; each = λ key h. cc; all = λ t h. cc }

-- what came has one owner more, and then what goes one less
pub applied : (st : Catalog) (r : Texts) (mid : Catalog) (s : Texts) (new : Catalog) (u : Texts) (adds removes : List Triple) → Exchanges (counts_in st r) (counts_in mid s) [] adds → Loses mid s new u removes
    → Exchanges (counts_in st r) (counts_in new u) removes adds
applied st r mid s new u adds removes a b = record { counts = λ t. omega (arith, a.counts t, b.counts t) }

-- a triple that has owners behind both keeps its key
pub both_keep : (st : Catalog) (r : Texts) (mid : Catalog) (s : Texts) (new : Catalog) (u : Texts) (removes : List Triple) → KeepsKeys st r mid s → Loses mid s new u removes → KeepsKeys st r new u
both_keep st r mid s new u removes a b = record { kept = λ key t was some. b.keeps.kept key t (a.kept key t was (omega (arith, b.counts t, some))) some }

pub still_owned : (st : Catalog) (r : Texts) (mid : Catalog) (s : Texts) (adds : List Triple) (t : Triple) → Exchanges (counts_in st r) (counts_in mid s) [] adds → 0 < count_of (counts_in st r) t → 0 < count_of (counts_in mid s) t
still_owned st r mid s adds t a some = omega (arith, a.counts t, some)

-- where nothing comes
pub only_lost : (st : Catalog) (r : Texts) (new : Catalog) (u : Texts) (removes adds : List Triple) → adds ≡ [] → Loses st r new u removes → Exchanges (counts_in st r) (counts_in new u) removes adds
only_lost st r new u removes adds none h = record { counts = λ t. omega (arith, h.counts t, ap (λ (ts : List Triple). one_if (has triple_cmp t ts)) none) }

-- a list of each element by itself is the list
pub each_itself : (ts : List Triple) → flat_map (λ t. t ∷ []) ts ≡ ts
each_itself [] = refl
each_itself (t ∷ ts) = ap (λ l. t ∷ l) (each_itself ts)
