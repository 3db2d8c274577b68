-- What changes cost, one after the other.
use Rattle.std.proofs.Common.{◌≡◌, ℕ, ◌+◌, ◌≤◌, sym, subst, arith}
use Rattle.std.specs.FinMap as map
use Rattle.text_region.specs.Region.{Texts}
use Rattle.triple_catalog.specs.{declared.catalog.Catalog.Catalog, Costs.Costs, Stored.IsStored, Stored.counts_in}
use Rattle.triple_store.specs.{Telling.if_told, declared.telling.Telling.Telling}
use Rattle.triple_store.specs.declared.telling.Telling.TheVariants.{Nothing, Whether, Change}
use Rattle.triple_catalog.proofs.{Unchanged.len_image, Costs.both, Costs.at_most}

-- the same of the stored triples, of which there are as many as keys
pub counted : (st : Catalog) (r : Texts) (new : Catalog) (u : Texts) (a x before after : ℕ) → IsStored st r → IsStored new u → Costs (map.len st.index) (map.len new.index) a x before after → Costs (map.len (counts_in st r)) (map.len (counts_in new u)) a x before after
counted st r new u a x before after h k costs =
    subst (λ n. Costs n (map.len (counts_in new u)) a x before after) (sym (len_image st r h)) (subst (λ m. Costs (map.len st.index) m a x before after) (sym (len_image new u k)) costs)

-- what a patch makes come, by its texts, and then what it makes go
pub patched : (n m k texts adds undone removes before mid after : ℕ) → texts ≡ adds → undone ≤ texts → Costs n m texts undone before mid → Costs m k 0 removes mid after → Costs n k adds (adds + removes) before after
patched n m k texts adds undone removes before mid after e few f g = at_most n k (texts + 0) adds (undone + removes) (adds + removes) before after (omega arith) (omega arith) (both n m k texts 0 undone removes before mid after f g)

-- what came, what is told of it, and what went
pub told_between : (n m k came told most gone old before mid then after : ℕ) → Costs n m came 0 before mid → Costs m m 0 told mid then → Costs m k 0 gone then after → told ≤ most → gone ≤ came + old → Costs n k came (most + (came + old)) before after
told_between n m k came told most gone old before mid then after f g h few le =
    at_most n k (came + (0 + 0)) came (0 + (told + gone)) (most + (came + old)) before after (omega arith) (omega arith)
    (both n m k came (0 + 0) 0 (told + gone) before mid after f (both m m k 0 0 told gone mid then after g h))

-- fewer look-ups where fewer are told
pub told_fewer : (telling : Telling) (a b : ℕ) → a ≤ b → if_told telling a ≤ if_told telling b
told_fewer Change a b h = h
told_fewer Whether a b h = h
told_fewer Nothing a b h = omega arith
