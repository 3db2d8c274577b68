-- The entries of graphs where an entity is placed.
use Rattle.std.proofs.Common.{◌≡◌, ◌≢◌, ℕ, zero, suc, ◌+◌, ◌<◌, ◌≤◌, ◌==◌, Bool, true, false, cond, ◌&&◌, List, [], ◌∷◌, ◌++◌, length, Option, None, Some, Result, Ok, Err, OnOk, OnErr, set, length-set, IfNone, IfSome, is_some, option_map, slice_get, refl, sym, ◌∙◌, ap, subst, true≢false, ⊎_elim, arith}
use Rattle.std.specs.Prelude.{map as mapped}
use Rattle.std.specs.FinMap as map
use Rattle.std.specs.{FinMap.find, List.AllByRecursion, Option.option_and_then, Ordering.eq_by_cmp}
use Rattle.std.proofs.lemmas.Bool.Decides.{eqb_tells}
use Rattle.sorted_sets.specs.Rising.{has}
use Rattle.rdf_term.specs.{declared.triple.Triple.Triple, Order.triple_cmp}
use Rattle.entity_model.specs.{declared.id.EntityId.EntityId, EntityId.entity_cmp, EntityId.entity_cmp_total, EntityId.entity_cmp_same}
use Rattle.term_pool.specs.declared.fault.PoolFault.{PoolFault}
use Rattle.subgraph.specs.Entries.{Entry, GraphState, graph_triples, terms_with, triples_in, union_of}
use Rattle.subgraph.specs.Placing.{AreApart, HaveLimit, IsPlaced, IsSetAt, set_at, set_of}
use Rattle.subgraph.specs.Split.{entries_from, entries_in, entry, graph_of}
use Rattle.subgraph.proofs.Owning.{gathered_if, id_tells, same_gathered}

-- ---- the first graph that has an entity

-- one, or else the other
abbrev or_else : {A : Type 0} → Option A → Option A → Option A
or_else None other = other
or_else (Some x) other = Some x

-- the entry of an entity in the first of the graphs that has it, where the first has the index n
abbrev first_in : ℕ → List GraphState → EntityId → Option Entry
first_in n [] x = None
first_in n (g ∷ gs) x = or_else (option_map (entry n) (map.get g.sets x)) (first_in (n + 1) gs x)

find-append : (x : EntityId) (es fs : List (EntityId × Entry)) → find entity_cmp x (es ++ fs) ≡ or_else (find entity_cmp x es) (find entity_cmp x fs)
find-append x [] fs = refl
find-append x (e ∷ es) fs = ap (cond (eq_by_cmp entity_cmp x e.0) (Some e.1)) (find-append x es fs) ∙ by (eq_by_cmp entity_cmp x e.0)
  where
    by : (b : Bool) → cond b (Some e.1) (or_else (find entity_cmp x es) (find entity_cmp x fs)) ≡ or_else (cond b (Some e.1) (find entity_cmp x es)) (find entity_cmp x fs)
    by true = refl
    by false = refl

find-entries : (n : ℕ) (x : EntityId) (es : List (EntityId × List Triple)) → find entity_cmp x (mapped (λ e. (e.0, entry n e.1)) es) ≡ option_map (entry n) (find entity_cmp x es)
find-entries n x [] = refl
find-entries n x (e ∷ es) = ap (cond (eq_by_cmp entity_cmp x e.0) (Some (entry n e.1))) (find-entries n x es) ∙ by (eq_by_cmp entity_cmp x e.0)
  where
    by : (b : Bool) → cond b (Some (entry n e.1)) (option_map (entry n) (find entity_cmp x es)) ≡ option_map (entry n) (cond b (Some e.1) (find entity_cmp x es))
    by true = refl
    by false = refl

find-from : (n : ℕ) (gs : List GraphState) (x : EntityId) → find entity_cmp x (entries_from n gs) ≡ first_in n gs x
find-from n [] x = refl
find-from n (g ∷ gs) x =
    find-append x (mapped (λ e. (e.0, entry n e.1)) (map.entries g.sets)) (entries_from (n + 1) gs)
    ∙ ap (λ o. or_else o (find entity_cmp x (entries_from (n + 1) gs))) (find-entries n x (map.entries g.sets) ∙ ap (option_map (entry n)) (sym (map.get-entries g.sets x)))
    ∙ ap (or_else (option_map (entry n) (map.get g.sets x))) (find-from (n + 1) gs x)

get_first : (gs : List GraphState) (x : EntityId) → map.get (entries_in gs) x ≡ first_in 0 gs x
get_first gs x = map.get-from_entries entity_cmp_total (entries_from 0 gs) x ∙ find-from 0 gs x

none_first : (n : ℕ) (gs : List GraphState) (x : EntityId) → ((i : ℕ) → is_some (set_at gs i x) ≡ false) → first_in n gs x ≡ None
none_first n [] x none = refl
none_first n (g ∷ gs) x none = by (map.get g.sets x) (none 0) (none_first (n + 1) gs x (λ i. none (suc i)))
  where
    by : (o : Option (List Triple)) → is_some o ≡ false → first_in (n + 1) gs x ≡ None → or_else (option_map (entry n) o) (first_in (n + 1) gs x) ≡ None
    by None _ rest = rest
    by (Some ts) is rest = absurd (true≢false is)

first_is : (n : ℕ) (gs : List GraphState) (x : EntityId) (i : ℕ) (ts : List Triple) → set_at gs i x ≡ Some ts → ((j : ℕ) → j < i → is_some (set_at gs j x) ≡ false) → first_in n gs x ≡ Some (entry (n + i) ts)
first_is n [] x i ts is before = absurd (true≢false (sym (ap is_some is)))
first_is n (g ∷ gs) x zero ts is before =
    ap (λ o. or_else (option_map (entry n) o) (first_in (n + 1) gs x)) is
    ∙ (let same : n ≡ n + 0 = omega arith in ap (λ m. Some (entry m ts)) same)
first_is n (g ∷ gs) x (suc i) ts is before =
    by (map.get g.sets x) (before 0 (omega arith)) (first_is (n + 1) gs x i ts is (λ j low. before (suc j) (omega (arith, low))))
    ∙ (let same : n + 1 + i ≡ n + suc i = omega arith in ap (λ m. Some (entry m ts)) same)
  where
    by : (o : Option (List Triple)) → is_some o ≡ false → first_in (n + 1) gs x ≡ Some (entry (n + 1 + i) ts) → or_else (option_map (entry n) o) (first_in (n + 1) gs x) ≡ Some (entry (n + 1 + i) ts)
    by None _ rest = rest
    by (Some us) some rest = absurd (true≢false some)

-- the entry that is found is that of a graph
first_from : (n : ℕ) (gs : List GraphState) (x : EntityId) (e : Entry) → first_in n gs x ≡ Some e → (i : ℕ) × (e.graph ≡ n + i) × (set_at gs i x ≡ Some e.triples)
first_from n [] x e is = absurd (true≢false (sym (ap is_some is)))
first_from n (g ∷ gs) x e is = by (map.get g.sets x) refl (first_from (n + 1) gs x e) is
  where
    inside : (a b : Entry) → Some a ≡ Some b → a ≡ b
    inside a b h = cc

    by : (o : Option (List Triple)) → map.get g.sets x ≡ o → (first_in (n + 1) gs x ≡ Some e → (i : ℕ) × (e.graph ≡ n + 1 + i) × (set_at gs i x ≡ Some e.triples))
        → or_else (option_map (entry n) o) (first_in (n + 1) gs x) ≡ Some e → (i : ℕ) × (e.graph ≡ n + i) × (set_at (g ∷ gs) i x ≡ Some e.triples)
    by None _ others rest =
        let one : (i : ℕ) × (e.graph ≡ n + 1 + i) × (set_at gs i x ≡ Some e.triples) = others rest in
        (suc one.0, omega (arith, one.1), one.2)
    by (Some ts) is others here =
        let same : entry n ts ≡ e = inside (entry n ts) e here in
        let graph : n ≡ e.graph = ap (λ (f : Entry). f.graph) same in
        (0, omega (arith, graph), is ∙ ap (λ (f : Entry). Some f.triples) same)

same_first : (n : ℕ) (gs hs : List GraphState) (x : EntityId) → length gs ≡ length hs → ((i : ℕ) → set_at gs i x ≡ set_at hs i x) → first_in n gs x ≡ first_in n hs x
same_first n [] [] x long same = refl
same_first n [] (h ∷ hs) x long same = absurd (omega (arith, long))
same_first n (g ∷ gs) [] x long same = absurd (omega (arith, long))
same_first n (g ∷ gs) (h ∷ hs) x long same =
    ap (λ o. or_else (option_map (entry n) o) (first_in (n + 1) gs x)) (same 0)
    ∙ ap (or_else (option_map (entry n) (map.get h.sets x))) (same_first (n + 1) gs hs x (omega (arith, long)) (λ i. same (suc i)))

-- ---- the entry of an entity

alone : (gs : List GraphState) (x : EntityId) (i : ℕ) (ts : List Triple) → AreApart gs → set_at gs i x ≡ Some ts → (j : ℕ) → j < i → is_some (set_at gs j x) ≡ false
alone gs x i ts apart is j low = by (is_some (set_at gs j x)) refl
  where
    by : (b : Bool) → is_some (set_at gs j x) ≡ b → b ≡ false
    by true there = let same = apart x j i there (ap is_some is) in absurd (omega (arith, same, low))
    by false there = refl

-- the entry of an entity that a graph has
pub entry_is : (gs : List GraphState) (x : EntityId) (i : ℕ) (ts : List Triple) → AreApart gs → set_at gs i x ≡ Some ts → map.get (entries_in gs) x ≡ Some (entry i ts)
entry_is gs x i ts apart is = get_first gs x ∙ first_is 0 gs x i ts is (alone gs x i ts apart is) ∙ (let same : 0 + i ≡ i = omega arith in ap (λ m. Some (entry m ts)) same)

-- no graph has it
pub entry_none : (gs : List GraphState) (x : EntityId) → ((i : ℕ) → is_some (set_at gs i x) ≡ false) → map.get (entries_in gs) x ≡ None
entry_none gs x none = get_first gs x ∙ none_first 0 gs x none

-- an entry is that of a graph
pub entry_from : (gs : List GraphState) (x : EntityId) (e : Entry) → map.get (entries_in gs) x ≡ Some e → set_at gs e.graph x ≡ Some e.triples
entry_from gs x e is =
    let one : (i : ℕ) × (e.graph ≡ 0 + i) × (set_at gs i x ≡ Some e.triples) = first_from 0 gs x e (sym (get_first gs x) ∙ is) in
    let same : e.graph ≡ one.0 = omega (arith, one.1) in
    ap (λ i. set_at gs i x) same ∙ one.2

-- ---- an entity is placed

some_set : (p : Option Entry) (i j : ℕ) → is_some (set_of p i) ≡ true → is_some (set_of p j) ≡ true → i ≡ j
some_set None i j is also = absurd (true≢false (sym is))
some_set (Some e) i j is also = at_graph i is ∙ sym (at_graph j also)
  where
    at_graph : (k : ℕ) → is_some (set_of (Some e) k) ≡ true → k ≡ e.graph
    at_graph k h = ⊎_elim
        (λ same. sym same.1)
        (λ other. absurd (true≢false (sym h ∙ ap (λ b. is_some (cond b (Some e.triples) None)) other.0)))
        (eqb_tells e.graph k)

set_here : (e : Entry) → set_of (Some e) e.graph ≡ Some e.triples
set_here e = ⊎_elim (λ same. ap (λ b. cond b (Some e.triples) None) same.0) (λ other. absurd (other.1 refl)) (eqb_tells e.graph e.graph)

module _ (old new : List GraphState) (x : EntityId) (p : Option Entry) (apart : AreApart old) (h : IsPlaced old new x p) where
  -- no entity is in two graphs then
  pub apart_still : AreApart new
  apart_still y i j is also = ⊎_elim
      (λ own.
      let here : (k : ℕ) → set_at new k y ≡ set_of p k = λ k. ap (set_at new k) own.1 ∙ h.here k in
      some_set p i j (ap is_some (sym (here i)) ∙ is) (ap is_some (sym (here j)) ∙ also))
      (λ other. apart y i j (ap is_some (sym (h.others i y other.0)) ∙ is) (ap is_some (sym (h.others j y other.0)) ∙ also))
      (id_tells y x)

  others_same : (y : EntityId) → eq_by_cmp entity_cmp y x ≡ false → map.get (entries_in new) y ≡ map.get (entries_in old) y
  others_same y other = get_first new y ∙ same_first 0 new old y h.long (λ i. h.others i y other) ∙ sym (get_first old y)

  -- it has the entry then
  pub entries_with : (e : Entry) → p ≡ Some e → entries_in new ≡ map.insert (entries_in old) x e
  entries_with e is = map.same_map entity_cmp_total entity_cmp_same _ _ (λ y.
      ⊎_elim
      (λ own. ap (map.get (entries_in new)) own.1
      ∙ entry_is new x e.graph e.triples apart_still (h.here e.graph ∙ ap (λ o. set_of o e.graph) is ∙ set_here e)
      ∙ sym (ap (λ b. cond b (Some e) (map.get (entries_in old) y)) own.0))
      (λ other. others_same y other.0 ∙ sym (ap (λ b. cond b (Some e) (map.get (entries_in old) y)) other.0))
      (id_tells y x)
      ∙ sym (map.get-insert entity_cmp_total (entries_in old) x e y))

  -- it has no entry then, if it goes to no graph
  pub entries_without : p ≡ None → entries_in new ≡ map.remove (entries_in old) x
  entries_without is = map.same_map entity_cmp_total entity_cmp_same _ _ (λ y.
      ⊎_elim
      (λ own. ap (map.get (entries_in new)) own.1
      ∙ entry_none new x (λ i. ap is_some (h.here i) ∙ ap (λ o. is_some (set_of o i)) is)
      ∙ sym (ap (λ b. cond b None (map.get (entries_in old) y)) own.0))
      (λ other. others_same y other.0 ∙ sym (ap (λ b. cond b None (map.get (entries_in old) y)) other.0))
      (id_tells y x)
      ∙ sym (map.get-remove entity_cmp_total (entries_in old) x y))

-- ---- the triples of a graph

pub graph_is : (gs : List GraphState) (k : ℕ) (g : GraphState) → AreApart gs → slice_get gs k ≡ Some g → graph_triples (entries_in gs) k ≡ union_of g.sets
graph_is gs k g apart at = same_gathered (λ (e : EntityId × Entry). triples_in k e.1) (λ (e : EntityId × List Triple). e.1) (entries_in gs) g.sets
    (λ x v t is there. ⊎_elim
    (λ same.
    let set : set_at gs v.graph x ≡ Some v.triples = entry_from gs x v is in
    let here : map.get g.sets x ≡ Some v.triples = sym (in_graph x) ∙ ap (λ i. set_at gs i x) (sym same.1) ∙ set in
    gathered_if (λ (e : EntityId × List Triple). e.1) g.sets x v.triples t here (sym (ap (λ b. has triple_cmp t (cond b v.triples [])) same.0) ∙ there))
    (λ other. absurd (true≢false (sym there ∙ ap (λ b. has triple_cmp t (cond b v.triples [])) other.0)))
    (eqb_tells v.graph k))
    (λ x w t is there.
    gathered_if (λ (e : EntityId × Entry). triples_in k e.1) (entries_in gs) x (entry k w) t (entry_is gs x k w apart (in_graph x ∙ is))
    (⊎_elim (λ same. ap (λ b. has triple_cmp t (cond b w [])) same.0 ∙ there) (λ other. absurd (other.1 refl)) (eqb_tells k k)))
  where
    in_graph : (x : EntityId) → set_at gs k x ≡ map.get g.sets x
    in_graph x = ap (option_and_then (λ (h : GraphState). map.get h.sets x)) at

-- ---- the graph of an entity

graph_found : (gs : List GraphState) (x : EntityId) (i : ℕ) → AreApart gs → is_some (set_at gs i x) ≡ true → graph_of (entries_in gs) x ≡ Some i
graph_found gs x i apart there = by (set_at gs i x) refl there
  where
    by : (o : Option (List Triple)) → set_at gs i x ≡ o → is_some o ≡ true → graph_of (entries_in gs) x ≡ Some i
    by None is h = absurd (true≢false (sym h))
    by (Some ts) is h = ap (option_map (λ (e : Entry). e.graph)) (entry_is gs x i ts apart is)

pub graph_told : (gs : List GraphState) (x : EntityId) (r : Option ℕ) → AreApart gs
    → IfSome r (λ i. (i < length gs) × (is_some (set_at gs i x) ≡ true)) → IfNone r ((i : ℕ) → is_some (set_at gs i x) ≡ false) → r ≡ graph_of (entries_in gs) x
graph_told gs x None apart found none = sym (ap (option_map (λ (e : Entry). e.graph)) (entry_none gs x none))
graph_told gs x (Some i) apart found none = sym (graph_found gs x i apart found.1)

-- ---- the steps of placing

own : (x : EntityId) → eq_by_cmp entity_cmp x x ≡ true
own x = ⊎_elim (λ same. same.0) (λ other. absurd (other.1 refl)) (id_tells x x)

flips : (i j : ℕ) → (i == j) ≡ (j == i)
flips i j = ⊎_elim
    (λ same. same.0 ∙ sym (⊎_elim (λ back. back.0) (λ other. absurd (other.1 (sym same.1))) (eqb_tells j i)))
    (λ differ. differ.0 ∙ sym (⊎_elim (λ back. absurd (differ.1 (sym back.1))) (λ other. other.0) (eqb_tells j i)))
    (eqb_tells i j)

no_set : (o : Option (List Triple)) → is_some o ≡ false → o ≡ None
no_set None h = refl
no_set (Some ts) h = absurd (true≢false h)

module _ (old new : List GraphState) (graph : ℕ) (x : EntityId) (set : Option (List Triple)) (h : IsSetAt old new graph x set) where
  others_at : (i : ℕ) (y : EntityId) → eq_by_cmp entity_cmp y x ≡ false → set_at new i y ≡ set_at old i y
  others_at i y other = h.at i y ∙ ap (λ b. cond ((i == graph) && b) set (set_at old i y)) other ∙ by (i == graph)
    where
      by : (b : Bool) → cond (b && false) set (set_at old i y) ≡ set_at old i y
      by true = refl
      by false = refl

  here_at : (i : ℕ) → set_at new i x ≡ cond (i == graph) set (set_at old i x)
  here_at i = h.at i x ∙ ap (λ b. cond ((i == graph) && b) set (set_at old i x)) (own x) ∙ by (i == graph)
    where
      by : (b : Bool) → cond (b && true) set (set_at old i x) ≡ cond b set (set_at old i x)
      by true = refl
      by false = refl

-- an entity that is in a graph is in no other
none_but : (old : List GraphState) (x : EntityId) (i : ℕ) → AreApart old → is_some (set_at old i x) ≡ true → (j : ℕ) → (j == i) ≡ false → set_at old j x ≡ None
none_but old x i apart there j other = by (set_at old j x) refl
  where
    by : (o : Option (List Triple)) → set_at old j x ≡ o → o ≡ None
    by None is = refl
    by (Some ts) is = ⊎_elim
        (λ same. absurd (true≢false (sym same.0 ∙ other)))
        (λ differ. absurd (differ.1 (apart x j i (ap is_some is) there)))
        (eqb_tells j i)

-- an entity that is in no other graph is placed where its set is set
module _ (old new : List GraphState) (graph : ℕ) (x : EntityId) (ts : List Triple) (h : IsSetAt old new graph x (Some ts)) (none : (i : ℕ) → (i == graph) ≡ false → set_at old i x ≡ None) where
  placed_here : (i : ℕ) → set_at new i x ≡ set_of (Some (entry graph ts)) i
  placed_here i = here_at old new graph x (Some ts) h i ∙ by (i == graph) refl ∙ ap (λ b. cond b (Some ts) None) (flips i graph)
    where
      by : (b : Bool) → (i == graph) ≡ b → cond b (Some ts) (set_at old i x) ≡ cond b (Some ts) None
      by true is = refl
      by false is = none i is

  placed : IsPlaced old new x (Some (entry graph ts))
  placed = record { long = h.long; here = placed_here; others = others_at old new graph x (Some ts) h; limits = h.limits }

-- it was in none
pub placed_anew : (old new : List GraphState) (graph : ℕ) (x : EntityId) (ts : List Triple) → IsSetAt old new graph x (Some ts) → ((i : ℕ) → is_some (set_at old i x) ≡ false) → IsPlaced old new x (Some (entry graph ts))
placed_anew old new graph x ts h none = placed old new graph x ts h (λ i _. no_set (set_at old i x) (none i))

-- it was there
pub placed_again : (old new : List GraphState) (graph : ℕ) (x : EntityId) (ts : List Triple) → IsSetAt old new graph x (Some ts) → AreApart old → is_some (set_at old graph x) ≡ true → IsPlaced old new x (Some (entry graph ts))
placed_again old new graph x ts h apart there = placed old new graph x ts h (none_but old x graph apart there)

-- it was in another, and is taken out there
pub placed_moved : (old middle new : List GraphState) (graph before : ℕ) (x : EntityId) (ts : List Triple) → IsSetAt old middle graph x (Some ts) → IsSetAt middle new before x None
    → AreApart old → is_some (set_at old before x) ≡ true → before ≢ graph → IsPlaced old new x (Some (entry graph ts))
placed_moved old middle new graph before x ts h k apart there differ = record {
  long = k.long ∙ h.long;
  here = λ i.
      here_at middle new before x None k i ∙ ap (cond (i == before) None) (here_at old middle graph x (Some ts) h i)
      ∙ by i (i == before) (i == graph) refl refl ∙ ap (λ b. cond b (Some ts) None) (flips i graph);
  others = λ i y other. others_at middle new before x None k i y other ∙ others_at old middle graph x (Some ts) h i y other;
  limits = λ limit have. k.limits limit (h.limits limit have);
}
  where
    numbers : (i j : ℕ) → (i == j) ≡ true → i ≡ j
    numbers i j is = ⊎_elim (λ same. same.1) (λ other. absurd (true≢false (sym is ∙ other.0))) (eqb_tells i j)

    by : (i : ℕ) (a b : Bool) → (i == before) ≡ a → (i == graph) ≡ b → cond a None (cond b (Some ts) (set_at old i x)) ≡ cond b (Some ts) None
    by i true true is also = absurd (differ (sym (numbers i before is) ∙ numbers i graph also))
    by i true false is also = refl
    by i false true is also = refl
    by i false false is also = none_but old x before apart there i is

-- it is taken out
pub placed_out : (old new : List GraphState) (graph : ℕ) (x : EntityId) → IsSetAt old new graph x None → AreApart old → is_some (set_at old graph x) ≡ true → IsPlaced old new x None
placed_out old new graph x h apart there = record {
  long = h.long;
  here = λ i. here_at old new graph x None h i ∙ by i (i == graph) refl;
  others = others_at old new graph x None h;
  limits = h.limits;
}
  where
    by : (i : ℕ) (b : Bool) → (i == graph) ≡ b → cond b None (set_at old i x) ≡ None
    by i true is = refl
    by i false is = none_but old x graph apart there i is

-- it is in none
pub placed_nowhere : (old : List GraphState) (x : EntityId) → ((i : ℕ) → is_some (set_at old i x) ≡ false) → IsPlaced old old x None
placed_nowhere old x none = record { long = refl; here = λ i. no_set (set_at old i x) (none i); others = λ i y other. refl; limits = λ limit have. have }

-- graphs stay apart and keep their limit
pub placed_apart : (old new : List GraphState) (x : EntityId) (p : Option Entry) (limit : ℕ) → AreApart old × HaveLimit limit old → IsPlaced old new x p → AreApart new × HaveLimit limit new
placed_apart old new x p limit h placed = (apart_still old new x p h.0 placed, placed.limits limit h.1)

-- also where a fault changes nothing
pub placed_or_same : (old new : List GraphState) (x : EntityId) (p : Option Entry) (limit : ℕ) (r : Result (Unit {0}) PoolFault) → AreApart old × HaveLimit limit old
    → OnOk r (IsPlaced old new x p) → OnErr r (new ≡ old) → AreApart new × HaveLimit limit new
placed_or_same old new x p limit (Ok done) h ok err = placed_apart old new x p limit h ok
placed_or_same old new x p limit (Err fault) h ok err = subst (λ (gs : List GraphState). AreApart gs × HaveLimit limit gs) (sym err) h

-- ---- one graph of several

slice_get-set_same : (gs : List GraphState) (i : ℕ) (g : GraphState) → i < length gs → slice_get (set gs i g) i ≡ Some g
slice_get-set_same [] i g low = absurd (omega (arith, low))
slice_get-set_same (h ∷ gs) zero g low = refl
slice_get-set_same (h ∷ gs) (suc i) g low = slice_get-set_same gs i g (omega (arith, low))

slice_get-set_other : (gs : List GraphState) (i j : ℕ) (g : GraphState) → j ≢ i → slice_get (set gs i g) j ≡ slice_get gs j
slice_get-set_other [] i j g differ = refl
slice_get-set_other (h ∷ gs) zero zero g differ = absurd (differ refl)
slice_get-set_other (h ∷ gs) zero (suc j) g differ = refl
slice_get-set_other (h ∷ gs) (suc i) zero g differ = refl
slice_get-set_other (h ∷ gs) (suc i) (suc j) g differ = slice_get-set_other gs i j g (λ same. differ (ap suc same))

-- one graph has another set at an entity
pub one_set : (gs : List GraphState) (i : ℕ) (g new : GraphState) (x : EntityId) (s : Option (List Triple)) → i < length gs → slice_get gs i ≡ Some g → new.limit ≡ g.limit
    → ((y : EntityId) → map.get new.sets y ≡ cond (eq_by_cmp entity_cmp y x) s (map.get g.sets y)) → IsSetAt gs (set gs i new) i x s
one_set gs i g new x s low at limit sets = record {
  long = length-set gs i new;
  at = λ j y. ⊎_elim
      (λ same.
      ap (λ k. set_at (set gs i new) k y) same.1 ∙ ap (option_and_then (λ (h : GraphState). map.get h.sets y)) (slice_get-set_same gs i new low) ∙ sets y
      ∙ ap (cond (eq_by_cmp entity_cmp y x) s) (sym (ap (option_and_then (λ (h : GraphState). map.get h.sets y)) at) ∙ ap (λ k. set_at gs k y) (sym same.1))
      ∙ sym (ap (λ b. cond (b && eq_by_cmp entity_cmp y x) s (set_at gs j y)) same.0))
      (λ other.
      ap (option_and_then (λ (h : GraphState). map.get h.sets y)) (slice_get-set_other gs i j new other.1)
      ∙ sym (ap (λ b. cond (b && eq_by_cmp entity_cmp y x) s (set_at gs j y)) other.0))
      (eqb_tells j i);
  limits = λ most have j h is. ⊎_elim
      (λ same. ap (λ (k : GraphState). k.limit) (inside h new (sym is ∙ ap (slice_get (set gs i new)) same.1 ∙ slice_get-set_same gs i new low)) ∙ limit ∙ have i g at)
      (λ other. have j h (sym (slice_get-set_other gs i j new other.1) ∙ is))
      (eqb_tells j i);
}
  where
    inside : (a b : GraphState) → Some a ≡ Some b → a ≡ b
    inside a b e = cc

-- the set of an entity is set, or taken away, in one graph
pub set_one : (gs : List GraphState) (i : ℕ) (g new : GraphState) (x : EntityId) (ts : List Triple) → i < length gs → slice_get gs i ≡ Some g
    → new ≡ record { sets = map.insert g.sets x ts; limit = g.limit } → IsSetAt gs (set gs i new) i x (Some ts)
set_one gs i g new x ts low at is = one_set gs i g new x (Some ts) low at (ap (λ (h : GraphState). h.limit) is)
    (λ y. ap (λ (h : GraphState). map.get h.sets y) is ∙ map.get-insert entity_cmp_total g.sets x ts y)

pub clear_one : (gs : List GraphState) (i : ℕ) (g new : GraphState) (x : EntityId) → i < length gs → slice_get gs i ≡ Some g
    → new ≡ record { sets = map.remove g.sets x; limit = g.limit } → IsSetAt gs (set gs i new) i x None
clear_one gs i g new x low at is = one_set gs i g new x None low at (ap (λ (h : GraphState). h.limit) is)
    (λ y. ap (λ (h : GraphState). map.get h.sets y) is ∙ map.get-remove entity_cmp_total g.sets x y)

-- a graph that is as it was
pub set_again : (gs : List GraphState) (i : ℕ) (g new : GraphState) → slice_get gs i ≡ Some g → new ≡ g → set gs i new ≡ gs
set_again [] i g new at is = refl
set_again (h ∷ gs) zero g new at is = let same : h ≡ g = cc in ap (λ k. k ∷ gs) (is ∙ sym same)
set_again (h ∷ gs) (suc i) g new at is = ap (λ ks. h ∷ ks) (set_again gs i g new at is)

-- ---- room

some_graph : (gs : List GraphState) (i : ℕ) → i < length gs → (g : GraphState) × (slice_get gs i ≡ Some g)
some_graph [] i low = absurd (omega (arith, low))
some_graph (g ∷ gs) zero low = (g, refl)
some_graph (g ∷ gs) (suc i) low = some_graph gs i (omega (arith, low))

module _ (gs : List GraphState) (i : ℕ) (limit : ℕ) (ts : List Triple) (apart : AreApart gs) (have : HaveLimit limit gs) (low : i < length gs) where
  pub is_full : IfSome (slice_get gs i) (λ g. g.limit < terms_with (union_of g.sets) ts) → limit < terms_with (graph_triples (entries_in gs) i) ts
  is_full full =
      let one : (g : GraphState) × (slice_get gs i ≡ Some g) = some_graph gs i low in
      let here : one.0.limit < terms_with (union_of one.0.sets) ts = subst (λ o. IfSome o (λ (g : GraphState). g.limit < terms_with (union_of g.sets) ts)) one.1 full in
      let same : one.0.limit ≡ limit = have i one.0 one.1 in
      let room : terms_with (graph_triples (entries_in gs) i) ts ≡ terms_with (union_of one.0.sets) ts = ap (λ us. terms_with us ts) (graph_is gs i one.0 apart one.1) in
      omega (arith, here, same, room)

  pub is_within : IfSome (slice_get gs i) (λ g. terms_with (union_of g.sets) ts ≤ g.limit) → terms_with (graph_triples (entries_in gs) i) ts ≤ limit
  is_within within =
      let one : (g : GraphState) × (slice_get gs i ≡ Some g) = some_graph gs i low in
      let here : terms_with (union_of one.0.sets) ts ≤ one.0.limit = subst (λ o. IfSome o (λ (g : GraphState). terms_with (union_of g.sets) ts ≤ g.limit)) one.1 within in
      let same : one.0.limit ≡ limit = have i one.0 one.1 in
      let room : terms_with (graph_triples (entries_in gs) i) ts ≡ terms_with (union_of one.0.sets) ts = ap (λ us. terms_with us ts) (graph_is gs i one.0 apart one.1) in
      omega (arith, here, same, room)

-- ---- graphs without entities

module _ (limit : ℕ) where
  -- a graph without entities
  abbrev pub blank_graph : GraphState
  blank_graph = record { sets = map.empty; limit = limit }

  blank_at : (gs : List GraphState) → AllByRecursion (λ g. g ≡ blank_graph) gs → (i : ℕ) (x : EntityId) → is_some (set_at gs i x) ≡ false
  blank_at [] all i x = refl
  blank_at (g ∷ gs) all zero x = ap (λ (h : GraphState). is_some (map.get h.sets x)) all.0 ∙ ap is_some (map.get-empty entity_cmp x)
  blank_at (g ∷ gs) all (suc i) x = blank_at gs all.1 i x

  blank_limit : (gs : List GraphState) → AllByRecursion (λ g. g ≡ blank_graph) gs → HaveLimit limit gs
  blank_limit [] all i g is = absurd (true≢false (sym (ap is_some is)))
  blank_limit (h ∷ gs) all zero g is = let same : h ≡ g = cc in ap (λ (k : GraphState). k.limit) (sym same ∙ all.0)
  blank_limit (h ∷ gs) all (suc i) g is = blank_limit gs all.1 i g is

  pub blank_apart : (gs : List GraphState) → AllByRecursion (λ g. g ≡ blank_graph) gs → AreApart gs × HaveLimit limit gs
  blank_apart gs all = (λ x i j is also. absurd (true≢false (sym is ∙ blank_at gs all i x)), blank_limit gs all)

  pub blank_entries : (gs : List GraphState) → AllByRecursion (λ g. g ≡ blank_graph) gs → entries_in gs ≡ map.empty
  blank_entries gs all = map.same_map entity_cmp_total entity_cmp_same _ _ (λ x. entry_none gs x (λ i. blank_at gs all i x) ∙ sym (map.get-empty entity_cmp x))

  pub blank_more : (gs : List GraphState) (g : GraphState) → AllByRecursion (λ h. h ≡ blank_graph) gs → g ≡ blank_graph → AllByRecursion (λ h. h ≡ blank_graph) (gs ++ g ∷ [])
  blank_more [] g all is = (is, tt)
  blank_more (h ∷ gs) g all is = (all.0, blank_more gs g all.1 is)
