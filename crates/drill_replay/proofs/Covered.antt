-- Lists of triples whose terms are few beside some that are known.
use Rattle.std.proofs.Common.{refl, sym, ap, subst, inl, inr, ◌⊎◌, ⊎_elim, Bool, true, false, cond, ℕ, ◌+◌, ◌≤◌, Less, Equal, Greater, List, [], ◌∷◌, ◌++◌, map, length, length-append, arith}
use Rattle.std.specs.{BTreeSet.insert_key, List.flat_map, Ordering.match_ordering}
use Rattle.std.proofs.lemmas.List.{length-map}
use Rattle.sorted_sets.specs.Rising.{In, sorted}
use Rattle.sorted_sets.proofs.Members.{has-member, member-has, member-sorted}
use Rattle.rdf_term.specs.{declared.term.Term.Term, declared.term.Term.TheVariants.Iri, declared.triple.Triple.Triple}
use Rattle.rdf_term.specs.Order.{term_cmp, term_cmp-total, triple_cmp, triple_cmp-total}
use Rattle.rdf_term.proofs.Texts.{term_cmp-IsAntisymmetric, triple_cmp-IsAntisymmetric}
use Rattle.entity_model.specs.declared.id.EntityId.{EntityId}
use Rattle.statement_rdf.proofs.Members.{in_back, in_either, in_front, flat_map_in}
use Rattle.value_nodes.specs.Said.{triple}
use Rattle.munger.specs.Iris.{dataset_iri, entity_iri, is_iri_of}
use Rattle.munger.specs.{Munging.left_by, Munging.moved_to, Munging.munge, Munging.munged, Naming.named, Naming.named_triple}
use Rattle.munger.specs.Verdict.{has_dropped_type, is_moved, repeats_label}
use Rattle.triple_store.specs.Room.{distinct, terms_of}
use Rattle.triple_store.proofs.Distinct.{fewer}

-- the triples have no other terms than those in `known` and at most n more
pub record Covered (known : List Term) (n : ℕ) (ts : List Triple) : Type 0 where
  pub others : List Term
  pub few : length others ≤ n
  pub all : (t : Triple) (k : Term) → In t ts → In k (terms_of t) → In k known ⊎ In k others

module _ {known : List Term} where
  pub none : Covered known 0 []
  none = record { others = []; few = omega arith; all = λ t k there is. absurd there }

  -- a triple of a known subject
  pub said : {n : ℕ} {ts : List Triple} (s p o : Term) → In s known → Covered known n ts → Covered known (n + 2) (triple s p o ∷ ts)
  said {n} {ts} s p o knows c = record {
    others = p ∷ o ∷ c.others;
    few = omega (arith, c.few);
    all = λ t k there is. ⊎_elim (λ same. first k (subst (λ u. In k (terms_of u)) same is)) (λ later. behind k (c.all t k later is)) there;
  }
    where
      first : (k : Term) → In k (terms_of (triple s p o)) → In k known ⊎ In k (p ∷ o ∷ c.others)
      first k (inl is) = inl (subst (λ u. In u known) (sym is) knows)
      first k (inr (inl is)) = inr (inl is)
      first k (inr (inr (inl is))) = inr (inr (inl is))
      first k (inr (inr (inr never))) = absurd never

      behind : (k : Term) → In k known ⊎ In k c.others → In k known ⊎ In k (p ∷ o ∷ c.others)
      behind k (inl is) = inl is
      behind k (inr is) = inr (inr (inr is))

  pub joined : {n m : ℕ} {ts us : List Triple} → Covered known n ts → Covered known m us → Covered known (n + m) (ts ++ us)
  joined {ts = ts} {us = us} c d = record {
    others = c.others ++ d.others;
    few = omega (arith, length-append c.others d.others, c.few, d.few);
    all = λ t k there is. ⊎_elim
        (λ front. ⊎_elim (λ knows. inl knows) (λ other. inr (in_front k c.others d.others other)) (c.all t k front is))
        (λ back. ⊎_elim (λ knows. inl knows) (λ other. inr (in_back k c.others d.others other)) (d.all t k back is))
        (in_either t ts us there);
  }

  pub at_most : {n : ℕ} {ts : List Triple} (m : ℕ) → n ≤ m → Covered known n ts → Covered known m ts
  at_most m below c = record { others = c.others; few = omega (arith, c.few, below); all = c.all }

  -- a subject of one's own counts as one more
  pub own : {n : ℕ} {ts : List Triple} (s : Term) → Covered (s ∷ known) n ts → Covered known (n + 1) ts
  own s c = record {
    others = s ∷ c.others;
    few = omega (arith, c.few);
    all = λ t k there is. ⊎_elim (λ knows. ⊎_elim (λ same. inr (inl same)) (λ more. inl more) knows) (λ other. inr (inr other)) (c.all t k there is);
  }

-- ---- munging

-- by what the tests choose
by_choice : {V G : Type 0} (P : V → Type 0) {moved dropped kept : V} (a b c d : Bool) → P (cond a (cond b moved dropped) (cond c dropped (cond d dropped kept))) →
    (P moved → G) → (P dropped → G) → (P kept → G) → G
by_choice P true true c d h f g k = f h
by_choice P true false c d h f g k = g h
by_choice P false b true d h f g k = g h
by_choice P false b false true h f g k = g h
by_choice P false b false false h f g k = k h

in_map : (k : Term) (xs : List Term) → In k xs → In (named k) (map named xs)
in_map k [] h = absurd h
in_map k (x ∷ xs) (inl is) = inl (ap named is)
in_map k (x ∷ xs) (inr later) = inr (in_map k xs later)

module _ (x : EntityId) (n : ℕ) (ts : List Triple) (c : Covered [] n ts) where
  abbrev others_left : List Term
  others_left = Iri (entity_iri x) ∷ map named c.others

  other : (g : Triple) (k : Term) → In g ts → In k (terms_of g) → In (named k) others_left
  other g k there is = inr (in_map k c.others (⊎_elim (λ never. absurd never) (λ h. h) (c.all g k there is)))

  moved_term : (g : Triple) (k : Term) → In g ts → In k (terms_of (named_triple (moved_to x g))) → In k others_left
  moved_term g k there (inl is) = inl is
  moved_term g k there (inr (inl is)) = subst (λ u. In u others_left) (sym is) (other g g.predicate there (inr (inl refl)))
  moved_term g k there (inr (inr (inl is))) = subst (λ u. In u others_left) (sym is) (other g g.object there (inr (inr (inl refl))))
  moved_term g k there (inr (inr (inr never))) = absurd never

  kept_term : (g : Triple) (k : Term) → In g ts → In k (terms_of (named_triple g)) → In k others_left
  kept_term g k there (inl is) = subst (λ u. In u others_left) (sym is) (other g g.subject there (inl refl))
  kept_term g k there (inr (inl is)) = subst (λ u. In u others_left) (sym is) (other g g.predicate there (inr (inl refl)))
  kept_term g k there (inr (inr (inl is))) = subst (λ u. In u others_left) (sym is) (other g g.object there (inr (inr (inl refl))))
  kept_term g k there (inr (inr (inr never))) = absurd never

  left_term : (g t : Triple) (k : Term) → In g ts → In t (munged x g) → In k (terms_of t) → In k others_left
  left_term g t k there h is =
      by_choice (λ v. In t (left_by x g v)) (is_iri_of (dataset_iri x) g.subject) (is_moved g.predicate) (has_dropped_type g) (repeats_label x g) h
      (λ moved. ⊎_elim (λ same. moved_term g k there (subst (λ u. In k (terms_of u)) same is)) (λ never. absurd never) moved)
      (λ never. absurd never)
      (λ kept. ⊎_elim (λ same. kept_term g k there (subst (λ u. In k (terms_of u)) same is)) (λ never. absurd never) kept)

  -- what munging leaves has no more terms, but for the entity itself
  pub left : Covered [] (n + 1) (munge x (sorted triple_cmp ts))
  left = record {
    others = others_left;
    few = omega (arith, length-map c.others named, c.few);
    all = λ t k there is.
        let found = flat_map_in (munged x) t (sorted triple_cmp ts) ((member-sorted triple_cmp-total triple_cmp-IsAntisymmetric t (flat_map (munged x) (sorted triple_cmp ts))).0 there) in
        inr (left_term found.0 t k ((member-sorted triple_cmp-total triple_cmp-IsAntisymmetric found.0 ts).0 found.1) found.2 is);
  }

-- ---- counting

-- a set isn't larger than its list
insert_longer : (k : Term) (xs : List Term) → length (insert_key term_cmp xs k) ≤ length xs + 1
insert_longer k [] = omega arith
insert_longer k (x ∷ xs) =
    elim (term_cmp k x) as (λ r. length (match_ordering r (k ∷ x ∷ xs) (x ∷ xs) (x ∷ insert_key term_cmp xs k)) ≤ length (x ∷ xs) + 1) [
      | Less ↦ omega arith
      | Equal ↦ omega arith
      | Greater ↦ omega (arith, insert_longer k xs)
    ]

pub distinct_few : (xs : List Term) → distinct xs ≤ length xs
distinct_few [] = omega arith
distinct_few (x ∷ xs) = omega (arith, insert_longer x (sorted term_cmp xs), distinct_few xs)

-- covered triples have as few distinct terms
pub distinct_covered : (n : ℕ) (ts : List Triple) → Covered [] n ts → distinct (flat_map terms_of ts) ≤ n
distinct_covered n ts c =
    let within = fewer term_cmp-total term_cmp-IsAntisymmetric (flat_map terms_of ts) c.others
    (λ k h. has-member term_cmp-total k c.others (among k (member-has term_cmp-IsAntisymmetric k (flat_map terms_of ts) h))) in
    omega (arith, within, distinct_few c.others, c.few)
  where
    among : (k : Term) → In k (flat_map terms_of ts) → In k c.others
    among k h =
        let found = flat_map_in terms_of k ts h in
        ⊎_elim (λ never. absurd never) (λ other. other) (c.all found.0 k found.1 found.2)
