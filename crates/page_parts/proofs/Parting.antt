-- A page's triples in two parts, one triple after the other.
use Rattle.std.proofs.Common.{◌≡◌, ℕ, zero, suc, ◌+◌, ◌<◌, ◌≤◌, Bool, true, false, not, cond, ◌&&◌, ◌||◌, List, [], ◌∷◌, ◌++◌, length, take, get_or, refl, sym, ◌∙◌, ap, subst, arith, append-nil}
use Rattle.std.specs.Prelude.{map}
use Rattle.std.specs.{List.All, Ordering.eq_by_cmp}
use Rattle.std.proofs.lemmas.List.{get_or-map, get_or-take, get_or_at, get_or_push, length-append, length-map, length-take, map-append, take_all, take_more}
use Rattle.std.proofs.lemmas.List.Concat.{flat_map-append}
use Rattle.std.proofs.lemmas.List.Elements.{All-push, All-tail, All-weaker}
use Rattle.std.proofs.Math.Seq.{take-append_seam}
use Rattle.sorted_sets.specs.Rising.{has}
use Rattle.sorted_sets.proofs.{Bools.clash, Bools.equal, Bools.or_none, Bools.or_true, Rising.has-append}
use Rattle.rdf_term.specs.declared.term.Term.{Term}
use Rattle.rdf_term.specs.declared.term.Term.TheVariants.{Blank}
use Rattle.rdf_term.specs.{declared.triple.Triple.Triple, Order.triple_cmp}
use Rattle.rdf_term.proofs.Texts.{triple_cmp-IsAntisymmetric}
use Rattle.entity_model.specs.{declared.id.EntityId.EntityId, EntityId.entity_cmp}
use Rattle.triple_sink.specs.Subject.{HasSubject}
use Rattle.shared_triples.specs.{Home.home, Home.home_of, Lean.stranger, Lean.strangers}
use Rattle.page_parts.specs.declared.parts.Place.{Place}
use Rattle.page_parts.specs.Parts.{AreSplit, Begins, HasPut, IsParted, IsPlace, part_of, stands_alone, triple_at}

abbrev blank : Triple
blank = record { subject = Blank []; predicate = Blank []; object = Blank [] }

-- ---- lists that begin with others

begins_at : (before after : List Triple) → Begins before after → (i : ℕ) → i < length before → get_or after i blank ≡ get_or before i blank
begins_at before after b i l = sym (get_or-take (length before) after i blank l) ∙ ap (λ xs. get_or xs i blank) b

begins_longer : (before after : List Triple) → Begins before after → length before ≤ length after
begins_longer before after b = omega (arith, ap length b, length-take (length before) after)

pub begins_itself : (xs ys : List Triple) → ys ≡ xs → Begins xs ys
begins_itself xs ys e = ap (take (length xs)) e ∙ take_all (length xs) xs (omega arith)

pub begins_pushed : (xs ys : List Triple) (t : Triple) → ys ≡ xs ++ t ∷ [] → Begins xs ys
begins_pushed xs ys t e = ap (take (length xs)) e ∙ take-append_seam xs (t ∷ [])

-- ---- places in parts that begin with others

module _ (own shared own_after shared_after : List Triple) (o : Begins own own_after) (s : Begins shared shared_after) where
  at_kept : (b : Bool) (i : ℕ) → i < length (cond b own shared) → get_or (cond b own_after shared_after) i blank ≡ get_or (cond b own shared) i blank
  at_kept true i l = begins_at own own_after o i l
  at_kept false i l = begins_at shared shared_after s i l

  within_kept : (b : Bool) (i : ℕ) → i < length (cond b own shared) → i < length (cond b own_after shared_after)
  within_kept true i l = omega (arith, l, begins_longer own own_after o)
  within_kept false i l = omega (arith, l, begins_longer shared shared_after s)

  module _ (x : EntityId) (is_counted : Bool) where
    place_kept : (place : Place) → IsPlace x is_counted own shared place → IsPlace x is_counted own_after shared_after place
    place_kept place h = record {
      within = within_kept place.is_own place.index h.within;
      right = h.right ∙ ap (stands_alone is_counted x) (sym (at_kept place.is_own place.index h.within));
    }

    pub placed_kept : (places : List Place) → All (IsPlace x is_counted own shared) places → All (IsPlace x is_counted own_after shared_after) places
    placed_kept places all = All-weaker (IsPlace x is_counted own shared) (IsPlace x is_counted own_after shared_after) place_kept places all

    pub triples_kept : (places : List Place) → All (IsPlace x is_counted own shared) places → map (triple_at own_after shared_after) places ≡ map (triple_at own shared) places
    triples_kept [] all = refl
    triples_kept (place ∷ places) all =
        let first : IsPlace x is_counted own shared place = all 0 place (omega arith) in
        let here = at_kept place.is_own place.index first.within in
        let rest = triples_kept places (All-tail (IsPlace x is_counted own shared) place places all) in
        λ i. here i ∷ rest i

-- ---- a triple is put

put_own : (b : Bool) (own shared own_after shared_after : List Triple) (t : Triple) (index : ℕ) → HasPut b own shared own_after shared_after t index → Begins own own_after
put_own true own shared own_after shared_after t index put = begins_pushed own own_after t put.1
put_own false own shared own_after shared_after t index put = begins_itself own own_after put.1

put_shared : (b : Bool) (own shared own_after shared_after : List Triple) (t : Triple) (index : ℕ) → HasPut b own shared own_after shared_after t index → Begins shared shared_after
put_shared true own shared own_after shared_after t index put = begins_itself shared shared_after put.2
put_shared false own shared own_after shared_after t index put = begins_pushed shared shared_after t put.2

pushed_at : (xs ys : List Triple) (t : Triple) (index : ℕ) → index ≡ length xs → ys ≡ xs ++ t ∷ [] → get_or ys index blank ≡ t
pushed_at xs ys t index is e = ap (λ l. get_or l index blank) e ∙ get_or_push xs t blank index (sym is)

pushed_within : (xs ys : List Triple) (t : Triple) (index : ℕ) → index ≡ length xs → ys ≡ xs ++ t ∷ [] → index < length ys
pushed_within xs ys t index is e = omega (arith, is, ap length e, length-append xs (t ∷ []))

put_at : (b : Bool) (own shared own_after shared_after : List Triple) (t : Triple) (index : ℕ) → HasPut b own shared own_after shared_after t index → get_or (cond b own_after shared_after) index blank ≡ t
put_at true own shared own_after shared_after t index put = pushed_at own own_after t index put.0 put.1
put_at false own shared own_after shared_after t index put = pushed_at shared shared_after t index put.0 put.2

put_within : (b : Bool) (own shared own_after shared_after : List Triple) (t : Triple) (index : ℕ) → HasPut b own shared own_after shared_after t index → index < length (cond b own_after shared_after)
put_within true own shared own_after shared_after t index put = pushed_within own own_after t index put.0 put.1
put_within false own shared own_after shared_after t index put = pushed_within shared shared_after t index put.0 put.2

-- ---- members of the parts

member_in : (a h e : Bool) → (e ≡ true → a ≡ true) → ((a && h) || e) ≡ (a && (h || e))
member_in true h e f = refl
member_in false h true f = clash (f refl) refl
member_in false h false f = refl

member_out : (a h e : Bool) → (e ≡ true → a ≡ false) → (a && h) ≡ (a && (h || e))
member_out true h true f = clash refl (f refl)
member_out true h false f = sym (or_none h)
member_out false h e f = refl

not_true : (b : Bool) → b ≡ true → not b ≡ false
not_true b e = ap not e

not_false : (b : Bool) → b ≡ false → not b ≡ true
not_false b e = ap not e

module _ (x : EntityId) (is_counted : Bool) (all own shared : List Triple) (others others_after : List EntityId) (t : Triple) (own_after shared_after : List Triple) (index : ℕ)
    (more : (y : EntityId) → has entity_cmp y others_after ≡ (has entity_cmp y others || has entity_cmp y (stranger x (home_of t)))) (h : AreSplit x is_counted all own shared others) where
  abbrev alone : Triple → Bool
  alone u = stands_alone is_counted x u

  abbrev is_it : Triple → Bool
  is_it u = has triple_cmp u (t ∷ [])

  it_is : (u : Triple) → is_it u ≡ true → alone u ≡ alone t
  it_is u e = ap alone (triple_cmp-IsAntisymmetric u t (equal _ (sym (or_none (eq_by_cmp triple_cmp u t)) ∙ e)))

  others_after_are : (y : EntityId) → has entity_cmp y others_after ≡ has entity_cmp y (strangers x (all ++ t ∷ []))
  others_after_are y =
      more y ∙ ap (λ b. b || has entity_cmp y (stranger x (home_of t))) (h.others_are y)
      ∙ sym (has-append entity_cmp y (strangers x all) (stranger x (home_of t)))
      ∙ ap (λ l. has entity_cmp y (strangers x all ++ l)) (sym (append-nil (stranger x (home_of t))))
      ∙ ap (has entity_cmp y) (sym (flat_map-append (λ (u : Triple). stranger x (home_of u)) all (t ∷ [])))

  grows_in : (xs ys : List Triple) (a : Triple → Bool) → ys ≡ xs ++ t ∷ [] → ((u : Triple) → has triple_cmp u xs ≡ (a u && has triple_cmp u all)) → ((u : Triple) → is_it u ≡ true → a u ≡ true) → (u : Triple) → has triple_cmp u ys ≡ (a u && has triple_cmp u (all ++ t ∷ []))
  grows_in xs ys a e are same u =
      ap (has triple_cmp u) e ∙ has-append triple_cmp u xs (t ∷ []) ∙ ap (λ b. b || is_it u) (are u)
      ∙ member_in (a u) (has triple_cmp u all) (is_it u) (same u)
      ∙ ap (λ b. a u && b) (sym (has-append triple_cmp u all (t ∷ [])))

  stays_in : (xs ys : List Triple) (a : Triple → Bool) → ys ≡ xs → ((u : Triple) → has triple_cmp u xs ≡ (a u && has triple_cmp u all)) → ((u : Triple) → is_it u ≡ true → a u ≡ false) → (u : Triple) → has triple_cmp u ys ≡ (a u && has triple_cmp u (all ++ t ∷ []))
  stays_in xs ys a e are other u =
      ap (has triple_cmp u) e ∙ are u
      ∙ member_out (a u) (has triple_cmp u all) (is_it u) (other u)
      ∙ ap (λ b. a u && b) (sym (has-append triple_cmp u all (t ∷ [])))

  pub split_more : (b : Bool) → b ≡ alone t → HasPut b own shared own_after shared_after t index → AreSplit x is_counted (all ++ t ∷ []) own_after shared_after others_after
  split_more true is put = record {
    own_are = grows_in own own_after alone put.1 h.own_are (λ u e. it_is u e ∙ sym is);
    shared_are = stays_in shared shared_after (λ u. not (alone u)) put.2 h.shared_are (λ u e. not_true (alone u) (it_is u e ∙ sym is));
    others_are = others_after_are;
  }
  split_more false is put = record {
    own_are = stays_in own own_after alone put.1 h.own_are (λ u e. it_is u e ∙ sym is);
    shared_are = grows_in shared shared_after (λ u. not (alone u)) put.2 h.shared_are (λ u e. not_false (alone u) (it_is u e ∙ sym is));
    others_are = others_after_are;
  }

-- ---- one triple more

module _ (x : EntityId) (is_counted : Bool) (own shared own_after shared_after : List Triple) (places places_after : List Place) (t : Triple) (b : Bool) (index : ℕ)
    (is : b ≡ stands_alone is_counted x t) (put : HasPut b own shared own_after shared_after t index) (pushed : places_after ≡ places ++ record { is_own = b; index = index } ∷ [])
    (placed : All (IsPlace x is_counted own shared) places) where
  abbrev o : Begins own own_after
  o = put_own b own shared own_after shared_after t index put

  abbrev s : Begins shared shared_after
  s = put_shared b own shared own_after shared_after t index put

  at_end : triple_at own_after shared_after (record { is_own = b; index = index }) ≡ t
  at_end = put_at b own shared own_after shared_after t index put

  pub triples_more : map (triple_at own_after shared_after) places_after ≡ map (triple_at own shared) places ++ t ∷ []
  triples_more =
      ap (map (triple_at own_after shared_after)) pushed
      ∙ map-append (triple_at own_after shared_after) places (record { is_own = b; index = index } ∷ [])
      ∙ ap (λ l. l ++ triple_at own_after shared_after (record { is_own = b; index = index }) ∷ []) (triples_kept own shared own_after shared_after o s x is_counted places placed)
      ∙ ap (λ u. map (triple_at own shared) places ++ u ∷ []) at_end

  placed_more : All (IsPlace x is_counted own_after shared_after) places_after
  placed_more = subst (All (IsPlace x is_counted own_after shared_after)) (sym pushed)
      (All-push (IsPlace x is_counted own_after shared_after) places (record { is_own = b; index = index }) (placed_kept own shared own_after shared_after o s x is_counted places placed) (record {
        within = put_within b own shared own_after shared_after t index put;
        right = is ∙ ap (stands_alone is_counted x) (sym at_end);
      }))

  pub parted_more : (has_failed : Bool) (others others_after : List EntityId) → (has_failed ≡ false → (y : EntityId) → has entity_cmp y others_after ≡ (has entity_cmp y others || has entity_cmp y (stranger x (home_of t))))
      → (has_failed ≡ false → AreSplit x is_counted (map (triple_at own shared) places) own shared others) → IsParted x is_counted has_failed own_after shared_after places_after others_after
  parted_more has_failed others others_after more split = record {
    placed = placed_more;
    split = λ ok. subst (λ all. AreSplit x is_counted all own_after shared_after others_after) (sym triples_more) (split_more x is_counted (map (triple_at own shared) places) own shared others others_after t own_after shared_after index (more ok) (split ok) b is put);
  }

-- after a failure the places are as they were
module _ (x : EntityId) (is_counted : Bool) (own shared own_after shared_after : List Triple) (o : Begins own own_after) (s : Begins shared shared_after) (places places_after : List Place) (same : places_after ≡ places)
    (placed : All (IsPlace x is_counted own shared) places) where
  pub triples_stay : map (triple_at own_after shared_after) places_after ≡ map (triple_at own shared) places
  triples_stay = ap (map (triple_at own_after shared_after)) same ∙ triples_kept own shared own_after shared_after o s x is_counted places placed

  pub parted_failed : (others : List EntityId) → IsParted x is_counted true own_after shared_after places_after others
  parted_failed others = record {
    placed = subst (All (IsPlace x is_counted own_after shared_after)) (sym same) (placed_kept own shared own_after shared_after o s x is_counted places placed);
    split = λ ok. clash refl ok;
  }

-- the places as they were
pub parted_same : (x : EntityId) (is_counted has_failed : Bool) (own shared : List Triple) (places places_after : List Place) (others others_after : List EntityId) → places_after ≡ places → others_after ≡ others
    → IsParted x is_counted has_failed own shared places others → IsParted x is_counted has_failed own shared places_after others_after
parted_same x is_counted has_failed own shared places places_after others others_after same alike h =
    subst (λ l. IsParted x is_counted has_failed own shared l others_after) (sym same) (subst (λ l. IsParted x is_counted has_failed own shared places l) (sym alike) h)

-- ---- subjects that are known

module _ (x : EntityId) (is_counted : Bool) (own shared : List Triple) (places : List Place) (placed : All (IsPlace x is_counted own shared) places) (term : Term) (index : ℕ) (known : HasSubject (map (triple_at own shared) places) term index) where
  abbrev all : List Triple
  all = map (triple_at own shared) places

  known_within : index < length all
  known_within = omega (arith, sym known.place, ap length known.begins, length-take (length (known.before ++ known.this ∷ [])) all, length-append known.before (known.this ∷ []))

  known_is : get_or all index blank ≡ known.this
  known_is =
      sym (get_or-take (length (known.before ++ known.this ∷ [])) all index blank (omega (arith, sym known.place, length-append known.before (known.this ∷ []))))
      ∙ ap (λ l. get_or l index blank) known.begins
      ∙ get_or_at known.before known.this [] blank index known.place

  pub place_within : index < length places
  place_within = omega (arith, known_within, length-map places (triple_at own shared))

  module _ (place : Place) (here : place ≡ get_or places index place) where
    at_place : triple_at own shared place ≡ known.this
    at_place = ap (triple_at own shared) here ∙ sym (get_or-map (triple_at own shared) places index place blank place_within) ∙ known_is

    its : IsPlace x is_counted own shared place
    its = subst (IsPlace x is_counted own shared) (sym here) (placed index place place_within)

    -- it has the home of the triple that has it
    pub known_right : (t : Triple) → t.subject ≡ term → place.is_own ≡ stands_alone is_counted x t
    known_right t same = its.right ∙ ap (λ (u : Triple). stands_alone is_counted x u) at_place ∙ ap (λ (s : Term). stands_alone is_counted x (record { subject = s; predicate = t.predicate; object = t.object })) (known.same ∙ sym same)

    -- the part has it at the index of the place
    pub known_there : HasSubject (part_of own shared place) term place.index
    known_there =
        let part = part_of own shared place in
        let as_long : length (take place.index part) ≡ place.index = omega (arith, its.within, length-take place.index part) in
        let one_more : length (take place.index part ++ triple_at own shared place ∷ []) ≡ place.index + 1 = omega (arith, as_long, length-append (take place.index part) (triple_at own shared place ∷ [])) in
        record {
          before = take place.index part;
          this = triple_at own shared place;
          begins = ap (λ n. take n part) one_more ∙ take_more part place.index blank its.within;
          place = as_long;
          same = ap (λ (u : Triple). u.subject) at_place ∙ known.same;
        }

  -- and its home is noted, where that is another entity
  pub known_noted : (t : Triple) → t.subject ≡ term → (y : EntityId) → has entity_cmp y (stranger x (home_of t)) ≡ true → has entity_cmp y (strangers x all) ≡ true
  known_noted t same y there =
      noted all index known_within (ap (λ (s : Term). has entity_cmp y (stranger x (home s))) (ap (λ (u : Triple). u.subject) known_is ∙ known.same ∙ sym same) ∙ there)
    where
      noted : (ts : List Triple) (i : ℕ) → i < length ts → has entity_cmp y (stranger x (home_of (get_or ts i blank))) ≡ true → has entity_cmp y (strangers x ts) ≡ true
      noted [] i l e = absurd (omega (arith, l))
      noted (u ∷ ts) zero l e = has-append entity_cmp y (stranger x (home_of u)) (strangers x ts) ∙ ap (λ b. b || has entity_cmp y (strangers x ts)) e
      noted (u ∷ ts) (suc i) l e = has-append entity_cmp y (stranger x (home_of u)) (strangers x ts) ∙ or_true (has entity_cmp y (stranger x (home_of u))) (has entity_cmp y (strangers x ts)) (noted ts i (omega (arith, l)) e)

  pub known_others : (others : List EntityId) → ((y : EntityId) → has entity_cmp y others ≡ has entity_cmp y (strangers x all)) → (t : Triple) → t.subject ≡ term
      → (y : EntityId) → has entity_cmp y others ≡ (has entity_cmp y others || has entity_cmp y (stranger x (home_of t)))
  known_others others are t same y = by (has entity_cmp y (stranger x (home_of t))) refl
    where
      by : (b : Bool) → has entity_cmp y (stranger x (home_of t)) ≡ b → has entity_cmp y others ≡ (has entity_cmp y others || has entity_cmp y (stranger x (home_of t)))
      by true e = are y ∙ known_noted t same y e ∙ sym (or_true (has entity_cmp y others) _ e)
      by false e = sym (ap (λ b. has entity_cmp y others || b) e ∙ or_none (has entity_cmp y others))
