-- When a reading agrees with a relation, and that then lists of parts agree too.
use Rattle.std.proofs.Common.{◌≡◌, ℕ, List, [], ◌∷◌, ◌++◌, Option, Some, None, refl, sym, ap, ◌∙◌, subst, append_assoc, append-nil}
use Rattle.json_spell.specs.Tree.{Tree, member_of}
use Rattle.json_spell.proofs.Opened.{some_is, bind_some}
use Rattle.entity_json.specs.Leaves.{◌>>=◌, list_of, optional_list_at}
use Rattle.entity_json.specs.Maps.{map_at}
use Rattle.entity_json.specs.Joined.{numbered, Joined, One, InList, InOptionalList, InMap}
use Rattle.entity_json.specs.Reading.Steps.{put, steps}

-- the reading gives exactly what the relation holds of
pub record Agree {X A : Type 0} (f : X → Option A) (R : X → A → Type 0) : Type 0 where
  pub sound : (x : X) (a : A) → f x ≡ Some a → R x a
  pub complete : (x : X) (a : A) → R x a → f x ≡ Some a

-- a list that the relation holds of came to the list so far
pub record Grown {A : Type 0} (R : List A → Type 0) (out new : List A) : Type 0 where
  pub more : List A
  pub holds : R more
  pub is : new ≡ out ++ more

-- the step puts exactly the lists that the relation holds of after the list so far
pub record Walks {X A : Type 0} (step : X → List A → Option (List A)) (R : X → List A → Type 0) : Type 0 where
  pub sound : (x : X) (out new : List A) → step x out ≡ Some new → Grown (R x) out new
  pub complete : (x : X) (out more : List A) → R x more → step x out ≡ Some (out ++ more)

put-some : {A : Type 0} (out : List A) (o : Option A) (new : List A) → put out o ≡ Some new → (a : A) × ((o ≡ Some a) × (new ≡ out ++ a ∷ []))
put-some out None new e = absurd cc
put-some out (Some a) new e = (a, (refl, sym (some_is e)))

put-sound : {X A : Type 0} (f : X → Option A) (P : X → A → Type 0) → Agree f P → (x : X) (out new : List A) → put out (f x) ≡ Some new → Grown (One P x) out new
put-sound f P agree x out new e =
    let found = put-some out (f x) new e in
    record { more = found.0 ∷ []; holds = record { item = found.0; holds = agree.sound x found.0 found.1.0; is = refl }; is = found.1.1 }

put-complete : {X A : Type 0} (f : X → Option A) (P : X → A → Type 0) → Agree f P → (x : X) (out more : List A) → One P x more → put out (f x) ≡ Some (out ++ more)
put-complete f P agree x out more h = ap (put out) (agree.complete x h.item h.holds) ∙ ap (λ ys. Some (out ++ ys)) (sym h.is)

-- one item is put
pub put_walks : {X A : Type 0} (f : X → Option A) (P : X → A → Type 0) → Agree f P → Walks (λ x out. put out (f x)) (One P)
put_walks f P agree = record { sound = put-sound f P agree; complete = put-complete f P agree }

steps-sound : {X A : Type 0} (step : X → List A → Option (List A)) (R : X → List A → Type 0) → Walks step R
    → (xs : List X) (out new : List A) → steps step xs out ≡ Some new → Grown (Joined R xs) out new
steps-sound step R walks [] out new e = record { more = []; holds = refl; is = sym (some_is e) ∙ sym (append-nil out) }
steps-sound step R walks (x ∷ xs) out new e =
    let first = bind_some (step x out) (λ z. steps step xs z) e in
    let here = walks.sound x out first.0 first.1.0 in
    let rest = steps-sound step R walks xs first.0 new first.1.1 in
    record {
      more = here.more ++ rest.more;
      holds = record { front = here.more; rest = rest.more; holds = here.holds; then_holds = rest.holds; is = refl };
      is = rest.is ∙ ap (λ z. z ++ rest.more) here.is ∙ append_assoc out here.more rest.more;
    }

pub steps-complete : {X A : Type 0} (step : X → List A → Option (List A)) (R : X → List A → Type 0) → Walks step R
    → (xs : List X) (out more : List A) → Joined R xs more → steps step xs out ≡ Some (out ++ more)
steps-complete step R walks [] out more h = ap Some (sym (append-nil out)) ∙ ap (λ ys. Some (out ++ ys)) (sym h)
steps-complete step R walks (x ∷ xs) out more h =
    ap (λ o. o >>= (λ z. steps step xs z)) (walks.complete x out h.front h.holds)
    ∙ steps-complete step R walks xs (out ++ h.front) h.rest h.then_holds
    ∙ ap Some (append_assoc out h.front h.rest) ∙ ap (λ ys. Some (out ++ ys)) (sym h.is)

-- from the empty list on
pub from_start : {A : Type 0} (R : List A → Type 0) (new : List A) → Grown R [] new → R new
from_start R new g = subst R (sym g.is) g.holds

-- the parts of a list
pub list-sound : {A : Type 0} (f : ℕ × Tree → Option A) (P : ℕ × Tree → A → Type 0) → Agree f P → (list : Option (List Tree)) (out new : List A)
    → (list >>= λ values. steps (λ x o. put o (f x)) (numbered 0 values) out) ≡ Some new → Grown (InList P list) out new
list-sound f P agree list out new e =
    let found = bind_some list _ e in
    let grown = steps-sound (λ x o. put o (f x)) (One P) (put_walks f P agree) (numbered 0 found.0) out new found.1.1 in
    record { more = grown.more; holds = record { values = found.0; is_list = found.1.0; joined = grown.holds }; is = grown.is }

pub list-complete : {A : Type 0} (f : ℕ × Tree → Option A) (P : ℕ × Tree → A → Type 0) → Agree f P → (list : Option (List Tree)) (out more : List A)
    → InList P list more → (list >>= λ values. steps (λ x o. put o (f x)) (numbered 0 values) out) ≡ Some (out ++ more)
list-complete f P agree list out more h =
    ap (λ l. l >>= λ values. steps (λ x o. put o (f x)) (numbered 0 values) out) h.is_list
    ∙ steps-complete (λ x o. put o (f x)) (One P) (put_walks f P agree) (numbered 0 h.values) out more h.joined

-- a list that may be missing
optional-none : (name : List ℕ) (t : Tree) → member_of name t ≡ None → optional_list_at name t ≡ Some []
optional-none name t is = rw is refl

optional-some : (name : List ℕ) (t u : Tree) → member_of name t ≡ Some u → optional_list_at name t ≡ list_of u
optional-some name t u is = rw is refl

pub optional_list-sound : {A : Type 0} (f : ℕ × Tree → Option A) (P : ℕ × Tree → A → Type 0) → Agree f P → (name : List ℕ) (t : Tree) (m : Option Tree) → member_of name t ≡ m
    → (ys : List A) → (optional_list_at name t >>= λ values. steps (λ x o. put o (f x)) (numbered 0 values) []) ≡ Some ys → InOptionalList P m ys
optional_list-sound f P agree name t None is ys e =
    let given = ap (λ l. l >>= λ values. steps (λ x o. put o (f x)) (numbered 0 values) []) (optional-none name t is) in
    sym (some_is (sym given ∙ e))
optional_list-sound f P agree name t (Some u) is ys e =
    let given = ap (λ l. l >>= λ values. steps (λ x o. put o (f x)) (numbered 0 values) []) (optional-some name t u is) in
    from_start (InList P (list_of u)) ys (list-sound f P agree (list_of u) [] ys (sym given ∙ e))

pub optional_list-complete : {A : Type 0} (f : ℕ × Tree → Option A) (P : ℕ × Tree → A → Type 0) → Agree f P → (name : List ℕ) (t : Tree) (m : Option Tree) → member_of name t ≡ m
    → (ys : List A) → InOptionalList P m ys → (optional_list_at name t >>= λ values. steps (λ x o. put o (f x)) (numbered 0 values) []) ≡ Some ys
optional_list-complete f P agree name t None is ys h =
    ap (λ l. l >>= λ values. steps (λ x o. put o (f x)) (numbered 0 values) []) (optional-none name t is) ∙ ap Some (sym h)
optional_list-complete f P agree name t (Some u) is ys h =
    ap (λ l. l >>= λ values. steps (λ x o. put o (f x)) (numbered 0 values) []) (optional-some name t u is)
    ∙ list-complete f P agree (list_of u) [] ys h

-- the entries of a map
pub map-sound : {A : Type 0} (step : List ℕ × Tree → List A → Option (List A)) (R : List ℕ × Tree → List A → Type 0) → Walks step R → (name : List ℕ) (t : Tree) (ys : List A)
    → (map_at name t >>= λ members. steps step members []) ≡ Some ys → InMap R name t ys
map-sound step R walks name t ys e =
    let found = bind_some (map_at name t) _ e in
    record {
      members = found.0;
      is_map = found.1.0;
      joined = from_start (Joined R found.0) ys (steps-sound step R walks found.0 [] ys found.1.1);
    }

pub map-complete : {A : Type 0} (step : List ℕ × Tree → List A → Option (List A)) (R : List ℕ × Tree → List A → Type 0) → Walks step R → (name : List ℕ) (t : Tree) (ys : List A)
    → InMap R name t ys → (map_at name t >>= λ members. steps step members []) ≡ Some ys
map-complete step R walks name t ys h = ap (λ m. m >>= λ members. steps step members []) h.is_map ∙ steps-complete step R walks h.members [] ys h.joined
