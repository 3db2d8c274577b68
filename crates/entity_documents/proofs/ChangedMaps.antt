-- The list that a map of the second page gives, by what both pages have of their own.
use Rattle.std.proofs.Common.{◌≡◌, ℕ, zero, List, [], ◌∷◌, ◌++◌, Option, Some, inl, inr, refl, sym, ap, subst, ◌∙◌}
use Rattle.std.specs.Prelude.{◌⊎◌}
use Rattle.sorted_sets.specs.Rising.{In}
use Rattle.sorted_sets.specs.Merging.{Merges}
use Rattle.sorted_sets.proofs.Merged.{merges-none}
use Rattle.json_spell.specs.Tree.{Tree, object, Pairs, member_of}
use Rattle.json_spell.specs.View.{pairs_of}
use Rattle.json_differing.specs.Differing.{AreApart, AreLess, Differ}
use Rattle.json_spell.proofs.Opened.{some_is}
use Rattle.entity_model.specs.EntityId.{id_text}
use Rattle.entity_model.specs.declared.statement.Statement.{Statement}
use Rattle.entity_model.specs.Changes.{AreSeparate, StatementChanges}
use Rattle.entity_json.specs.Joined.{InMap, Joined, One, numbered}
use Rattle.entity_json.specs.Leaves.{◌>>=◌}
use Rattle.entity_json.specs.Maps.{entries, map_at, map_of}
use Rattle.entity_json.specs.Properties.{UnderProperty}
use Rattle.entity_json.specs.Reading.Steps.{steps}
use Rattle.entity_json.specs.Statements.{IsStatement}
use Rattle.entity_json.proofs.Agree.{Walks, map-complete}
use Rattle.entity_documents.proofs.Entried.{entries_all, other_names, second_apart}
use Rattle.entity_documents.proofs.Rows.{AreKept, HaveAt, under_name}
use Rattle.entity_documents.proofs.Splitting.{join, joined_once, split}

-- the maps under a name, less the members that both have
pub record AreLessAt (name : List ℕ) (old new gone come : Tree) : Type 0 where
  pub olds : Pairs
  pub news : Pairs
  pub gones : Pairs
  pub comes : Pairs
  pub old_at : member_of name old ≡ Some (object olds)
  pub new_at : member_of name new ≡ Some (object news)
  pub gone_at : member_of name gone ≡ Some (object gones)
  pub come_at : member_of name come ≡ Some (object comes)
  pub less : AreLess olds news gones comes

-- nothing was left out under the name, or a map has less
abbrev pub MemberDiffers : List ℕ → Tree → Tree → Tree → Tree → Type 0
MemberDiffers name old new gone come = AreKept name old new gone come ⊎ AreLessAt name old new gone come

pub member_differs : (name : List ℕ) (old new gone come : Tree) → Differ 1 old new gone come → MemberDiffers name old new gone come
member_differs name old new gone come h = elim (under_name zero name old new gone come h) [
  | inl kept ↦ inl kept
  | inr there ↦ at there there.holds
]
  where
    at : (t : HaveAt (Differ zero) name old new gone come) → Differ zero t.row.old t.row.new t.row.gone t.row.come → MemberDiffers name old new gone come
    at t (inl e) = inl (t.gone_at ∙ ap Some e.0 ∙ sym t.old_at, t.come_at ∙ ap Some e.1 ∙ sym t.new_at)
    at t (inr k) = inr (record {
      olds = k.olds;
      news = k.news;
      gones = k.gones;
      comes = k.comes;
      old_at = t.old_at ∙ ap Some k.old_is;
      new_at = t.new_at ∙ ap Some k.new_is;
      gone_at = t.gone_at ∙ ap Some k.gone_is;
      come_at = t.come_at ∙ ap Some k.come_is;
      less = k.holds;
    })

-- where what both lists have comes from: members of which neither map has two of one name
pub record Origin {A : Type 0} (R : List ℕ × Tree → List A → Type 0) (common gone come : List A) : Type 0 where
  pub old : List (List ℕ × Tree)
  pub new : List (List ℕ × Tree)
  pub shared : List (List ℕ × Tree)
  pub gones : List (List ℕ × Tree)
  pub comes : List (List ℕ × Tree)
  pub shared_joined : Joined R shared common
  pub gone_joined : Joined R gones gone
  pub come_joined : Joined R comes come
  pub was : Merges shared gones old
  pub is : Merges shared comes new
  pub old_apart : AreApart old
  pub new_apart : AreApart new

-- the list of the second page
pub record NewList {A : Type 0} (R : List ℕ × Tree → List A → Type 0) (name : List ℕ) (new : Tree) (olds gones comes : List A) : Type 0 where
  pub news : List A
  pub in_map : InMap R name new news
  pub common : List A
  pub was : Merges common gones olds
  pub is : Merges common comes news
  pub origin : (common ≡ []) ⊎ Origin R common gones comes

-- a map in which no name comes twice
map_is : (name : List ℕ) (t : Tree) (ps : Pairs) (ms : List (List ℕ × Tree)) → member_of name t ≡ Some (object ps) → ps ≡ pairs_of ms → AreApart ms → map_at name t ≡ Some ms
map_is name t ps ms at is apart = ap map_of at ∙ ap (λ qs. Some (entries qs)) is ∙ ap Some (entries_all ms apart)

pub new_list : {A : Type 0} (step : List ℕ × Tree → List A → Option (List A)) (R : List ℕ × Tree → List A → Type 0) → Walks step R
    → (name : List ℕ) (old new gone come : Tree) → MemberDiffers name old new gone come
    → (olds gones comes : List A) → InMap R name old olds → InMap R name gone gones → InMap R name come comes → NewList R name new olds gones comes
new_list step R walks name old new gone come (inl e) olds gones comes h k l =
    let same : olds ≡ gones =
    some_is (sym (map-complete step R walks name old olds h) ∙ ap (λ o. map_of o >>= λ members. steps step members []) (sym e.0) ∙ map-complete step R walks name gone gones k) in
    record {
      news = comes;
      in_map = record { members = l.members; is_map = ap map_of (sym e.1) ∙ l.is_map; joined = l.joined };
      common = [];
      was = subst (λ q. Merges [] gones q) (sym same) (merges-none gones);
      is = merges-none comes;
      origin = inl refl;
    }
new_list step R walks name old new gone come (inr m) olds gones comes h k l =
    let less = m.less in
    let common = less.changes.common in
    let old_at = map_is name old m.olds less.old m.old_at less.old_is less.old_apart in
    let new_at = map_is name new m.news less.new m.new_at less.new_is less.new_apart in
    let gone_at = map_is name gone m.gones less.gone m.gone_at less.gone_is (second_apart common less.gone less.old less.changes.was less.old_apart) in
    let come_at = map_is name come m.comes less.come m.come_at less.come_is (second_apart common less.come less.new less.changes.is less.new_apart) in
    let old_joined : Joined R less.old olds = subst (λ ms. Joined R ms olds) (some_is (sym h.is_map ∙ old_at)) h.joined in
    let gone_joined : Joined R less.gone gones = subst (λ ms. Joined R ms gones) (some_is (sym k.is_map ∙ gone_at)) k.joined in
    let come_joined : Joined R less.come comes = subst (λ ms. Joined R ms comes) (some_is (sym l.is_map ∙ come_at)) l.joined in
    let s = split R common less.gone less.old olds less.changes.was old_joined in
    let own_is : s.seconds ≡ gones = joined_once R step walks less.gone s.seconds gones s.second_joined gone_joined in
    let j = join R common less.come less.new s.firsts comes less.changes.is s.first_joined come_joined in
    record {
      news = j.ys;
      in_map = record { members = less.new; is_map = new_at; joined = j.joined };
      common = s.firsts;
      was = subst (λ q. Merges s.firsts q olds) own_is s.merges;
      is = j.merges;
      origin = inr (record {
        old = less.old;
        new = less.new;
        shared = common;
        gones = less.gone;
        comes = less.come;
        shared_joined = s.first_joined;
        gone_joined = gone_joined;
        come_joined = come_joined;
        was = less.changes.was;
        is = less.changes.is;
        old_apart = less.old_apart;
        new_apart = less.new_apart;
      });
    }

-- a statement of the claims stands under the id of its property
abbrev IsGroup : List ℕ × Tree → List Statement → Type 0
IsGroup = UnderProperty (λ p value x. IsStatement p value.1 x)

in_parts : {A : Type 0} (a : A) (xs ys : List A) → In a (xs ++ ys) → In a xs ⊎ In a ys
in_parts a [] ys h = inr h
in_parts a (x ∷ xs) ys (inl e) = inl (inl e)
in_parts a (x ∷ xs) ys (inr h) = elim (in_parts a xs ys h) [ inl front ↦ inl (inr front) | inr back ↦ inr back ]

-- what is in a joined list of single items holds of one of the values
one_of : {X A : Type 0} (P : X → A → Type 0) (xs : List X) (ys : List A) (a : A) → Joined (One P) xs ys → In a ys → (x : X) × P x a
one_of P [] ys a h among = absurd (subst (λ l. In a l) h among)
one_of P (x ∷ xs) ys a h among = elim (in_parts a h.front h.rest (subst (λ l. In a l) h.is among)) [
  | inl front ↦ elim (subst (λ l. In a l) h.holds.is front) [
    | inl is ↦ (x, subst (P x) (sym is) h.holds.holds)
    | inr none ↦ absurd none
  ]
  | inr back ↦ one_of P xs h.rest a h.then_holds back
]

of_property : (m : List ℕ × Tree) (g : List Statement) → IsGroup m g → (s : Statement) → In s g → m.0 ≡ id_text s.property
of_property m g is s among =
    let found = one_of (λ (value : ℕ × Tree) x. IsStatement is.property value.1 x) (numbered 0 is.parts.values) g s is.parts.joined among in
    is.is_property.is ∙ ap id_text (sym found.1.property)

pub of_member : (ms : List (List ℕ × Tree)) (ys : List Statement) → Joined IsGroup ms ys → (s : Statement) → In s ys → (m : List ℕ × Tree) × In m ms × (m.0 ≡ id_text s.property)
of_member [] ys h s among = absurd (subst (λ (l : List Statement). In s l) h among)
of_member (m ∷ ms) ys h s among = elim (in_parts s h.front h.rest (subst (λ (l : List Statement). In s l) h.is among)) [
  | inl front ↦ (m, inl refl, of_property m h.front h.holds s front)
  | inr back ↦ let found = of_member ms h.rest h.then_holds s back in (found.0, inr found.1, found.2)
]

-- statements of different members of a map are of different properties
separate : (first second all : List (List ℕ × Tree)) (xs ys : List Statement) → Merges first second all → AreApart all → Joined IsGroup first xs → Joined IsGroup second ys → AreSeparate xs ys
separate first second all xs ys merges apart h k s other here there same =
    let a = of_member first xs h s here in
    let b = of_member second ys k other there in
    other_names first second all merges apart a.0 b.0 a.1 b.1 (b.2 ∙ ap id_text same ∙ sym a.2)

none_separate : (xs ys : List Statement) → xs ≡ [] → AreSeparate xs ys
none_separate xs ys none s other here there same = absurd (subst (λ (l : List Statement). In s l) none here)

-- so the statements changed with all others of their properties
pub statements_changed : (name : List ℕ) (new : Tree) (olds gones comes : List Statement) → (l : NewList IsGroup name new olds gones comes) → StatementChanges olds l.news gones comes
statements_changed name new olds gones comes l = elim l.origin [
  | inl none ↦ record { common = l.common; was = l.was; is = l.is; from_gone = none_separate l.common gones none; from_come = none_separate l.common comes none }
  | inr o ↦ record {
    common = l.common;
    was = l.was;
    is = l.is;
    from_gone = separate o.shared o.gones o.old l.common gones o.was o.old_apart o.shared_joined o.gone_joined;
    from_come = separate o.shared o.comes o.new l.common comes o.is o.new_apart o.shared_joined o.come_joined;
  }
]
