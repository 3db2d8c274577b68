-- What objects with the same names in the same order have under a name.
use Rattle.std.proofs.Common.{◌≡◌, ℕ, suc, Bool, true, false, ◌||◌, cond, List, [], ◌∷◌, map, Option, Some, None, option_map, inl, inr, refl, sym, ap, subst, ◌∙◌}
use Rattle.std.specs.Prelude.{◌⊎◌}
use Rattle.std.specs.Str.{bytes_eq}
use Rattle.sorted_sets.specs.Rising.{Each}
use Rattle.json_spell.specs.Tree.{Tree, object, Pairs, first_there, last_member, member_of}
use Rattle.json_spell.specs.View.{pairs_of}
use Rattle.json_differing.specs.Differing.{AreObjects, Differ, Differs, Inside, InTurn, Row}
use Rattle.json_spell.proofs.Opened.{some_is}
use Rattle.entity_json.specs.Maps.{entries, has_key, only_of, only_value}

-- the last row of a name
abbrev last_row : List ℕ → List Row → Option Row
last_row name [] = None
last_row name (r ∷ rs) = first_there (last_row name rs) (cond (bytes_eq r.name name) (Some r) None)

-- the members that rows give one of the four objects
abbrev pub members_by : (Row → Tree) → List Row → List (List ℕ × Tree)
members_by f rows = map (λ (r : Row). (r.name, f r)) rows

at_rows : (f : Row → Tree) (name : List ℕ) (rows : List Row) → last_member name (pairs_of (members_by f rows)) ≡ option_map f (last_row name rows)
at_rows f name [] = refl
at_rows f name (r ∷ rs) = at (last_row name rs) (bytes_eq r.name name) (at_rows f name rs)
  where
    at : (o : Option Row) (b : Bool) → last_member name (pairs_of (members_by f rs)) ≡ option_map f o
        → first_there (last_member name (pairs_of (members_by f rs))) (cond b (Some (f r)) None) ≡ option_map f (first_there o (cond b (Some r) None))
    at None true e = ap (λ q. first_there q (Some (f r))) e
    at None false e = ap (λ q. first_there q None) e
    at (Some s) b e = ap (λ q. first_there q (cond b (Some (f r)) None)) e

each_last : (P : Row → Type 0) (name : List ℕ) (rows : List Row) → Each P rows → (s : Row) → last_row name rows ≡ Some s → P s
each_last P name [] each s e = absurd cc
each_last P name (r ∷ rs) each s e = at (last_row name rs) (bytes_eq r.name name) (λ k. each_last P name rs each.1 s k) refl e
  where
    at : (o : Option Row) (b : Bool) → (last_row name rs ≡ Some s → P s) → last_row name rs ≡ o → first_there o (cond b (Some r) None) ≡ Some s → P s
    at None true rest is e = subst P (some_is e) each.0
    at None false rest is e = absurd cc
    at (Some q) b rest is e = rest (is ∙ e)

-- the objects have values under the name, of which the fact holds
pub record HaveAt (P : Tree → Tree → Tree → Tree → Type 0) (name : List ℕ) (old new gone come : Tree) : Type 0 where
  pub row : Row
  pub old_at : member_of name old ≡ Some row.old
  pub new_at : member_of name new ≡ Some row.new
  pub gone_at : member_of name gone ≡ Some row.gone
  pub come_at : member_of name come ≡ Some row.come
  pub holds : P row.old row.new row.gone row.come

-- nothing was left out under the name
abbrev pub AreKept : List ℕ → Tree → Tree → Tree → Tree → Type 0
AreKept name old new gone come = (member_of name gone ≡ member_of name old) × (member_of name come ≡ member_of name new)

member_rows : (f : Row → Tree) (name : List ℕ) (t : Tree) (ps : Pairs) (rows : List Row) (o : Option Row) → t ≡ object ps → ps ≡ pairs_of (members_by f rows) → last_row name rows ≡ o
    → member_of name t ≡ option_map f o
member_rows f name t ps rows o is are last = ap (member_of name) is ∙ ap (last_member name) are ∙ at_rows f name rows ∙ ap (option_map f) last

pub under_name : (n : ℕ) (name : List ℕ) (old new gone come : Tree) → Differ (suc n) old new gone come → AreKept name old new gone come ⊎ HaveAt (Differ n) name old new gone come
under_name n name old new gone come (inl e) = inl (ap (member_of name) e.0, ap (member_of name) e.1)
under_name n name old new gone come (inr h) = at (last_row name h.holds.rows) refl
  where
    at : (o : Option Row) → last_row name h.holds.rows ≡ o → AreKept name old new gone come ⊎ HaveAt (Differ n) name old new gone come
    at None is = inl (
      member_rows (λ (r : Row). r.gone) name gone h.gones h.holds.rows None h.gone_is h.holds.gone_is is
          ∙ sym (member_rows (λ (r : Row). r.old) name old h.olds h.holds.rows None h.old_is h.holds.old_is is),
      member_rows (λ (r : Row). r.come) name come h.comes h.holds.rows None h.come_is h.holds.come_is is
          ∙ sym (member_rows (λ (r : Row). r.new) name new h.news h.holds.rows None h.new_is h.holds.new_is is),
    )
    at (Some r) is = inr (record {
      row = r;
      old_at = member_rows (λ (q : Row). q.old) name old h.olds h.holds.rows (Some r) h.old_is h.holds.old_is is;
      new_at = member_rows (λ (q : Row). q.new) name new h.news h.holds.rows (Some r) h.new_is h.holds.new_is is;
      gone_at = member_rows (λ (q : Row). q.gone) name gone h.gones h.holds.rows (Some r) h.gone_is h.holds.gone_is is;
      come_at = member_rows (λ (q : Row). q.come) name come h.comes h.holds.rows (Some r) h.come_is h.holds.come_is is;
      holds = each_last (λ (q : Row). Differs (Inside n) q.old q.new q.gone q.come) name h.holds.rows h.holds.holds r is;
    })

-- the rows whose name doesn't come again
abbrev has_name : List ℕ → List Row → Bool
has_name name [] = false
has_name name (r ∷ rs) = bytes_eq r.name name || has_name name rs

abbrev last_rows : List Row → List Row
last_rows [] = []
last_rows (r ∷ rs) = cond (has_name r.name rs) (last_rows rs) (r ∷ last_rows rs)

named-rows : (f : Row → Tree) (name : List ℕ) (rows : List Row) → has_key name (pairs_of (members_by f rows)) ≡ has_name name rows
named-rows f name [] = refl
named-rows f name (r ∷ rs) = ap (λ b. bytes_eq r.name name || b) (named-rows f name rs)

entries-rows : (f : Row → Tree) (rows : List Row) → entries (pairs_of (members_by f rows)) ≡ members_by f (last_rows rows)
entries-rows f [] = refl
entries-rows f (r ∷ rs) =
    ap (λ b. cond b (entries (pairs_of (members_by f rs))) ((r.name, f r) ∷ entries (pairs_of (members_by f rs)))) (named-rows f r.name rs)
    ∙ at (has_name r.name rs) (entries-rows f rs)
  where
    at : (b : Bool) → entries (pairs_of (members_by f rs)) ≡ members_by f (last_rows rs)
        → cond b (entries (pairs_of (members_by f rs))) ((r.name, f r) ∷ entries (pairs_of (members_by f rs))) ≡ members_by f (cond b (last_rows rs) (r ∷ last_rows rs))
    at true e = e
    at false e = ap (λ l. (r.name, f r) ∷ l) e

each_lasts : (P : Row → Type 0) (rows : List Row) → Each P rows → Each P (last_rows rows)
each_lasts P [] each = tt
each_lasts P (r ∷ rs) each = at (has_name r.name rs) (each_lasts P rs each.1)
  where
    at : (b : Bool) → Each P (last_rows rs) → Each P (cond b (last_rows rs) (r ∷ last_rows rs))
    at true rest = rest
    at false rest = (each.0, rest)

-- the only values of objects, of which the fact holds
pub record AreOnly (P : Tree → Tree → Tree → Tree → Type 0) (old new gone come : Tree) : Type 0 where
  pub row : Row
  pub old_is : only_of old ≡ Some row.old
  pub new_is : only_of new ≡ Some row.new
  pub gone_is : only_of gone ≡ Some row.gone
  pub come_is : only_of come ≡ Some row.come
  pub holds : P row.old row.new row.gone row.come

only_rows : (f : Row → Tree) (t : Tree) (ps : Pairs) (rows ls : List Row) → t ≡ object ps → ps ≡ pairs_of (members_by f rows) → last_rows rows ≡ ls → only_of t ≡ only_value (members_by f ls)
only_rows f t ps rows ls is are last =
    ap only_of is ∙ ap (λ qs. only_value (entries qs)) are ∙ ap only_value (entries-rows f rows) ∙ ap (λ l. only_value (members_by f l)) last

pub only_values : (P : Tree → Tree → Tree → Tree → Type 0) (old new gone come t : Tree) → AreObjects (InTurn P) old new gone come → only_of old ≡ Some t → AreOnly P old new gone come
only_values P old new gone come t h e = at (last_rows h.holds.rows) refl
  where
    at : (ls : List Row) → last_rows h.holds.rows ≡ ls → AreOnly P old new gone come
    at [] is = let none = sym e ∙ only_rows (λ (r : Row). r.old) old h.olds h.holds.rows [] h.old_is h.holds.old_is is in absurd cc
    at (r ∷ []) is = record {
      row = r;
      old_is = only_rows (λ (q : Row). q.old) old h.olds h.holds.rows (r ∷ []) h.old_is h.holds.old_is is;
      new_is = only_rows (λ (q : Row). q.new) new h.news h.holds.rows (r ∷ []) h.new_is h.holds.new_is is;
      gone_is = only_rows (λ (q : Row). q.gone) gone h.gones h.holds.rows (r ∷ []) h.gone_is h.holds.gone_is is;
      come_is = only_rows (λ (q : Row). q.come) come h.comes h.holds.rows (r ∷ []) h.come_is h.holds.come_is is;
      holds = (subst (Each (λ (q : Row). P q.old q.new q.gone q.come)) is (each_lasts (λ (q : Row). P q.old q.new q.gone q.come) h.holds.rows h.holds.holds)).0;
    }
    at (r ∷ q ∷ rs) is = let none = sym e ∙ only_rows (λ (s : Row). s.old) old h.olds h.holds.rows (r ∷ q ∷ rs) h.old_is h.holds.old_is is in absurd cc
