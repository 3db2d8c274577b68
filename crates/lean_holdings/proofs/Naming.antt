-- How many pages name an entity, and how that follows the record of one.
use Rattle.std.proofs.Common.{◌≡◌, ◌≢◌, ℕ, ◌+◌, ◌≤◌, Bool, true, false, not, cond, ◌&&◌, ◌||◌, List, Option, Some, None, is_some, unwrap_or, refl, sym, ◌∙◌, ap, true≢false, ⊎_elim, arith}
use Rattle.std.specs.FinMap as map
use Rattle.std.specs.Ordering.{eq_by_cmp}
use Rattle.std.proofs.lemmas.List.Sums.{count_by-le-length}
use Rattle.sorted_sets.specs.{Counting.one_if, Rising.difference, Rising.has}
use Rattle.sorted_sets.proofs.{Bools.equal, Filtering.has-difference}
use Rattle.rdf_term.specs.declared.triple.Triple.{Triple}
use Rattle.entity_model.specs.{declared.id.EntityId.EntityId, EntityId.entity_cmp, EntityId.entity_cmp_total}
use Rattle.entity_state.specs.{declared.record.Held.Held, declared.record.Record.Record, Record.blank}
use Rattle.replay_model.specs.{Records.Bytes, Records.Records, Records.record_of, Union.Meaning, Union.owners, Union.triples_at, Union.triples_held}
use Rattle.replay_model.proofs.{Owners.owners-change, Versions.owners-agree}
use Rattle.shared_triples.specs.Lean.{strangers}
use Rattle.shared_triples.proofs.Holding.{id_tells, record_here}
use Rattle.entity_counts.specs.Naming.{Naming, counted_in, is_counted, pages_naming}
use Rattle.lean_holdings.specs.Holding.{counted_by, strangers_on}

-- what a page names is what it means by its strangers
pub named_held : (m : Meaning Triple) (x : EntityId) (h : Option (Held Bytes)) → triples_held (strangers_on m) x h ≡ strangers x (triples_held m x h)
named_held m x None = refl
named_held m x (Some h) = refl

shift : (a b : Bool) (n k : ℕ) → ((not a && b) ≡ true → n ≡ k + 1) → ((not b && a) ≡ true → n + 1 ≡ k) → ((not a && b) ≡ false → (not b && a) ≡ false → n ≡ k) → n + one_if a ≡ k + one_if b
shift true true n k more fewer same = ap (λ v. v + 1) (same refl refl)
shift true false n k more fewer same = let e : n + 1 ≡ k = fewer refl in omega arith
shift false true n k more fewer same = let e : n ≡ k + 1 = more refl in omega arith
shift false false n k more fewer same = ap (λ v. v + 0) (same refl refl)

module _ (named : Meaning EntityId) where
  -- an entity whose record is put in names by its new page and no longer by its old one
  pub moved : (records : Records) (x : EntityId) (r : Record Bytes) (y : EntityId)
      → owners entity_cmp named (map.insert records x r) y + one_if (has entity_cmp y (triples_held named x (record_of records x).held))
      ≡ owners entity_cmp named records y + one_if (has entity_cmp y (triples_held named x r.held))
  moved records x r y =
      let old : List EntityId = triples_held named x (record_of records x).held in
      let new : List EntityId = triples_held named x r.held in
      let changes = owners-change entity_cmp_total named records x r y in
      let comes : has entity_cmp y (difference entity_cmp new old) ≡ (not (has entity_cmp y old) && has entity_cmp y new) = has-difference entity_cmp_total y new old in
      let goes : has entity_cmp y (difference entity_cmp old new) ≡ (not (has entity_cmp y new) && has entity_cmp y old) = has-difference entity_cmp_total y old new in
      shift (has entity_cmp y old) (has entity_cmp y new) (owners entity_cmp named (map.insert records x r) y) (owners entity_cmp named records y)
      (λ h. changes.0 (comes ∙ h)) (λ h. changes.1 (goes ∙ h)) (λ h k. changes.2 (comes ∙ h) (goes ∙ k))

  -- without records no page names an entity
  pub nobody_names : (y : EntityId) → owners entity_cmp named map.empty y ≡ 0
  nobody_names y =
      let nothing : Records = map.empty in
      let few : owners entity_cmp named nothing y ≤ map.len nothing = omega (arith, count_by-le-length (λ entry. has entity_cmp y (triples_at named entry)) (map.entries nothing), map.len-entries nothing) in
      let none : map.len nothing ≡ 0 = map.len-empty entity_cmp (Record Bytes) in
      omega arith

module _ (m n : Meaning EntityId) (x : EntityId) (agree : (y : EntityId) → y ≢ x → (rev : ℕ) (bytes : Bytes) → n y rev bytes ≡ m y rev bytes) where
  held_agrees : (y : EntityId) → y ≢ x → (h : Option (Held Bytes)) → triples_held n y h ≡ triples_held m y h
  held_agrees y other None = refl
  held_agrees y other (Some h) = agree y other h.revision h.content

  -- the same where what x names by its page may be another then
  pub names_follow : (records : Records) (r : Record Bytes) (y : EntityId)
      → owners entity_cmp n (map.insert records x r) y + one_if (has entity_cmp y (triples_held m x (record_of records x).held))
      ≡ owners entity_cmp m records y + one_if (has entity_cmp y (triples_held n x r.held))
  names_follow records r y =
      let same : owners entity_cmp n (map.insert records x blank) y ≡ owners entity_cmp m (map.insert records x blank) y =
      owners-agree entity_cmp m n (map.insert records x blank) (λ z. ⊎_elim
      (λ own. by z (record_of (map.insert records x blank) z).held (ap (λ (was : Record Bytes). was.held) (record_here records x blank z own.0)))
      (λ other. held_agrees z other.1 (record_of (map.insert records x blank) z).held)
      (id_tells z x)) y in
      let one : owners entity_cmp m (map.insert records x blank) y + one_if (has entity_cmp y (triples_held m x (record_of records x).held)) ≡ owners entity_cmp m records y + 0 = moved m records x blank y in
      let two : owners entity_cmp n (map.insert records x blank) y + one_if (has entity_cmp y (triples_held n x (record_of records x).held)) ≡ owners entity_cmp n records y + 0 = moved n records x blank y in
      let three : owners entity_cmp n (map.insert records x r) y + one_if (has entity_cmp y (triples_held n x (record_of records x).held)) ≡ owners entity_cmp n records y + one_if (has entity_cmp y (triples_held n x r.held)) = moved n records x r y in
      omega arith
    where
      by : (z : EntityId) (h : Option (Held Bytes)) → h ≡ None → triples_held n z h ≡ triples_held m z h
      by z None e = refl
      by z (Some h) e = absurd (true≢false (ap is_some e))

-- ---- an entity is counted in

module _ (names : Naming) (x : EntityId) where
  in_names : (y : EntityId) → is_counted (counted_in names x) y ≡ (eq_by_cmp entity_cmp y x || is_counted names y)
  in_names y = by (is_counted names x) refl
    where
      here : (b : Bool) → is_counted names x ≡ true → eq_by_cmp entity_cmp y x ≡ b → is_counted names y ≡ (b || is_counted names y)
      here true there is = ap is_some (sym (map.get_tied entity_cmp_total names y x (equal _ is))) ∙ there
      here false there is = refl

      put : (b : Bool) (found : Option ℕ) → is_some (cond b (Some 0) found) ≡ (b || is_some found)
      put true found = refl
      put false found = refl

      by : (c : Bool) → is_counted names x ≡ c → is_counted (cond c names (map.insert names x 0)) y ≡ (eq_by_cmp entity_cmp y x || is_counted names y)
      by true is = here (eq_by_cmp entity_cmp y x) is refl
      by false is = ap is_some (map.get-insert entity_cmp_total names x 0 y) ∙ put (eq_by_cmp entity_cmp y x) (map.get names y)

  -- it is counted then, and the others that were
  pub counted_more : (y : EntityId) → has entity_cmp y (counted_by (counted_in names x)) ≡ (eq_by_cmp entity_cmp y x || has entity_cmp y (counted_by names))
  counted_more y =
      sym (map.contains_key-keys (counted_in names x) y) ∙ in_names y ∙ ap (λ b. eq_by_cmp entity_cmp y x || b) (map.contains_key-keys names y)

  -- and as many pages name each entity
  pub named_alike : (y : EntityId) → pages_naming (counted_in names x) y ≡ pages_naming names y
  named_alike y = by (is_counted names x) refl
    where
      none : (found : Option ℕ) → is_some found ≡ false → 0 ≡ unwrap_or found 0
      none None is = refl
      none (Some n) is = absurd (true≢false is)

      put : (b : Bool) → eq_by_cmp entity_cmp y x ≡ b → is_counted names x ≡ false → unwrap_or (cond b (Some 0) (map.get names y)) 0 ≡ unwrap_or (map.get names y) 0
      put true is out = none (map.get names y) (ap is_some (sym (map.get_tied entity_cmp_total names y x (equal _ is))) ∙ out)
      put false is out = refl

      by : (c : Bool) → is_counted names x ≡ c → pages_naming (cond c names (map.insert names x 0)) y ≡ pages_naming names y
      by true is = refl
      by false is = ap (λ found. unwrap_or found 0) (map.get-insert entity_cmp_total names x 0 y) ∙ put (eq_by_cmp entity_cmp y x) refl is
