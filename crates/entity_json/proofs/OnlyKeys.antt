-- Members have one key where none in front of the last one has another, and more than one otherwise.
use Rattle.std.proofs.Common.{◌≡◌, Bool, true, false, not, cond, ◌||◌, ℕ, List, [], ◌∷◌, ◌++◌, Some, None, map, ⊎_elim, refl, sym, ap, ◌∙◌}
use Rattle.std.specs.Str.{bytes_eq}
use Rattle.std.proofs.lemmas.Bool.{or_cases, or_parts}
use Rattle.std.proofs.lemmas.Slice.Eq.{bytes_eq-Decides}
use Rattle.std.proofs.lemmas.List.{map-append}
use Rattle.json_spell.specs.declared.json.Member.{Member}
use Rattle.json_spell.specs.Tree.{Tree, Pairs, object}
use Rattle.json_spell.specs.View.{json_view, member_view, pairs_of}
use Rattle.entity_json.specs.Maps.{has_key, has_other_key, entries, only_value, only_of}
use Rattle.entity_json.proofs.LastMembers.{member_view-is}

-- members, and one behind them
abbrev pub with_last : List (List ℕ × Tree) → List ℕ → Tree → Pairs
with_last xs k t = pairs_of (xs ++ (k, t) ∷ [])

or_true : (b : Bool) → (b || true) ≡ true
or_true true = refl
or_true false = refl

holds : (b : Bool) → not b ≡ false → b ≡ true
holds true e = refl
holds false e = absurd cc

fails : (b : Bool) → not b ≡ true → b ≡ false
fails true e = absurd cc
fails false e = refl

has_key-last : (xs : List (List ℕ × Tree)) (k : List ℕ) (t : Tree) → has_key k (with_last xs k t) ≡ true
has_key-last [] k t = ap (λ b. b || false) ((bytes_eq-Decides k k).1 refl)
has_key-last (p ∷ xs) k t = ap (λ b. bytes_eq p.0 k || b) (has_key-last xs k t) ∙ or_true (bytes_eq p.0 k)

pub one-key : (xs : List (List ℕ × Tree)) (k : List ℕ) (t : Tree) → has_other_key k (pairs_of xs) ≡ false → entries (with_last xs k t) ≡ (k, t) ∷ []
one-key [] k t e = refl
one-key (p ∷ xs) k t e =
    let no = or_parts (not (bytes_eq p.0 k)) (has_other_key k (pairs_of xs)) e in
    let same : p.0 ≡ k = (bytes_eq-Decides p.0 k).0 (holds (bytes_eq p.0 k) no.0) in
    let again : has_key p.0 (with_last xs k t) ≡ true = ap (λ q. has_key q (with_last xs k t)) same ∙ has_key-last xs k t in
    ap (λ b. cond b (entries (with_last xs k t)) ((p.0, p.1) ∷ entries (with_last xs k t))) again ∙ one-key xs k t no.1

-- there is an entry
some-entry : (xs : List (List ℕ × Tree)) (k : List ℕ) (t : Tree) → (entry : List ℕ × Tree) × (more : List (List ℕ × Tree)) × (entries (with_last xs k t) ≡ entry ∷ more)
some-entry [] k t = ((k, t), [], refl)
some-entry (p ∷ xs) k t = at (has_key p.0 (with_last xs k t)) (some-entry xs k t)
  where
    at : (b : Bool) → (entry : List ℕ × Tree) × (more : List (List ℕ × Tree)) × (entries (with_last xs k t) ≡ entry ∷ more)
        → (entry : List ℕ × Tree) × (more : List (List ℕ × Tree)) × (cond b (entries (with_last xs k t)) ((p.0, p.1) ∷ entries (with_last xs k t)) ≡ entry ∷ more)
    at true s = s
    at false s = ((p.0, p.1), entries (with_last xs k t), refl)

-- a key that comes again and isn't that of the last one is another one
has-other : (q k : List ℕ) (xs : List (List ℕ × Tree)) (t : Tree) → bytes_eq q k ≡ false → has_key q (with_last xs k t) ≡ true → has_other_key k (pairs_of xs) ≡ true
has-other q k [] t differ e =
    let found = ⊎_elim (λ l. l) (λ r. absurd cc) (or_cases (bytes_eq k q) false e) in
    let same : q ≡ k = sym ((bytes_eq-Decides k q).0 found) in
    let there : bytes_eq q k ≡ true = (bytes_eq-Decides q k).1 same in
    absurd cc
has-other q k (p ∷ xs) t differ e =
    ⊎_elim
    (λ l. let same : p.0 ≡ q = (bytes_eq-Decides p.0 q).0 l in ap (λ b. not b || has_other_key k (pairs_of xs)) (ap (λ r. bytes_eq r k) same ∙ differ))
    (λ r. ap (λ b. not (bytes_eq p.0 k) || b) (has-other q k xs t differ r) ∙ or_true (not (bytes_eq p.0 k)))
    (or_cases (bytes_eq p.0 q) (has_key q (with_last xs k t)) e)

pub two-keys : (xs : List (List ℕ × Tree)) (k : List ℕ) (t : Tree) → has_other_key k (pairs_of xs) ≡ true → only_value (entries (with_last xs k t)) ≡ None
two-keys [] k t e = absurd cc
two-keys (p ∷ xs) k t e = at (has_key p.0 (with_last xs k t)) refl (λ more. two-keys xs k t more)
  where
    at : (b : Bool) → has_key p.0 (with_last xs k t) ≡ b → (has_other_key k (pairs_of xs) ≡ true → only_value (entries (with_last xs k t)) ≡ None)
        → only_value (cond b (entries (with_last xs k t)) ((p.0, p.1) ∷ entries (with_last xs k t))) ≡ None
    at true h behind =
        behind (⊎_elim (λ l. has-other p.0 k xs t (fails (bytes_eq p.0 k) l) h) (λ r. r) (or_cases (not (bytes_eq p.0 k)) (has_other_key k (pairs_of xs)) e))
    at false h behind = let s = some-entry xs k t in ap (λ es. only_value ((p.0, p.1) ∷ es)) s.2

-- the same of the members of an object
last-is : (items before : List Member) (m : Member) → items ≡ before ++ m ∷ [] → pairs_of (map member_view items) ≡ with_last (map member_view before) m.key.now (json_view m.value)
last-is items before m e =
    ap (λ ms. pairs_of (map member_view ms)) e ∙ ap pairs_of (map-append member_view before (m ∷ []) ∙ ap (λ v. map member_view before ++ v ∷ []) (member_view-is m))

pub only-none : (t : Tree) (items before : List Member) (m : Member) (key : List ℕ) (b : Bool) → t ≡ object (pairs_of (map member_view items)) → items ≡ before ++ m ∷ [] → key ≡ m.key.now
    → b ≡ has_other_key key (pairs_of (map member_view before)) → b ≡ true → only_of t ≡ None
only-none t items before m key b t_is e same b_is more =
    ap only_of t_is ∙ ap (λ ps. only_value (entries ps)) (last-is items before m e)
    ∙ two-keys (map member_view before) m.key.now (json_view m.value) (ap (λ k. has_other_key k (pairs_of (map member_view before))) (sym same) ∙ sym b_is ∙ more)

pub only-some : (t : Tree) (items before : List Member) (m : Member) (key : List ℕ) (b : Bool) → t ≡ object (pairs_of (map member_view items)) → items ≡ before ++ m ∷ [] → key ≡ m.key.now
    → b ≡ has_other_key key (pairs_of (map member_view before)) → b ≡ false → only_of t ≡ Some (json_view m.value)
only-some t items before m key b t_is e same b_is none =
    ap only_of t_is ∙ ap (λ ps. only_value (entries ps)) (last-is items before m e)
    ∙ ap only_value (one-key (map member_view before) m.key.now (json_view m.value) (ap (λ k. has_other_key k (pairs_of (map member_view before))) (sym same) ∙ sym b_is ∙ none))
