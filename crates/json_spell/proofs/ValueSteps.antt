-- The bound on nesting never matters, so a value is read by one step and then the same again.
use Rattle.std.proofs.Common.{◌≡◌, ℕ, zero, suc, ◌<◌, ◌≤◌, false, ◌==◌, List, [], ◌∷◌, length, Option, Some, None, option_map, refl, sym, ap, ◌∙◌, arith}
use Rattle.json_spell.specs.Tree.{Tree, string, array, object, Trees, no_trees, tree, Pairs, no_pairs}
use Rattle.json_spell.specs.Text.{IsString}
use Rattle.json_spell.specs.Grammar.{is_ws, Spaced, IsValue}
use Rattle.json_spell.specs.Reading.{Parse, read_map, ◌>>=◌, skip, after_byte, spaced, after_part, parts_by, parts, list_by, content_at, scalar_at, name_at, key_at, after_name, member_by, add_pair, values, members, value_by, value, value_at, values_at, members_at}
use Rattle.json_spell.proofs.Skips.{skip-le}
use Rattle.json_spell.proofs.Lists.{Sound, Shrinks, found-le, after_byte-sound, spaced-sound, parts-same}
use Rattle.json_spell.proofs.Values.{Member, name-sound, member-sound, value-sound}

-- what is left of a sound part is no longer
shrinks : {A : Type 0} (part : Parse A) (P : A → List ℕ → Type 0) → Sound part P → Shrinks part
shrinks part P sound s a r e = found-le (P a) s r (sound s a r e)

-- parts depend on the value reader at what is left alone
spaced-same : {A : Type 0} (part part' : Parse A) (s : List ℕ) → part (skip is_ws s) ≡ part' (skip is_ws s) → spaced part s ≡ spaced part' s
spaced-same part part' s e = rw e refl

member-same : (value value' : Parse Tree) (bound : ℕ) → ((s : List ℕ) → length s ≤ bound → value s ≡ value' s) → (s : List ℕ) → length s ≤ bound → member_by value s ≡ member_by value' s
member-same value value' bound same s short = at (spaced name_at s) refl
  where
    colon : (name r : List ℕ) → length r ≤ length s → (o : Option (List ℕ)) → after_byte 0x3A r ≡ o
        → (o >>= λ rest. read_map {B = List ℕ × Tree} (λ t. (name, t)) (spaced value rest)) ≡ (o >>= λ rest. read_map {B = List ℕ × Tree} (λ t. (name, t)) (spaced value' rest))
    colon name r l None e = refl
    colon name r l (Some rest) e =
        let whole : length r ≡ suc (length rest) = ap length (after_byte-sound 0x3A r rest e) in
        rw (spaced-same value value' rest (same (skip is_ws rest) (let k = skip-le is_ws rest in omega arith))) refl

    at : (o : Option (List ℕ × List ℕ)) → spaced name_at s ≡ o → (o >>= λ p. after_name value p.0 p.1) ≡ (o >>= λ p. after_name value' p.0 p.1)
    at None e = refl
    at (Some p) e = colon p.0 p.1 (shrinks (spaced name_at) (λ k. Spaced (IsString k)) (spaced-sound name_at IsString name-sound) s p.0 p.1 e) (after_byte 0x3A p.1) refl

value_by-same : (f f' : Parse Trees) (g g' : Parse Pairs) (x : ℕ) (s : List ℕ) → f s ≡ f' s → g s ≡ g' s → value_by f g (x ∷ s) ≡ value_by f' g' (x ∷ s)
value_by-same f f' g g' x s e h = rw (e, h) refl

values-same : (value value' : Parse Tree) (bound : ℕ) → ((s : List ℕ) → length s ≤ bound → value s ≡ value' s) → Sound value' IsValue
    → (n m : ℕ) (s : List ℕ) → length s ≤ bound → length s < n → length s < m → values value n s ≡ values value' m s
values-same value value' bound same sound =
    parts-same tree no_trees 0x5D (spaced value) (spaced value') bound
    (λ s l. spaced-same value value' s (same (skip is_ws s) (let k = skip-le is_ws s in omega arith)))
    (shrinks (spaced value') (λ t. Spaced (IsValue t)) (spaced-sound value' IsValue sound))

members-same : (value value' : Parse Tree) (bound : ℕ) → ((s : List ℕ) → length s ≤ bound → value s ≡ value' s) → Sound value' IsValue
    → (n m : ℕ) (s : List ℕ) → length s ≤ bound → length s < n → length s < m → members value n s ≡ members value' m s
members-same value value' bound same sound =
    parts-same add_pair no_pairs 0x7D (member_by value) (member_by value') bound (member-same value value' bound same) (shrinks (member_by value') Member (member-sound value' sound))

pub value-same : (n m : ℕ) (s : List ℕ) → length s < n → length s < m → value n s ≡ value m s
unfolding value
value-same zero m s l k = absurd (omega arith)
value-same (suc n) zero s l k = absurd (omega arith)
value-same (suc n) (suc m) [] l k = refl
value-same (suc n) (suc m) (x ∷ s) l k =
    let same : (r : List ℕ) → length r ≤ length s → value n r ≡ value m r = λ r j. value-same n m r (omega arith) (omega arith) in
    value_by-same (values (value n) (suc n)) (values (value m) (suc m)) (members (value n) (suc n)) (members (value m) (suc m)) x s
    (values-same (value n) (value m) (length s) same (value-sound m) (suc n) (suc m) s (omega arith) (omega arith) (omega arith))
    (members-same (value n) (value m) (length s) same (value-sound m) (suc n) (suc m) s (omega arith) (omega arith) (omega arith))

pub value_at-sound : Sound value_at IsValue
unfolding value_at
value_at-sound s t r e = value-sound (suc (length s)) s t r e

-- the steps of the readers
pub value_at-is : (s : List ℕ) → value_at s ≡ value_by values_at members_at s
unfolding value value_at values_at members_at
value_at-is [] = refl
value_at-is (x ∷ s) =
    let n = suc (length s) in
    let same : (r : List ℕ) → length r ≤ length s → value n r ≡ value_at r = λ r j. value-same n (suc (length r)) r (omega arith) (omega arith) in
    value_by-same (values (value n) (suc n)) values_at (members (value n) (suc n)) members_at x s
    (values-same (value n) value_at (length s) same value_at-sound (suc n) n s (omega arith) (omega arith) (omega arith))
    (members-same (value n) value_at (length s) same value_at-sound (suc n) n s (omega arith) (omega arith) (omega arith))

parts-step : {A L : Type 0} (cons : A → L → L) (none : L) (close : ℕ) (part : Parse A) → Shrinks part
    → (s : List ℕ) → parts part cons none close (suc (length s)) s ≡ parts_by part cons none close (λ r. parts part cons none close (suc (length r)) r) s
unfolding parts
parts-step {A} {L} cons none close part shrink s = at (part s) refl
  where
    behind : (a : A) (r : List ℕ) → length r ≤ length s → after_part cons none close (parts part cons none close (length s)) a r ≡ after_part cons none close (λ r. parts part cons none close (suc (length r)) r) a r
    behind a [] l = refl
    behind a (x ∷ r) l = rw (parts-same cons none close part part (length s) (λ q k. refl) shrink (length s) (suc (length r)) r (omega arith) (omega arith) (omega arith)) refl

    at : (o : Option (A × List ℕ)) → part s ≡ o → (o >>= λ p. after_part cons none close (parts part cons none close (length s)) p.0 p.1) ≡ (o >>= λ p. after_part cons none close (λ r. parts part cons none close (suc (length r)) r) p.0 p.1)
    at None e = refl
    at (Some p) e = behind p.0 p.1 (shrink s p.0 p.1 e)

pub values_at-is : (s : List ℕ) → values_at s ≡ parts_by (spaced value_at) tree no_trees 0x5D values_at s
unfolding values_at
values_at-is = parts-step tree no_trees 0x5D (spaced value_at) (shrinks (spaced value_at) (λ t. Spaced (IsValue t)) (spaced-sound value_at IsValue value_at-sound))

pub members_at-is : (s : List ℕ) → members_at s ≡ parts_by (member_by value_at) add_pair no_pairs 0x7D members_at s
unfolding members_at
members_at-is = parts-step add_pair no_pairs 0x7D (member_by value_at) (shrinks (member_by value_at) Member (member-sound value_at value_at-sound))

-- a value by its first byte
pub value_at-end : (s : List ℕ) → s ≡ [] → value_at s ≡ None
value_at-end s e = value_at-is s ∙ ap (value_by values_at members_at) e

first-byte : (s : List ℕ) (x : ℕ) (r : List ℕ) (byte : ℕ) → s ≡ x ∷ r → x ≡ byte → value_at s ≡ value_by values_at members_at (byte ∷ r)
first-byte s x r byte e x_is = value_at-is s ∙ ap (value_by values_at members_at) (e ∙ ap (λ y. y ∷ r) x_is)

pub value_at-string : (s : List ℕ) (x : ℕ) (r : List ℕ) → s ≡ x ∷ r → x ≡ 0x22 → value_at s ≡ read_map string (content_at r)
value_at-string s x r e x_is = first-byte s x r 0x22 e x_is

pub value_at-array : (s : List ℕ) (x : ℕ) (r : List ℕ) → s ≡ x ∷ r → x ≡ 0x5B → value_at s ≡ read_map array (list_by no_trees 0x5D values_at r)
value_at-array s x r e x_is = first-byte s x r 0x5B e x_is

pub value_at-object : (s : List ℕ) (x : ℕ) (r : List ℕ) → s ≡ x ∷ r → x ≡ 0x7B → value_at s ≡ read_map object (list_by no_pairs 0x7D members_at r)
value_at-object s x r e x_is = first-byte s x r 0x7B e x_is

pub value_at-scalar : (s : List ℕ) (x : ℕ) (r : List ℕ) → s ≡ x ∷ r → (x == 0x22) ≡ false → (x == 0x5B) ≡ false → (x == 0x7B) ≡ false → value_at s ≡ scalar_at s
value_at-scalar s x r e a b c =
    let there : value_by values_at members_at (x ∷ r) ≡ scalar_at (x ∷ r) = rw (a, b, c) refl in
    value_at-is s ∙ ap (value_by values_at members_at) e ∙ there ∙ ap scalar_at (sym e)

-- a member by its name with the colon, and then its value
abbrev keyed : List ℕ → Option (List ℕ) → Option (List ℕ × List ℕ)
keyed name o = option_map (λ rest. (name, rest)) o

member-after_name : (read : Parse Tree) (name : List ℕ) (o : Option (List ℕ))
    → (o >>= λ rest. read_map {B = List ℕ × Tree} (λ t. (name, t)) (spaced read rest)) ≡ (keyed name o >>= λ k. read_map {B = List ℕ × Tree} (λ t. (k.0, t)) (spaced read k.1))
member-after_name read name None = refl
member-after_name read name (Some rest) = refl

member-by_name : (read : Parse Tree) (o : Option (List ℕ × List ℕ))
    → (o >>= λ p. after_name read p.0 p.1) ≡ ((o >>= λ p. keyed p.0 (after_byte 0x3A p.1)) >>= λ k. read_map {B = List ℕ × Tree} (λ t. (k.0, t)) (spaced read k.1))
member-by_name read None = refl
member-by_name read (Some p) = member-after_name read p.0 (after_byte 0x3A p.1)

member-by_key : (read : Parse Tree) (s : List ℕ) → member_by read s ≡ (key_at s >>= λ k. read_map (λ t. (k.0, t)) (spaced read k.1))
member-by_key read s = member-by_name read (spaced name_at s)

pub member-no_key : (read : Parse Tree) (s : List ℕ) → key_at s ≡ None → member_by read s ≡ None
member-no_key read s e = member-by_key read s ∙ ap (λ o. o >>= λ k. read_map (λ t. (k.0, t)) (spaced read k.1)) e

pub member-key : (read : Parse Tree) (s name rest : List ℕ) → key_at s ≡ Some (name, rest) → member_by read s ≡ read_map (λ t. (name, t)) (spaced read rest)
member-key read s name rest e = member-by_key read s ∙ ap (λ o. o >>= λ k. read_map (λ t. (k.0, t)) (spaced read k.1)) e
