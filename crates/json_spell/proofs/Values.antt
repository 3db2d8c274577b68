-- What is read as a value is a value of the grammar.
use Rattle.std.proofs.Common.{◌≡◌, ℕ, zero, suc, Bool, true, false, ◌==◌, cond, List, [], ◌∷◌, ◌++◌, Option, Some, None, ◌⊎◌, inl, inr, ⊎_elim, refl, ap, subst, ◌∙◌, arith, append_assoc}
use Rattle.std.proofs.lemmas.Bool.Decides.{nat_tests}
use Rattle.json_spell.specs.Tree.{Tree, null, boolean, number, string, array, object, Trees, no_trees, tree, Pairs, no_pairs, first_there}
use Rattle.json_spell.specs.Text.{IsString}
use Rattle.json_spell.specs.Grammar.{Spaced, IsMember, IsValue, AreValues, AreMoreValues, AreMembers, AreMoreMembers, null_name, true_name, false_name}
use Rattle.json_spell.specs.Reading.{Parse, read_map, after_byte, content_at, after_word, literal_named, literal_at, spaced, list_by, name_at, member_by, add_pair, values, members, number_at, scalar_at, value_by, value}
use Rattle.json_spell.proofs.Opened.{some_is, bind_some, map_some, chosen, Found}
use Rattle.json_spell.proofs.Numbers.{number_at-sound}
use Rattle.json_spell.proofs.Contents.{content_at-sound}
use Rattle.json_spell.proofs.Lists.{Sound, Listed, after_byte-sound, spaced-sound, parts-sound, list-sound}

-- literal names
word-sound : (word s r : List ℕ) → after_word word s ≡ Some r → s ≡ word ++ r
word-sound [] s r e = some_is e
word-sound (c ∷ word) [] r e = absurd cc
word-sound (c ∷ word) (x ∷ s) r e = at (x == c) refl e (λ f. word-sound word s r f)
  where
    at : (b : Bool) → (x == c) ≡ b → cond b (after_word word s) None ≡ Some r → (after_word word s ≡ Some r → s ≡ word ++ r) → x ∷ s ≡ c ∷ (word ++ r)
    at true z f behind = let x_is : x ≡ c = grind (arith, nat_tests, z) in let s_is = behind f in cc
    at false z f behind = absurd cc

pub there : {A : Type 0} (a b : Option A) {y : A} → first_there a b ≡ Some y → (a ≡ Some y) ⊎ (b ≡ Some y)
there None b e = inr e
there (Some x) b e = inl e

literal_named-sound : (word : List ℕ) (t : Tree) → IsValue t word → (s : List ℕ) (u : Tree) (r : List ℕ) → literal_named word t s ≡ Some (u, r) → Found (IsValue u) s r
literal_named-sound word t h s u r e =
    let p = map_some _ (after_word word s) e in
    let t_is : t ≡ u = ap (λ q. q.0) p.1.1 in
    let r_is : p.0 ≡ r = ap (λ q. q.1) p.1.1 in
    record { text = word; holds = subst (λ (v : Tree). IsValue v word) t_is h; is = word-sound word s p.0 p.1.0 ∙ ap (λ q. word ++ q) r_is }

literal-sound : Sound literal_at IsValue
unfolding literal_at
literal-sound s t r e =
    ⊎_elim (literal_named-sound null_name null refl s t r)
    (λ f. ⊎_elim (literal_named-sound true_name (boolean true) refl s t r) (literal_named-sound false_name (boolean false) refl s t r) (there (literal_named true_name (boolean true) s) (literal_named false_name (boolean false) s) f))
    (there (literal_named null_name null s) (first_there (literal_named true_name (boolean true) s) (literal_named false_name (boolean false) s)) e)

scalar-sound : Sound scalar_at IsValue
unfolding scalar_at
scalar-sound s t r e = ⊎_elim (literal-sound s t r) spelled (there (literal_at s) (read_map number (number_at s)) e)
  where
    spelled : read_map number (number_at s) ≡ Some (t, r) → Found (IsValue t) s r
    spelled f =
        let p = map_some _ (number_at s) f in
        let n = number_at-sound s p.0.0 p.0.1 p.1.0 in
        let t_is : number p.0.0 ≡ t = ap (λ q. q.0) p.1.1 in
        let r_is : p.0.1 ≡ r = ap (λ q. q.1) p.1.1 in
        record { text = p.0.0; holds = subst (λ (v : Tree). IsValue v p.0.0) t_is (refl, n.0); is = n.1 ∙ ap (λ q. p.0.0 ++ q) r_is }

-- strings
pub string-sound : (s m r : List ℕ) → content_at s ≡ Some (m, r) → Found (IsString m) (0x22 ∷ s) r
string-sound s m r e =
    let c = content_at-sound s m r e in
    record {
      text = 0x22 ∷ (c.text ++ 0x22 ∷ []);
      holds = record { chars = c.spells.chars; are_chars = c.spells.are_chars; text_is = ap (λ q. 0x22 ∷ (q ++ 0x22 ∷ [])) c.spells.text_is; content_is = c.spells.means_is };
      is = ap (λ q. 0x22 ∷ q) (c.is ∙ simp append_assoc);
    }

pub name-sound : Sound name_at IsString
name-sound s m r e =
    let b = bind_some (after_byte 0x22 s) _ e in
    let f = string-sound b.0 m r b.1.1 in
    record { text = f.text; holds = f.holds; is = after_byte-sound 0x22 s b.0 b.1.0 ∙ f.is }

-- one member
abbrev pub Member : List ℕ × Tree → List ℕ → Type 0
Member p text = IsMember p.0 (IsValue p.1) text

member-text : (n b s k c v r : List ℕ) → s ≡ n ++ k → k ≡ 0x3A ∷ c → c ≡ b ++ v → v ≡ r → s ≡ (n ++ 0x3A ∷ b) ++ r
member-text n b s k c v r e0 e1 e2 e3 = e0 ∙ ap (λ q. n ++ q) (e1 ∙ ap (λ q. 0x3A ∷ q) (e2 ∙ ap (λ q. b ++ q) e3)) ∙ simp append_assoc

pub member-sound : (value : Parse Tree) → Sound value IsValue → Sound (member_by value) Member
member-sound value sound s p r e =
    let k = bind_some (spaced name_at s) _ e in
    let colon = bind_some (after_byte 0x3A k.0.1) _ k.1.1 in
    let v = map_some _ (spaced value colon.0) colon.1.1 in
    let name = spaced-sound name_at IsString name-sound s k.0.0 k.0.1 k.1.0 in
    let body = spaced-sound value IsValue sound colon.0 v.0.0 v.0.1 v.1.0 in
    let p_is : (k.0.0, v.0.0) ≡ p = ap (λ q. q.0) v.1.1 in
    let r_is : v.0.1 ≡ r = ap (λ q. q.1) v.1.1 in
    record {
      text = name.text ++ 0x3A ∷ body.text;
      holds = subst (λ (q : List ℕ × Tree). Member q (name.text ++ 0x3A ∷ body.text)) p_is
          (record { first = name.text; second = 0x3A ∷ body.text; holds = name.holds; then_holds = record { rest = body.text; holds = body.holds; is = refl }; is = refl });
      is = member-text name.text body.text s k.0.1 colon.0 v.0.1 r name.is (after_byte-sound 0x3A k.0.1 colon.0 colon.1.0) body.is r_is;
    }

-- lists in their brackets
abbrev pub ListedValues : Trees → List ℕ → List ℕ → Type 0
ListedValues = Listed tree 0x5D (λ t. Spaced (IsValue t)) AreMoreValues

abbrev pub ListedMembers : Pairs → List ℕ → List ℕ → Type 0
ListedMembers = Listed add_pair 0x7D Member AreMoreMembers

-- a text by its first byte
first-text : (x byte : ℕ) (s g q r : List ℕ) → x ≡ byte → byte ∷ s ≡ g ++ q → q ≡ r → x ∷ s ≡ g ++ r
first-text x byte s g q r e0 e1 e2 = ap (λ y. y ∷ s) e0 ∙ e1 ∙ ap (λ t. g ++ t) e2

-- a value, where its lists are sound
value_by-sound : (values : Parse Trees) (members : Parse Pairs)
    → ((s : List ℕ) (l : Trees) (r : List ℕ) → values s ≡ Some (l, r) → ListedValues l s r)
    → ((s : List ℕ) (l : Pairs) (r : List ℕ) → members s ≡ Some (l, r) → ListedMembers l s r)
    → Sound (value_by values members) IsValue
value_by-sound values members values_sound members_sound [] t r e = absurd cc
value_by-sound values members values_sound members_sound (x ∷ s) t r e =
    ⊎_elim text (λ a. ⊎_elim items (λ b. ⊎_elim pairs (λ c. scalar-sound (x ∷ s) t r c.1) (chosen (x == 0x7B) b.1)) (chosen (x == 0x5B) a.1)) (chosen (x == 0x22) e)
  where
    text : ((x == 0x22) ≡ true) × (read_map string (content_at s) ≡ Some (t, r)) → Found (IsValue t) (x ∷ s) r
    text f =
        let p = map_some _ (content_at s) f.1 in
        let g = string-sound s p.0.0 p.0.1 p.1.0 in
        let x_is : x ≡ 0x22 = grind (arith, nat_tests, f.0) in
        let t_is : string p.0.0 ≡ t = ap (λ q. q.0) p.1.1 in
        let r_is : p.0.1 ≡ r = ap (λ q. q.1) p.1.1 in
        record { text = g.text; holds = subst (λ (v : Tree). IsValue v g.text) t_is g.holds; is = first-text x 0x22 s g.text p.0.1 r x_is g.is r_is }

    items : ((x == 0x5B) ≡ true) × (read_map array (list_by no_trees 0x5D values s) ≡ Some (t, r)) → Found (IsValue t) (x ∷ s) r
    items f =
        let p = map_some _ (list_by no_trees 0x5D values s) f.1 in
        let g = list-sound tree no_trees 0x5D (λ t. Spaced (IsValue t)) AreMoreValues values AreValues (λ x h. h) (λ a l x h. h) values_sound s p.0.0 p.0.1 p.1.0 in
        let x_is : x ≡ 0x5B = grind (arith, nat_tests, f.0) in
        let t_is : array p.0.0 ≡ t = ap (λ q. q.0) p.1.1 in
        let r_is : p.0.1 ≡ r = ap (λ q. q.1) p.1.1 in
        record {
          text = 0x5B ∷ g.text;
          holds = subst (λ (v : Tree). IsValue v (0x5B ∷ g.text)) t_is (record { inside = g.holds.0; holds = g.holds.1.0; is = ap (λ q. 0x5B ∷ q) g.holds.1.1 });
          is = first-text x 0x5B s (0x5B ∷ g.text) p.0.1 r x_is (ap (λ q. 0x5B ∷ q) g.is) r_is;
        }

    pairs : ((x == 0x7B) ≡ true) × (read_map object (list_by no_pairs 0x7D members s) ≡ Some (t, r)) → Found (IsValue t) (x ∷ s) r
    pairs f =
        let p = map_some _ (list_by no_pairs 0x7D members s) f.1 in
        let g = list-sound add_pair no_pairs 0x7D Member AreMoreMembers members AreMembers (λ x h. h) (λ a l x h. h) members_sound s p.0.0 p.0.1 p.1.0 in
        let x_is : x ≡ 0x7B = grind (arith, nat_tests, f.0) in
        let t_is : object p.0.0 ≡ t = ap (λ q. q.0) p.1.1 in
        let r_is : p.0.1 ≡ r = ap (λ q. q.1) p.1.1 in
        record {
          text = 0x7B ∷ g.text;
          holds = subst (λ (v : Tree). IsValue v (0x7B ∷ g.text)) t_is (record { inside = g.holds.0; holds = g.holds.1.0; is = ap (λ q. 0x7B ∷ q) g.holds.1.1 });
          is = first-text x 0x7B s (0x7B ∷ g.text) p.0.1 r x_is (ap (λ q. 0x7B ∷ q) g.is) r_is;
        }

pub values-sound : (value : Parse Tree) → Sound value IsValue → (n : ℕ) (s : List ℕ) (l : Trees) (r : List ℕ) → values value n s ≡ Some (l, r) → ListedValues l s r
values-sound value sound n =
    parts-sound tree no_trees 0x5D (λ t. Spaced (IsValue t)) AreMoreValues (spaced value) (spaced-sound value IsValue sound) refl (λ a l x h. h) n

pub members-sound : (value : Parse Tree) → Sound value IsValue → (n : ℕ) (s : List ℕ) (l : Pairs) (r : List ℕ) → members value n s ≡ Some (l, r) → ListedMembers l s r
members-sound value sound n =
    parts-sound add_pair no_pairs 0x7D Member AreMoreMembers (member_by value) (member-sound value sound) refl (λ a l x h. h) n

pub value-sound : (n : ℕ) → Sound (value n) IsValue
unfolding value
value-sound zero s t r e = absurd cc
value-sound (suc n) s t r e =
    value_by-sound (values (value n) (suc n)) (members (value n) (suc n)) (values-sound (value n) (value-sound n) (suc n)) (members-sound (value n) (value-sound n) (suc n)) s t r e
