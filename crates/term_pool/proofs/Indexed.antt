-- The index stays right when a text comes or goes.
use Rattle.std.proofs.Common.{◌≡◌, ◌≢◌, ℕ, ◌==◌, ◌⊎◌, inl, inr, true, false, not, cond, arith, [], ◌∷◌, List, Option, Some, None, refl, sym, ap, subst, ◌∙◌, ⊎_elim}
use Rattle.std.specs.Prelude.{IsSome}
use Rattle.std.specs.List.{Contains, filter}
use Rattle.std.specs.declared.random_state.RandomState.{RandomState}
use Rattle.std.proofs.lemmas.Bool.{cases_eq}
use Rattle.std.proofs.lemmas.Bool.Decides.{eqb_tells}
use Rattle.slab.proofs.SlabLemmas.{Contains-cons, Contains-cons_cases}
use Rattle.term_pool.specs.Index.{Forgets, IsIndexed, Points, hash_of}

module _ (number : ℕ) where
  first_goes : (y : ℕ) (ys : List ℕ) → (y == number) ≡ true → filter (λ other. not (other == number)) (y ∷ ys) ≡ filter (λ other. not (other == number)) ys
  first_goes y ys e = ap (λ b. cond (not b) (y ∷ filter (λ other. not (other == number)) ys) (filter (λ other. not (other == number)) ys)) e

  first_stays : (y : ℕ) (ys : List ℕ) → (y == number) ≡ false → filter (λ other. not (other == number)) (y ∷ ys) ≡ y ∷ filter (λ other. not (other == number)) ys
  first_stays y ys e = ap (λ b. cond (not b) (y ∷ filter (λ other. not (other == number)) ys) (filter (λ other. not (other == number)) ys)) e

  -- what stays listed was listed, and is another slot
  pub unlisted : (ys : List ℕ) (x : ℕ) → Contains (filter (λ other. not (other == number)) ys) x → Contains ys x × (x ≢ number)
  unlisted [] x c = absurd (omega (arith, c.1))
  unlisted (y ∷ ys) x c =
      ⊎_elim
      (λ t. let r = unlisted ys x (subst (λ l. Contains l x) (first_goes y ys t.0) c) in (Contains-cons y x ys r.0, r.1))
      (λ f. ⊎_elim
      (λ e. ((0, omega arith, e), λ same. f.1 (e ∙ same)))
      (λ d. let r = unlisted ys x d in (Contains-cons y x ys r.0, r.1))
      (Contains-cons_cases y x (filter (λ other. not (other == number)) ys) (subst (λ l. Contains l x) (first_stays y ys f.0) c)))
      (eqb_tells y number)

  -- another slot that was listed stays
  pub still_listed : (ys : List ℕ) (x : ℕ) → Contains ys x → x ≢ number → Contains (filter (λ other. not (other == number)) ys) x
  still_listed [] x c ne = absurd (omega (arith, c.1))
  still_listed (y ∷ ys) x c ne =
      ⊎_elim
      (λ t. subst (λ l. Contains l x) (sym (first_goes y ys t.0))
      (⊎_elim (λ e. absurd (ne (sym e ∙ t.1))) (λ d. still_listed ys x d ne) (Contains-cons_cases y x ys c)))
      (λ f. subst (λ l. Contains l x) (sym (first_stays y ys f.0))
      (⊎_elim (λ e. (0, omega arith, e)) (λ d. Contains-cons y x (filter (λ other. not (other == number)) ys) (still_listed ys x d ne)) (Contains-cons_cases y x ys c)))
      (eqb_tells y number)

module _ (keys : RandomState) (before after : ℕ → Option (List ℕ)) (old new : ℕ → Option ℕ) (more : List ℕ) where
  pub index_same : IsIndexed keys before old more → ((x : ℕ) → after x ≡ before x) → ((h : ℕ) → new h ≡ old h) → IsIndexed keys after new more
  index_same i texts lookups = record {
    found = λ slot text e. ⊎_elim (λ a. inl (lookups (hash_of keys text) ∙ a)) (λ b. inr b) (i.found slot text (sym (texts slot) ∙ e));
    pointed = λ hash slot e. let p = i.pointed hash slot (sym (lookups hash) ∙ e) in (p.0, texts slot ∙ p.1, p.2);
    listed = λ slot c. subst IsSome (sym (texts slot)) (i.listed slot c);
  }

  module _ (slot : ℕ) (text : List ℕ) (others : (x : ℕ) → x ≢ slot → after x ≡ before x) (listed : List ℕ) where
    pub index_added : IsIndexed keys before old more → before slot ≡ None → after slot ≡ Some text → Points old new more listed (hash_of keys text) slot → IsIndexed keys after new listed
    index_added i vacant there points = record {
      found = λ x t e. ⊎_elim
          (λ same. let one : Some text ≡ Some t = sym there ∙ ap after (sym same) ∙ e in let eq : text ≡ t = cc in
          subst (λ y. (new (hash_of keys y) ≡ Some x) ⊎ Contains listed x) eq (subst (λ y. (new (hash_of keys text) ≡ Some y) ⊎ Contains listed y) (sym same) points.there))
          (λ ne. ⊎_elim (λ a. inl (points.kept (hash_of keys t) x a)) (λ b. inr (points.still_listed x b)) (i.found x t (sym (others x ne) ∙ e)))
          (cases_eq x slot);
      pointed = λ h x e. ⊎_elim
          (λ a. let p = i.pointed h x a in (p.0, others x (λ same. let none : None ≡ Some p.0 = sym vacant ∙ ap before (sym same) ∙ p.1 in cc) ∙ p.1, p.2))
          (λ b. (text, ap after b.1 ∙ there, sym b.0))
          (points.fresh h x e);
      listed = λ x c. ⊎_elim
          (λ a. let s = i.listed x a in subst IsSome (sym (others x (λ same. let none : IsSome {T = List ℕ} None = subst IsSome (ap before same ∙ vacant) s in cc))) s)
          (λ b. subst IsSome (sym (ap after b ∙ there)) refl)
          (points.now_listed x c);
    }

    pub index_removed : IsIndexed keys before old more → before slot ≡ Some text → Forgets old new (hash_of keys text) slot
        → ((x : ℕ) → Contains listed x → Contains more x × (x ≢ slot)) → ((x : ℕ) → Contains more x → x ≢ slot → Contains listed x) → after slot ≡ None → IsIndexed keys after new listed
    index_removed i there forgets fewer kept gone = record {
      found = λ x t e.
          let ne : x ≢ slot = λ same. let none : None ≡ Some t = sym gone ∙ ap after (sym same) ∙ e in cc in
          ⊎_elim (λ a. inl (forgets.kept (hash_of keys t) x a ne)) (λ b. inr (kept x b ne)) (i.found x t (sym (others x ne) ∙ e));
      pointed = λ h x e.
          let p = i.pointed h x (forgets.still h x e) in
          let ne : x ≢ slot = λ same.
          let one : Some text ≡ Some p.0 = sym there ∙ ap before (sym same) ∙ p.1 in
          let eq : text ≡ p.0 = cc in
          forgets.gone (ap new (ap (hash_of keys) eq ∙ p.2) ∙ e ∙ ap Some same) in
          (p.0, others x ne ∙ p.1, p.2);
      listed = λ x c. let f = fewer x c in subst IsSome (sym (others x f.1)) (i.listed x f.0);
    }
