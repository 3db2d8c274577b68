-- What two lists have of their own, but for what the rest of the new one has too.
use Rattle.std.proofs.Common.{◌≡◌, ℕ, ◌<◌, ◌≤◌, Bool, true, false, not, cond, ◌||◌, ◌&&◌, List, [], ◌∷◌, ◌++◌, filter, refl, sym, ◌∙◌, ap, arith, true≢false}
use Rattle.std.specs.Prelude.{Err, IfOk, IfSome, None, Ok, Option, Result, Some}
use Rattle.std.specs.List.{flat_map}
use Rattle.std.specs.Ordering.{eq_by_cmp}
use Rattle.std.proofs.lemmas.Bool.{ltb-false, ltb-true}
use Rattle.std.proofs.lemmas.List.Elements.{filter-append}
use Rattle.std.proofs.lemmas.List.Sums.{sum_by-cons}
use Rattle.sorted_sets.specs.{Merging.Balance, Merging.IsWithin, Rising.has}
use Rattle.sorted_sets.proofs.{Bools.and_right, Bools.equal, Filtering.has-filter}
use Rattle.rdf_term.specs.{declared.triple.Triple.Triple, Order.triple_cmp}
use Rattle.rdf_term.proofs.Texts.{triple_cmp-IsAntisymmetric}
use Rattle.page_parts.specs.{Apart.TellApart, InOne.has_more, InOne.in_one, InOne.times}
use Rattle.page_parts.proofs.StayingRows.{times_none}

-- what a test keeps of each element is what it keeps of all of them
filter_each : {A : Type 0} (p : A → Bool) (xs : List A) → flat_map (λ x. filter p (x ∷ [])) xs ≡ filter p xs
filter_each p [] = refl
filter_each p (x ∷ xs) = ap (λ l. filter p (x ∷ []) ++ l) (filter_each p xs) ∙ sym (filter-append p (x ∷ []) xs)

pub filter_flat : {A B : Type 0} (p : B → Bool) (f : A → List B) (xs : List A) → flat_map (λ x. flat_map (λ y. filter p (y ∷ [])) (f x)) xs ≡ filter p (flat_map f xs)
filter_flat p f [] = refl
filter_flat p f (x ∷ xs) = (λ i. filter_each p (f x) i ++ filter_flat p f xs i) ∙ sym (filter-append p (f x) (flat_map f xs))

-- 1 for the triple
abbrev one : Triple → Triple → ℕ
one t u = cond (eq_by_cmp triple_cmp t u) 1 0

times_some : (t : Triple) (xs : List Triple) → has triple_cmp t xs ≡ true → 1 ≤ times t xs
times_some t [] e = absurd (true≢false (sym e))
times_some t (x ∷ xs) e =
    elim (eq_by_cmp triple_cmp t x) as (λ b. eq_by_cmp triple_cmp t x ≡ b → (b || has triple_cmp t xs) ≡ true → 1 ≤ times t (x ∷ xs)) [
      | true ↦ λ q _. let here : one t x ≡ 1 = ap (λ b. cond b 1 0) q in omega (arith, sum_by-cons (one t) x xs, here)
      | false ↦ λ q rest. omega (arith, sum_by-cons (one t) x xs, times_some t xs rest)
    ] refl e

has_some : (t : Triple) (xs : List Triple) → 1 ≤ times t xs → has triple_cmp t xs ≡ true
has_some t xs some = by (has triple_cmp t xs) refl
  where
    by : (b : Bool) → has triple_cmp t xs ≡ b → b ≡ true
    by true e = refl
    by false e = absurd (omega (arith, some, times_none t xs e))

unlike : (b : Bool) → b ≡ not b → ⊥
unlike true e = true≢false e
unlike false e = true≢false (sym e)

-- of what passes a test a list has a triple as often as before, or not at all
module _ (p : Triple → Bool) (t : Triple) where
  another : (x : Triple) (b : Bool) → p t ≡ b → p x ≡ not b → one t x ≡ 0
  another x b t_is x_is = by (eq_by_cmp triple_cmp t x) refl
    where
      by : (e : Bool) → eq_by_cmp triple_cmp t x ≡ e → one t x ≡ 0
      by false q = ap (λ c. cond c 1 0) q
      by true q =
          let same : p t ≡ p x = ap p (triple_cmp-IsAntisymmetric t x (equal (triple_cmp t x) q)) in
          absurd (unlike b (sym t_is ∙ same ∙ x_is))

  times_kept : p t ≡ true → (xs : List Triple) → times t (filter p xs) ≡ times t xs
  times_kept passes [] = refl
  times_kept passes (x ∷ xs) = by (times_kept passes xs) (p x) refl
    where
      by : times t (filter p xs) ≡ times t xs → (b : Bool) → p x ≡ b → times t (cond b (x ∷ filter p xs) (filter p xs)) ≡ times t (x ∷ xs)
      by rest true q = omega (arith, sum_by-cons (one t) x xs, sum_by-cons (one t) x (filter p xs), rest)
      by rest false q = omega (arith, sum_by-cons (one t) x xs, another x true passes q, rest)

  times_dropped : p t ≡ false → (xs : List Triple) → times t (filter p xs) ≡ 0
  times_dropped fails [] = refl
  times_dropped fails (x ∷ xs) = by (times_dropped fails xs) (p x) refl
    where
      by : times t (filter p xs) ≡ 0 → (b : Bool) → p x ≡ b → times t (cond b (x ∷ filter p xs) (filter p xs)) ≡ 0
      by rest true q = omega (arith, sum_by-cons (one t) x (filter p xs), another x false fails q, rest)
      by rest false q = rest

  -- so it is known what both lists have more often of what passes
  pub more_passing : (many few : List Triple) → has_more (filter p many) (filter p few) t ≡ true → (p t ≡ true) × (times t few < times t many)
  more_passing many few e = by (p t) refl
    where
      more : times t (filter p few) < times t (filter p many)
      more = ltb-true (times t (filter p few)) (times t (filter p many)) e

      by : (b : Bool) → p t ≡ b → (b ≡ true) × (times t few < times t many)
      by true q = (refl, omega (arith, more, times_kept q few, times_kept q many))
      by false q = absurd (omega (arith, more, times_dropped q many))

  pub fewer_passing : (many few : List Triple) → p t ≡ true → has_more (filter p many) (filter p few) t ≡ false → times t many ≤ times t few
  fewer_passing many few passes e =
      let fewer : times t (filter p many) ≤ times t (filter p few) = ltb-false (times t (filter p few)) (times t (filter p many)) e in
      omega (arith, fewer, times_kept passes few, times_kept passes many)

module _ (new gone old come : List Triple) (balance : Balance new gone old come) (gone_in : IsWithin gone old) (come_in : IsWithin come new) where
  abbrev test : Triple → Bool
  test = in_one gone come

  -- what stays
  abbrev out : Triple → Bool
  out = has_more (filter test new) (filter test come)

  abbrev left_of : List Triple → List Triple
  left_of = filter (λ t. not (out t))

  has_left : (t : Triple) (xs : List Triple) (b : Bool) → out t ≡ b → has triple_cmp t (left_of xs) ≡ (not b && has triple_cmp t xs)
  has_left t xs b is = has-filter triple_cmp triple_cmp-IsAntisymmetric (λ u. not (out u)) t xs ∙ ap (λ c. not c && has triple_cmp t xs) is

  -- what isn't out is left where it was
  still : (t : Triple) (xs : List Triple) → (out t ≡ true → ⊥) → has triple_cmp t xs ≡ true → has triple_cmp t (left_of xs) ≡ true
  still t xs in_it there = by (out t) refl
    where
      by : (b : Bool) → out t ≡ b → has triple_cmp t (left_of xs) ≡ true
      by true e = absurd (in_it e)
      by false e = has_left t xs false e ∙ there

  was_there : (t : Triple) (xs : List Triple) → has triple_cmp t (left_of xs) ≡ true → has triple_cmp t xs ≡ true
  was_there t xs h = and_right (not (out t)) (has triple_cmp t xs) (sym (has_left t xs (out t) refl) ∙ h)

  left : (t : Triple) → has triple_cmp t old ≡ true → has triple_cmp t new ≡ false → has triple_cmp t (left_of gone) ≡ true
  left t was away =
      still t gone (λ e. let more = (more_passing test t new come e).1 in absurd (omega (arith, more, times_none t new away)))
      (has_some t gone (omega (arith, times_some t old was, times_none t new away, balance.weighs (one t))))

  came : (t : Triple) → has triple_cmp t new ≡ true → has triple_cmp t old ≡ false → has triple_cmp t (left_of come) ≡ true
  came t is fresh =
      still t come (λ e. let more = (more_passing test t new come e).1 in absurd (omega (arith, more, times_none t old fresh, balance.weighs (one t))))
      (has_some t come (omega (arith, times_some t new is, times_none t old fresh, balance.weighs (one t))))

  stayed : (t : Triple) → has triple_cmp t old ≡ true → has triple_cmp t new ≡ true → has triple_cmp t (left_of gone) ≡ has triple_cmp t (left_of come)
  stayed t was is = by_out (out t) refl
    where
      by : (a b : Bool) → out t ≡ false → has triple_cmp t gone ≡ a → has triple_cmp t come ≡ b → a ≡ b
      by true true e g k = refl
      by false false e g k = refl
      by true false e g k =
          let passes : test t ≡ true = (λ i. cond (g i) (not (k i)) (k i)) in
          absurd (omega (arith, fewer_passing test t new come passes e, times_none t come k, times_some t new is))
      by false true e g k =
          let passes : test t ≡ true = (λ i. cond (g i) (not (k i)) (k i)) in
          absurd (omega (arith, fewer_passing test t new come passes e, times_none t gone g, times_some t old was, balance.weighs (one t)))

      by_out : (b : Bool) → out t ≡ b → has triple_cmp t (left_of gone) ≡ has triple_cmp t (left_of come)
      by_out true e = has_left t gone true e ∙ sym (has_left t come true e)
      by_out false e = has_left t gone false e ∙ by (has triple_cmp t gone) (has triple_cmp t come) e refl refl ∙ sym (has_left t come false e)

  -- so of lists with the same triples it is known what they have of their own
  pub told_apart : (before after : List Triple) → ((t : Triple) → has triple_cmp t before ≡ has triple_cmp t old) → ((t : Triple) → has triple_cmp t after ≡ has triple_cmp t new)
      → TellApart before after (left_of gone) (left_of come)
  told_apart before after was is = record {
    gone_within = λ t h. was t ∙ has_some t old (omega (arith, times_some t gone (was_there t gone h), gone_in.weighs (one t)));
    come_within = λ t h. is t ∙ has_some t new (omega (arith, times_some t come (was_there t come h), come_in.weighs (one t)));
    left = λ t h k. left t (sym (was t) ∙ h) (sym (is t) ∙ k);
    came = λ t h k. came t (sym (is t) ∙ h) (sym (was t) ∙ k);
    stayed = λ t h k. stayed t (sym (was t) ∙ h) (sym (is t) ∙ k);
  }

-- what is left of each element where some are left out
flipped : {A : Type 0} (b : Bool) (l : List A) → cond b [] l ≡ cond (not b) l []
flipped true l = refl
flipped false l = refl

pub left_flat : {A B : Type 0} (q : B → Bool) (f : A → List B) (xs : List A) → flat_map (λ x. flat_map (λ y. cond (q y) [] (y ∷ [])) (f x)) xs ≡ filter (λ y. not (q y)) (flat_map f xs)
left_flat q f xs = (λ i. flat_map (λ x. flat_map (λ y. flipped (q y) (y ∷ []) i) (f x)) xs) ∙ filter_flat (λ y. not (q y)) f xs

pub if_weaker : {A B : Type 0} (r : Result A B) (P Q : A → Type 0) → ((x : A) → P x → Q x) → IfOk r P → IfOk r Q
if_weaker (Ok x) P Q f h = f x h
if_weaker (Err e) P Q f h = tt

pub some_weaker : {A : Type 0} (r : Option A) (P Q : A → Type 0) → ((x : A) → P x → Q x) → IfSome r P → IfSome r Q
some_weaker (Some x) P Q f h = f x h
some_weaker None P Q f h = tt
