-- How merged lists grow at their ends, and which members they have.
use Rattle.std.proofs.Common.{◌≡◌, List, [], ◌∷◌, ◌++◌, inl, inr, refl, sym, ap, subst}
use Rattle.std.specs.Prelude.{◌⊎◌}
use Rattle.sorted_sets.specs.Rising.{In}
use Rattle.sorted_sets.specs.Merging.{Merges}

module _ {A : Type 0} where
  -- one element more of the first list
  pub merges-first : (xs ys zs : List A) (z : A) → Merges xs ys zs → Merges (xs ++ z ∷ []) ys (zs ++ z ∷ [])
  merges-first xs ys [] z h = inl (record { rest = []; is = ap (λ l. l ++ z ∷ []) h.0; holds = (refl, h.1) })
  merges-first xs ys (w ∷ zs) z (inl h) =
      inl (record { rest = h.rest ++ z ∷ []; is = ap (λ l. l ++ z ∷ []) h.is; holds = merges-first h.rest ys zs z h.holds })
  merges-first xs ys (w ∷ zs) z (inr h) =
      inr (record { rest = h.rest; is = h.is; holds = merges-first xs h.rest zs z h.holds })

  -- more elements of the second list
  pub merges-second : (xs ys zs more : List A) → Merges xs ys zs → Merges xs (ys ++ more) (zs ++ more)
  merges-second xs ys [] [] h = (h.0, ap (λ l. l ++ []) h.1)
  merges-second xs ys [] (m ∷ more) h =
      inr (record { rest = more; is = ap (λ l. l ++ m ∷ more) h.1; holds = merges-second xs [] [] more (h.0, refl) })
  merges-second xs ys (w ∷ zs) more (inl h) =
      inl (record { rest = h.rest; is = h.is; holds = merges-second h.rest ys zs more h.holds })
  merges-second xs ys (w ∷ zs) more (inr h) =
      inr (record { rest = h.rest ++ more; is = ap (λ l. l ++ more) h.is; holds = merges-second xs h.rest zs more h.holds })

  in_led : (a z : A) (xs rest : List A) → xs ≡ z ∷ rest → In a xs → (a ≡ z) ⊎ In a rest
  in_led a z xs rest e h = subst (λ (l : List A). In a l) e h

  led_in : (a z : A) (xs rest : List A) → xs ≡ z ∷ rest → (a ≡ z) ⊎ In a rest → In a xs
  led_in a z xs rest e h = subst (λ (l : List A). In a l) (sym e) h

  -- what is in the first or in the second list is in the third
  pub first_in : (xs ys zs : List A) (a : A) → Merges xs ys zs → In a xs → In a zs
  first_in xs ys [] a h among = absurd (subst (λ (l : List A). In a l) h.0 among)
  first_in xs ys (z ∷ zs) a (inl h) among = elim (in_led a z xs h.rest h.is among) [
    | inl same ↦ inl same
    | inr within ↦ inr (first_in h.rest ys zs a h.holds within)
  ]
  first_in xs ys (z ∷ zs) a (inr h) among = inr (first_in xs h.rest zs a h.holds among)

  pub second_in : (xs ys zs : List A) (a : A) → Merges xs ys zs → In a ys → In a zs
  second_in xs ys [] a h among = absurd (subst (λ (l : List A). In a l) h.1 among)
  second_in xs ys (z ∷ zs) a (inl h) among = inr (second_in h.rest ys zs a h.holds among)
  second_in xs ys (z ∷ zs) a (inr h) among = elim (in_led a z ys h.rest h.is among) [
    | inl same ↦ inl same
    | inr within ↦ inr (second_in xs h.rest zs a h.holds within)
  ]

  -- and nothing else is
  pub in_either : (xs ys zs : List A) (a : A) → Merges xs ys zs → In a zs → In a xs ⊎ In a ys
  in_either xs ys [] a h among = absurd among
  in_either xs ys (z ∷ zs) a (inl h) (inl same) = inl (led_in a z xs h.rest h.is (inl same))
  in_either xs ys (z ∷ zs) a (inl h) (inr among) = elim (in_either h.rest ys zs a h.holds among) [
    | inl l ↦ inl (led_in a z xs h.rest h.is (inr l))
    | inr r ↦ inr r
  ]
  in_either xs ys (z ∷ zs) a (inr h) (inl same) = inr (led_in a z ys h.rest h.is (inl same))
  in_either xs ys (z ∷ zs) a (inr h) (inr among) = elim (in_either xs h.rest zs a h.holds among) [
    | inl l ↦ inl l
    | inr r ↦ inr (led_in a z ys h.rest h.is (inr r))
  ]

  -- more elements in front, of the first list or of the second
  pub merges-ahead-first : (ahead xs ys zs : List A) → Merges xs ys zs → Merges (ahead ++ xs) ys (ahead ++ zs)
  merges-ahead-first [] xs ys zs h = h
  merges-ahead-first (a ∷ ahead) xs ys zs h = inl (record { rest = ahead ++ xs; is = refl; holds = merges-ahead-first ahead xs ys zs h })

  pub merges-ahead-second : (ahead xs ys zs : List A) → Merges xs ys zs → Merges xs (ahead ++ ys) (ahead ++ zs)
  merges-ahead-second [] xs ys zs h = h
  merges-ahead-second (a ∷ ahead) xs ys zs h = inr (record { rest = ahead ++ ys; is = refl; holds = merges-ahead-second ahead xs ys zs h })

  -- a list and nothing
  pub merges-none : (ys : List A) → Merges [] ys ys
  merges-none [] = (refl, refl)
  merges-none (y ∷ ys) = inr (record { rest = ys; is = refl; holds = merges-none ys })
