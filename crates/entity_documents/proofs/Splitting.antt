-- The lists that merged members give are merged of those that their parts give.
use Rattle.std.proofs.Common.{◌≡◌, List, [], ◌∷◌, ◌++◌, Option, inl, inr, refl, sym, subst, ◌∙◌}
use Rattle.json_spell.proofs.Opened.{some_is}
use Rattle.sorted_sets.specs.Merging.{Merges}
use Rattle.sorted_sets.proofs.Merged.{merges-ahead-first, merges-ahead-second}
use Rattle.entity_json.specs.Joined.{Joined}
use Rattle.entity_json.proofs.Agree.{Walks, steps-complete}

-- what the parts of merged members give
pub record Splits {X A : Type 0} (R : X → List A → Type 0) (first second : List X) (ys : List A) : Type 0 where
  pub firsts : List A
  pub seconds : List A
  pub first_joined : Joined R first firsts
  pub second_joined : Joined R second seconds
  pub merges : Merges firsts seconds ys

-- what merged members give
pub record Joins {X A : Type 0} (R : X → List A → Type 0) (all : List X) (firsts seconds : List A) : Type 0 where
  pub ys : List A
  pub joined : Joined R all ys
  pub merges : Merges firsts seconds ys

module _ {X A : Type 0} (R : X → List A → Type 0) where
  pub split : (first second all : List X) (ys : List A) → Merges first second all → Joined R all ys → Splits R first second ys
  split first second [] ys h joined =
      record {
        firsts = [];
        seconds = [];
        first_joined = subst (λ (l : List X). Joined R l []) (sym h.0) refl;
        second_joined = subst (λ (l : List X). Joined R l []) (sym h.1) refl;
        merges = subst (λ (l : List A). Merges [] [] l) (sym joined) (refl, refl);
      }
  split first second (x ∷ xs) ys (inl h) joined =
      let s = split h.rest second xs joined.rest h.holds joined.then_holds in
      record {
        firsts = joined.front ++ s.firsts;
        seconds = s.seconds;
        first_joined = subst (λ (l : List X). Joined R l (joined.front ++ s.firsts)) (sym h.is)
            (record { front = joined.front; rest = s.firsts; holds = joined.holds; then_holds = s.first_joined; is = refl });
        second_joined = s.second_joined;
        merges = subst (λ (l : List A). Merges (joined.front ++ s.firsts) s.seconds l) (sym joined.is) (merges-ahead-first joined.front s.firsts s.seconds joined.rest s.merges);
      }
  split first second (x ∷ xs) ys (inr h) joined =
      let s = split first h.rest xs joined.rest h.holds joined.then_holds in
      record {
        firsts = s.firsts;
        seconds = joined.front ++ s.seconds;
        first_joined = s.first_joined;
        second_joined = subst (λ (l : List X). Joined R l (joined.front ++ s.seconds)) (sym h.is)
            (record { front = joined.front; rest = s.seconds; holds = joined.holds; then_holds = s.second_joined; is = refl });
        merges = subst (λ (l : List A). Merges s.firsts (joined.front ++ s.seconds) l) (sym joined.is) (merges-ahead-second joined.front s.firsts s.seconds joined.rest s.merges);
      }

  pub join : (first second all : List X) (firsts seconds : List A) → Merges first second all → Joined R first firsts → Joined R second seconds → Joins R all firsts seconds
  join first second [] firsts seconds h a b =
      let none_first : firsts ≡ [] = subst (λ (l : List X). Joined R l firsts) h.0 a in
      let none_second : seconds ≡ [] = subst (λ (l : List X). Joined R l seconds) h.1 b in
      record { ys = []; joined = refl; merges = (none_first, none_second) }
  join first second (x ∷ xs) firsts seconds (inl h) a b =
      let t = subst (λ (l : List X). Joined R l firsts) h.is a in
      let s = join h.rest second xs t.rest seconds h.holds t.then_holds b in
      record {
        ys = t.front ++ s.ys;
        joined = record { front = t.front; rest = s.ys; holds = t.holds; then_holds = s.joined; is = refl };
        merges = subst (λ (l : List A). Merges l seconds (t.front ++ s.ys)) (sym t.is) (merges-ahead-first t.front t.rest seconds s.ys s.merges);
      }
  join first second (x ∷ xs) firsts seconds (inr h) a b =
      let t = subst (λ (l : List X). Joined R l seconds) h.is b in
      let s = join first h.rest xs firsts t.rest h.holds a t.then_holds in
      record {
        ys = t.front ++ s.ys;
        joined = record { front = t.front; rest = s.ys; holds = t.holds; then_holds = s.joined; is = refl };
        merges = subst (λ (l : List A). Merges firsts l (t.front ++ s.ys)) (sym t.is) (merges-ahead-second t.front firsts t.rest s.ys s.merges);
      }

  -- members give one list
  pub joined_once : (step : X → List A → Option (List A)) → Walks step R → (xs : List X) (ys zs : List A) → Joined R xs ys → Joined R xs zs → ys ≡ zs
  joined_once step walks xs ys zs h k =
      some_is (sym (steps-complete step R walks xs [] ys h) ∙ steps-complete step R walks xs [] zs k)
