-- Two lists of members gone over in step: what is gone from the first and what came to the second so far.
use Rattle.std.proofs.Common.{◌≡◌, ℕ, zero, suc, ◌+◌, ◌<◌, ◌≤◌, List, [], ◌∷◌, ◌++◌, length, map, take, get_or, All, Some, refl, sym, ap, subst, ◌∙◌, arith}
use Rattle.std.proofs.lemmas.List.{map-append, take_more}
use Rattle.sorted_sets.specs.Merging.{Changes, Merges}
use Rattle.sorted_sets.proofs.Merged.{merges-first, merges-second}
use Rattle.json_spell.specs.declared.json.Member.{Member}
use Rattle.json_differing.specs.declared.spelled.Spelled.{Spelled}
use Rattle.json_differing.specs.Differing.{Members}
use Rattle.json_spell.specs.View.{member_view}
use Rattle.json_differing.specs.Spelled.{HasTwin, IsAt, IsTwin, spelled_view}

-- the names and trees of members
abbrev pub views : List Spelled → Members
views ms = map spelled_view ms

-- the first members of the first list up to an index, and those of the second up to another, less what both have
pub record Owns (olds news : List Spelled) (gone come : List Spelled) (first at : ℕ) : Type 0 where
  pub low : first ≤ length olds
  pub common : Members
  pub was : Merges common (views gone) (views (take first olds))
  pub came : Merges common (views come) (views (take at news))

one_more : (ms : List Spelled) (index : ℕ) (d : Spelled) → index < length ms → views (take (index + 1) ms) ≡ views (take index ms) ++ spelled_view (get_or ms index d) ∷ []
one_more ms index d low = ap views (take_more ms index d low) ∙ map-append spelled_view (take index ms) (get_or ms index d ∷ [])

-- one that came alone
pub owns_come : (olds news : List Spelled) (gone come : List Spelled) (first at : ℕ) (d : Spelled) → Owns olds news gone come first at → at < length news
    → Owns olds news gone (come ++ get_or news at d ∷ []) first (at + 1)
owns_come olds news gone come first at d h low =
    record {
      low = h.low;
      common = h.common;
      was = h.was;
      came = subst (λ (l : Members). Merges h.common (views (come ++ get_or news at d ∷ [])) l) (sym (one_more news at d low))
          (subst (λ (l : Members). Merges h.common l (views (take at news) ++ spelled_view (get_or news at d) ∷ [])) (sym (map-append spelled_view come (get_or news at d ∷ [])))
          (merges-second h.common (views come) (views (take at news)) (spelled_view (get_or news at d) ∷ []) h.came));
    }

-- the twin of a member
pub twin_at : (olds news : List Spelled) (at : ℕ) (d : Spelled) (index : ℕ) → All (HasTwin olds) news → at < length news → (get_or news at d).twin ≡ Some index → IsAt olds (spelled_view (get_or news at d)) index
twin_at olds news at d index all low twin = subst (IsTwin olds (spelled_view (get_or news at d))) twin (all at d low)

-- one that both have, after some that are gone
pub owns_common : (olds news : List Spelled) (gone gone' come : List Spelled) (first at index : ℕ) (d : Spelled) → Owns olds news gone come first at → at < length news
    → IsAt olds (spelled_view (get_or news at d)) index
    → ((common : Members) → Merges common (views gone) (views (take first olds)) → Merges common (views gone') (views (take index olds)))
    → Owns olds news gone' come (index + 1) (at + 1)
owns_common olds news gone gone' come first at index d h low twin upto =
    let s = spelled_view (get_or news at d) in
    let old_more : views (take (index + 1) olds) ≡ views (take index olds) ++ s ∷ [] = one_more olds index d twin.low ∙ ap (λ v. views (take index olds) ++ v ∷ []) (twin.same d) in
    record {
      low = omega (arith, twin.low);
      common = h.common ++ s ∷ [];
      was = subst (λ (l : Members). Merges (h.common ++ s ∷ []) (views gone') l) (sym old_more)
          (merges-first h.common (views gone') (views (take index olds)) s (upto h.common h.was));
      came = subst (λ (l : Members). Merges (h.common ++ s ∷ []) (views come) l) (sym (one_more news at d low))
          (merges-first h.common (views come) (views (take at news)) s h.came);
    }

-- one more member of the first list that is gone
pub gone_more : (olds : List Spelled) (gone : List Spelled) (index : ℕ) (d : Spelled) (common : Members) → index < length olds → Merges common (views gone) (views (take index olds))
    → Merges common (views (gone ++ get_or olds index d ∷ [])) (views (take (index + 1) olds))
gone_more olds gone index d common low h =
    subst (λ (l : Members). Merges common l (views (take (index + 1) olds))) (sym (map-append spelled_view gone (get_or olds index d ∷ [])))
    (subst (λ (l : Members). Merges common (views gone ++ spelled_view (get_or olds index d) ∷ []) l)
    (sym (ap views (take_more olds index d low) ∙ map-append spelled_view (take index olds) (get_or olds index d ∷ [])))
    (merges-second common (views gone) (views (take index olds)) (spelled_view (get_or olds index d) ∷ []) h))

take_whole : {A : Type 0} (n : ℕ) (xs : List A) → length xs ≤ n → take n xs ≡ xs
take_whole zero [] low = refl
take_whole zero (x ∷ xs) low = absurd (omega (arith, low))
take_whole (suc n) [] low = refl
take_whole (suc n) (x ∷ xs) low = ap (λ l. x ∷ l) (take_whole n xs (omega (arith, low)))

-- at the end, the others of the first list are gone
pub owns_all : (olds news : List Spelled) (gone gone' come : List Spelled) (first at : ℕ) → Owns olds news gone come first at → length news ≤ at
    → ((common : Members) → Merges common (views gone) (views (take first olds)) → Merges common (views gone') (views (take (length olds) olds)))
    → Changes (views olds) (views news) (views gone') (views come)
owns_all olds news gone gone' come first at h done upto =
    record {
      common = h.common;
      was = subst (λ (l : List Spelled). Merges h.common (views gone') (views l)) (take_whole (length olds) olds (omega arith)) (upto h.common h.was);
      is = subst (λ (l : List Spelled). Merges h.common (views come) (views l)) (take_whole at news done) h.came;
    }

-- members that were read
pub read_more : (all : List Spelled) (members new : List Member) (at : ℕ) (d : Spelled) (member : Member) → at < length all → map member_view members ≡ views (take at all)
    → member_view member ≡ spelled_view (get_or all at d) → new ≡ members ++ member ∷ [] → map member_view new ≡ views (take (at + 1) all)
read_more all members new at d member low so_far one is =
    ap (map member_view) is ∙ map-append member_view members (member ∷ []) ∙ ap (λ l. l ++ member_view member ∷ []) so_far ∙ ap (λ v. views (take at all) ++ v ∷ []) one
    ∙ sym (one_more all at d low)

pub read_all : (all : List Spelled) (members : List Member) (at : ℕ) → length all ≤ at → map member_view members ≡ views (take at all) → map member_view members ≡ views all
read_all all members at done so_far = so_far ∙ ap views (take_whole at all done)
