-- Lists of cells, and of what they stand for.
use Rattle.std.proofs.Common.{◌≡◌, ◌∙◌, ℕ, suc, ◌+◌, ◌<◌, List, [], ◌∷◌, ◌++◌, map, length, take, drop, get_or, ap, sym, arith}
use Rattle.std.specs.List.{All, insert, remove, take-map, drop-map}
use Rattle.std.proofs.lemmas.List.Elements.{All-append, All-cons, All-drop, All-take}
use Rattle.std.proofs.lemmas.List.{get_or-map, length-map, map-append, take_more}

module _ {C K : Type 0} (f : C → K) where
  pub map-insert : (cells : List C) (at : ℕ) (cell : C) (key : K) → f cell ≡ key → map f (insert cells at cell) ≡ insert (map f cells) at key
  map-insert cells at cell key e =
      map-append f (take at cells) (cell ∷ drop at cells)
      ∙ ap (λ k. map f (take at cells) ++ (k ∷ map f (drop at cells))) e
      ∙ ap (λ ks. ks ++ (key ∷ map f (drop at cells))) (sym (take-map f at cells))
      ∙ ap (λ ks. take at (map f cells) ++ (key ∷ ks)) (sym (drop-map f at cells))

  pub map-remove : (cells : List C) (at : ℕ) → map f (remove cells at) ≡ remove (map f cells) at
  map-remove cells at =
      map-append f (take at cells) (drop (suc at) cells)
      ∙ ap (λ ks. ks ++ map f (drop (suc at) cells)) (sym (take-map f at cells))
      ∙ ap (λ ks. take at (map f cells) ++ ks) (sym (drop-map f (suc at) cells))

  -- there are as many keys as cells
  pub run_len : (cells : List C) (keys : List K) → map f cells ≡ keys → length keys ≡ length cells
  run_len cells keys e = sym (ap length e) ∙ length-map cells f

  -- one key more, which the cell at the place stands for
  pub next_key : (cells : List C) (keys : List K) (i : ℕ) (cell : C) (key : K) → map f cells ≡ keys → i < length cells → cell ≡ get_or cells i cell → key ≡ f cell → take (i + 1) keys ≡ take i keys ++ key ∷ []
  next_key cells keys i cell key e within is stands =
      let len = run_len cells keys e in
      let inside : i < length keys = omega arith in
      let at : get_or keys i key ≡ key = ap (λ ks. get_or ks i key) (sym e) ∙ get_or-map f cells i cell key within ∙ ap f (sym is) ∙ sym stands in
      take_more keys i key inside ∙ ap (λ k. take i keys ++ k ∷ []) at

-- what is true of each cell stays so
pub all_insert : {C : Type 0} (P : C → Type 0) (cells : List C) (at : ℕ) (cell : C) → All P cells → P cell → All P (insert cells at cell)
all_insert P cells at cell h p = All-append P (take at cells) (cell ∷ drop at cells) (All-take P at cells h) (All-cons P cell (drop at cells) p (All-drop P at cells h))

pub all_remove : {C : Type 0} (P : C → Type 0) (cells : List C) (at : ℕ) → All P cells → All P (remove cells at)
all_remove P cells at h = All-append P (take at cells) (drop (suc at) cells) (All-take P at cells h) (All-drop P (suc at) cells h)
