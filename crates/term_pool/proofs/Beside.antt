-- Texts that lie beside a pool's in its region come and go, and leave the pool as it is.
use Rattle.std.proofs.Common.{◌≡◌, ◌≢◌, ℕ, ◌==◌, true, false, cond, List, Option, Some, None, refl, sym, ap, subst, ◌∙◌}
use Rattle.std.specs.Prelude.{IsSome}
use Rattle.std.specs.HashMap.{get as map_get}
use Rattle.std.specs.Cmp.{both_ways}
use Rattle.slab.specs.Slab.{get}
use Rattle.text_region.specs.declared.piece.Piece.{Piece}
use Rattle.text_region.specs.Region.{Texts, Updates, bytes_of}
use Rattle.term_pool.specs.declared.slots.Entry.{Entry}
use Rattle.term_pool.specs.declared.pool.Pool.{Pool}
use Rattle.term_pool.specs.Pool.{LiesIn, beside, owns, text_in_slot, live_text}
use Rattle.term_pool.proofs.OthersTexts.{of_dead, of_others, of_owned, owned, owner}
use Rattle.term_pool.proofs.Indexed.{index_same}

-- what isn't live isn't a pool's
dead_not_mine : (p : Pool) (r : Texts) (piece : Piece) → LiesIn p r → bytes_of r piece ≡ None → owns p piece ≡ false
dead_not_mine p r piece lies dead = both_ways (owns p piece) false
    (λ mine. let o = owner piece p.slots.slots mine in
    let t = lies.textual o.slot o.entry o.there in
    let none : None ≡ Some t.text = sym dead ∙ ap (bytes_of r) (sym o.is) ∙ t.is in absurd cc)
    (λ e. absurd cc)

-- what isn't a pool's is beside it
pub beside_is : (p : Pool) (r : Texts) (piece : Piece) → owns p piece ≡ false → beside p r piece ≡ bytes_of r piece
unfolding beside
beside_is p r piece other = ap (λ b. cond b None (bytes_of r piece)) other

pub not_mine : (p : Pool) (r : Texts) (piece : Piece) → IsSome (beside p r piece) → owns p piece ≡ false
not_mine p r piece live = both_ways (owns p piece) false
    (λ mine. let none : IsSome {T = List ℕ} None = subst IsSome (of_owned p r piece mine) live in absurd cc)
    (λ e. absurd cc)

pub live_beside : (p : Pool) (r : Texts) (piece : Piece) → IsSome (beside p r piece) → beside p r piece ≡ bytes_of r piece
live_beside p r piece live = beside_is p r piece (not_mine p r piece live)

module _ (p : Pool) (r s : Texts) (lies : LiesIn p r) (same : (piece : Piece) → owns p piece ≡ true → bytes_of s piece ≡ bytes_of r piece) where
  pub texts_elsewhere : (x : ℕ) → text_in_slot p s x ≡ text_in_slot p r x
  texts_elsewhere x = at (get p.slots x) refl
    where
      at : (o : Option Entry) → get p.slots x ≡ o → text_in_slot p s x ≡ text_in_slot p r x
      at None e = ap (live_text s) e ∙ sym (ap (live_text r) e)
      at (Some entry) e = ap (live_text s) e ∙ same entry.piece (owned entry.piece p.slots.slots x entry e refl) ∙ sym (ap (live_text r) e)

  pub lies_elsewhere : LiesIn p s
  lies_elsewhere = record {
    textual = λ x entry e. let t = lies.textual x entry e in
        record { text = t.text; is = same entry.piece (owned entry.piece p.slots.slots x entry e refl) ∙ t.is; canonical = t.canonical; counted = t.counted };
    once = λ x y t a b. lies.once x y t (sym (texts_elsewhere x) ∙ a) (sym (texts_elsewhere y) ∙ b);
    indexed = index_same p.keys (text_in_slot p r) (text_in_slot p s) (map_get ◌==◌ p.by_hash) (map_get ◌==◌ p.by_hash) p.more.items lies.indexed texts_elsewhere (λ h. refl);
    few = lies.few;
  }

-- a text beside the pool's is another one, or none, and all else is as it was
pub record MovesBeside (p : Pool) (r s : Texts) (piece : Piece) (before after : Option (List ℕ)) : Type 0 where
  pub lies : LiesIn p s
  pub texts : (x : ℕ) → text_in_slot p s x ≡ text_in_slot p r x
  pub was : beside p r piece ≡ before
  pub is : beside p s piece ≡ after
  pub others : (other : Piece) → other ≢ piece → beside p s other ≡ beside p r other

pub placed : (p : Pool) (r s : Texts) (piece : Piece) (text : List ℕ) → LiesIn p r → bytes_of r piece ≡ None → Updates r s piece (Some text) → MovesBeside p r s piece None (Some text)
placed p r s piece text lies dead updates =
    let other = dead_not_mine p r piece lies dead in
    let same : (y : Piece) → owns p y ≡ true → bytes_of s y ≡ bytes_of r y = λ y mine. updates.others y (λ e. let clash : true ≡ false = sym mine ∙ ap (owns p) e ∙ other in cc) in
    record {
      lies = lies_elsewhere p r s lies same;
      texts = texts_elsewhere p r s lies same;
      was = of_dead p r piece dead;
      is = beside_is p s piece other ∙ updates.changed;
      others = λ y ne. of_others p p r s y refl (updates.others y ne);
    }

pub freed : (p : Pool) (r s : Texts) (piece : Piece) → LiesIn p r → IsSome (beside p r piece) → Updates r s piece None → MovesBeside p r s piece (beside p r piece) None
freed p r s piece lies live updates =
    let other = not_mine p r piece live in
    let same : (y : Piece) → owns p y ≡ true → bytes_of s y ≡ bytes_of r y = λ y mine. updates.others y (λ e. let clash : true ≡ false = sym mine ∙ ap (owns p) e ∙ other in cc) in
    record {
      lies = lies_elsewhere p r s lies same;
      texts = texts_elsewhere p r s lies same;
      was = refl;
      is = of_dead p s piece updates.changed;
      others = λ y ne. of_others p p r s y refl (updates.others y ne);
    }
