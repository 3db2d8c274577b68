-- A step of a pool at one slot leaves the pieces that aren't its own.
use Rattle.std.proofs.Common.{◌≡◌, ◌≢◌, ℕ, zero, suc, Bool, true, false, cond, List, [], ◌∷◌, Option, Some, None, refl, sym, ap, subst, ◌∙◌, ⊎_elim}
use Rattle.std.specs.Prelude.{◌||◌, slice_index_or}
use Rattle.std.specs.List.{list_any}
use Rattle.std.proofs.lemmas.Bool.{cases_Bool}
use Rattle.slab.specs.Slab.{get}
use Rattle.text_region.specs.declared.piece.Piece.{Piece}
use Rattle.text_region.specs.Region.{Texts, bytes_of, same_piece}
use Rattle.text_region.proofs.Pieces.{piece_tells}
use Rattle.term_pool.specs.declared.slots.Entry.{Entry}
use Rattle.term_pool.specs.declared.pool.Pool.{Pool}
use Rattle.term_pool.specs.Pool.{beside, has_piece, owns}

-- the slot that has a piece
pub record Owner (piece : Piece) (slots : List (Option Entry)) : Type 0 where
  pub slot : ℕ
  pub entry : Entry
  pub there : slice_index_or slots slot None ≡ Some entry
  pub is : entry.piece ≡ piece

later : (piece : Piece) (first : Option Entry) (slots : List (Option Entry)) → Owner piece slots → Owner piece (first ∷ slots)
later piece first slots o = record { slot = suc o.slot; entry = o.entry; there = o.there; is = o.is }

pub owner : (piece : Piece) (slots : List (Option Entry)) → list_any (has_piece piece) slots ≡ true → Owner piece slots
owner piece [] h = cc
owner piece (None ∷ slots) h = later piece None slots (owner piece slots h)
owner piece (Some entry ∷ slots) h =
    ⊎_elim
    (λ t. record { slot = 0; entry = entry; there = refl; is = t.1 })
    (λ f. later piece (Some entry) slots (owner piece slots (sym (ap (λ b. b || list_any (has_piece piece) slots) f.0) ∙ h)))
    (piece_tells entry.piece piece)

or_true : (b : Bool) → (b || true) ≡ true
or_true true = refl
or_true false = refl

itself : (entry : Entry) (piece : Piece) → entry.piece ≡ piece → same_piece entry.piece piece ≡ true
itself entry piece e = ⊎_elim (λ t. t.0) (λ f. absurd (f.1 e)) (piece_tells entry.piece piece)

pub owned : (piece : Piece) (slots : List (Option Entry)) (slot : ℕ) (entry : Entry) → slice_index_or slots slot None ≡ Some entry → entry.piece ≡ piece → list_any (has_piece piece) slots ≡ true
owned piece [] slot entry h is = absurd (cc)
owned piece (None ∷ slots) zero entry h is = absurd (cc)
owned piece (None ∷ slots) (suc slot) entry h is = owned piece slots slot entry h is
owned piece (Some first ∷ slots) zero entry h is =
    let same : first ≡ entry = cc in
    ap (λ b. b || list_any (has_piece piece) slots) (itself first piece (ap (λ (e : Entry). e.piece) same ∙ is))
owned piece (Some first ∷ slots) (suc slot) entry h is =
    ap (λ b. same_piece first.piece piece || b) (owned piece slots slot entry h is) ∙ or_true (same_piece first.piece piece)

-- the same slots
pub beside_same : (p q : Pool) (r : Texts) (piece : Piece) → q.slots.slots ≡ p.slots.slots → beside q r piece ≡ beside p r piece
unfolding beside
beside_same p q r piece e = ap (λ slots. cond (list_any (has_piece piece) slots) None (bytes_of r piece)) e

-- what lies beside a pool's texts, by whether the piece is its own
pub of_owned : (p : Pool) (r : Texts) (piece : Piece) → owns p piece ≡ true → beside p r piece ≡ None
unfolding beside
of_owned p r piece h = ap (λ b. cond b None (bytes_of r piece)) h

nothing : (b : Bool) → (λ (o : Option (List ℕ)). cond b None o) None ≡ None
nothing true = refl
nothing false = refl

pub of_dead : (p : Pool) (r : Texts) (piece : Piece) → bytes_of r piece ≡ None → beside p r piece ≡ None
unfolding beside
of_dead p r piece h = ap (λ (o : Option (List ℕ)). cond (owns p piece) None o) h ∙ nothing (owns p piece)

pub of_others : (p q : Pool) (r s : Texts) (piece : Piece) → owns q piece ≡ owns p piece → bytes_of s piece ≡ bytes_of r piece → beside q s piece ≡ beside p r piece
unfolding beside
of_others p q r s piece e f = ap (λ b. cond b None (bytes_of s piece)) e ∙ ap (λ (o : Option (List ℕ)). cond (owns p piece) None o) f

-- whether a piece is a pool's own, where what tells two pools apart is a slot with another piece
same_owner : (p q : Pool) (slot : ℕ) (piece : Piece) → ((x : ℕ) → x ≢ slot → get q.slots x ≡ get p.slots x)
    → ((e : Entry) → get p.slots slot ≡ Some e → e.piece ≢ piece) → ((e : Entry) → get q.slots slot ≡ Some e → e.piece ≢ piece) → owns q piece ≡ owns p piece
same_owner p q slot piece others before after =
    ⊎_elim
    (λ t. let o = owner piece q.slots.slots t in
    t ∙ sym (owned piece p.slots.slots o.slot o.entry (sym (others o.slot (λ e. after o.entry (sym (ap (get q.slots) e) ∙ o.there) o.is)) ∙ o.there) o.is))
    (λ f. ⊎_elim
    (λ t. let o = owner piece p.slots.slots t in
    absurd (let there = owned piece q.slots.slots o.slot o.entry (others o.slot (λ e. before o.entry (sym (ap (get p.slots) e) ∙ o.there) o.is) ∙ o.there) o.is in cc))
    (λ g. f ∙ sym g)
    (cases_Bool (owns p piece)))
    (cases_Bool (owns q piece))

-- the step at a slot
pub beside_step : (p q : Pool) (r s : Texts) (slot : ℕ) (mine : Piece) → ((x : ℕ) → x ≢ slot → get q.slots x ≡ get p.slots x)
    → ((e : Entry) → get p.slots slot ≡ Some e → e.piece ≡ mine) → ((e : Entry) → get q.slots slot ≡ Some e → e.piece ≡ mine)
    → ((x : Piece) → x ≢ mine → bytes_of s x ≡ bytes_of r x) → beside q s mine ≡ beside p r mine → (x : Piece) → beside q s x ≡ beside p r x
beside_step p q r s slot mine others before after bytes here x =
    ⊎_elim
    (λ t. subst (λ y. beside q s y ≡ beside p r y) (sym t.1) here)
    (λ f. of_others p q r s x (same_owner p q slot x others (λ e h is. f.1 (sym is ∙ before e h)) (λ e h is. f.1 (sym is ∙ after e h))) (bytes x f.1))
    (piece_tells x mine)

-- a piece that comes to the pool
pub beside_added : (p q : Pool) (r s : Texts) (slot : ℕ) (entry : Entry) → ((x : ℕ) → x ≢ slot → get q.slots x ≡ get p.slots x)
    → get p.slots slot ≡ None → get q.slots slot ≡ Some entry → bytes_of r entry.piece ≡ None → ((x : Piece) → x ≢ entry.piece → bytes_of s x ≡ bytes_of r x) → (x : Piece) → beside q s x ≡ beside p r x
beside_added p q r s slot entry others vacant there dead bytes x =
    beside_step p q r s slot entry.piece others
    (λ e h. absurd (let none : None ≡ Some e = sym vacant ∙ h in cc))
    (λ e h. let one : Some e ≡ Some entry = sym h ∙ there in let same : e ≡ entry = cc in ap (λ (y : Entry). y.piece) same)
    bytes (of_owned q s entry.piece (owned entry.piece q.slots.slots slot entry there refl) ∙ sym (of_dead p r entry.piece dead)) x

-- a piece that goes from the pool
pub beside_removed : (p q : Pool) (r s : Texts) (slot : ℕ) (entry : Entry) → ((x : ℕ) → x ≢ slot → get q.slots x ≡ get p.slots x)
    → get p.slots slot ≡ Some entry → get q.slots slot ≡ None → bytes_of s entry.piece ≡ None → ((x : Piece) → x ≢ entry.piece → bytes_of s x ≡ bytes_of r x) → (x : Piece) → beside q s x ≡ beside p r x
beside_removed p q r s slot entry others there vacant dead bytes x =
    beside_step p q r s slot entry.piece others
    (λ e h. let one : Some e ≡ Some entry = sym h ∙ there in let same : e ≡ entry = cc in ap (λ (y : Entry). y.piece) same)
    (λ e h. absurd (let none : None ≡ Some e = sym vacant ∙ h in cc))
    bytes (of_dead q s entry.piece dead ∙ sym (of_owned p r entry.piece (owned entry.piece p.slots.slots slot entry there refl))) x

-- another count in a slot
pub beside_recounted : (p q : Pool) (r : Texts) (slot : ℕ) (was is : Entry) → ((x : ℕ) → x ≢ slot → get q.slots x ≡ get p.slots x)
    → get p.slots slot ≡ Some was → get q.slots slot ≡ Some is → is.piece ≡ was.piece → (x : Piece) → beside q r x ≡ beside p r x
beside_recounted p q r slot was is others there now same x =
    beside_step p q r r slot was.piece others
    (λ e h. let one : Some e ≡ Some was = sym h ∙ there in let eq : e ≡ was = cc in ap (λ (y : Entry). y.piece) eq)
    (λ e h. let one : Some e ≡ Some is = sym h ∙ now in let eq : e ≡ is = cc in ap (λ (y : Entry). y.piece) eq ∙ same)
    (λ y ne. refl)
    (of_owned q r was.piece (owned was.piece q.slots.slots slot is now same) ∙ sym (of_owned p r was.piece (owned was.piece p.slots.slots slot was there refl))) x
