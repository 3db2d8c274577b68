-- A term that comes is in a slot that was empty, and its piece is one that wasn't live.
use Rattle.std.proofs.Common.{◌≡◌, ◌≢◌, ◌∙◌, ℕ, ◌<◌, ◌≤◌, ◌==◌, Some, ap, sym, subst, arith, refl}
use Rattle.std.specs.HashMap.{get as map_get}
use Rattle.slab.specs.Slab.{get, slab_len}
use Rattle.term_pool.specs.Index.{Points, hash_of}
use Rattle.term_pool.specs.Pool.{LiesIn, beside, count_of, text_in_slot}
use Rattle.term_pool.proofs.OthersTexts.{beside_added, beside_same}
use Rattle.term_pool.proofs.Lying.{interned_added, interned_from, lies_added, lies_same, nowhere_same, same_counts, same_texts}
use Rattle.term_pool.proofs.pool.Pool.add.Goals as goal

above_full : {P : Type 0} (len terms limit : ℕ) → len < limit → len ≡ terms → limit ≤ terms → P
above_full len terms limit below is above = absurd (omega arith)

-- where there is no room in the pool
pub returns-in_default-clause-lies : goal.returns-in_default-clause-lies
returns-in_default-clause-lies c = lies_same c.args.self.now c.make_room.new.self c.args.region.now c.requires.lies c.make_room.ensures.same

pub returns-in_default-clause-err : goal.returns-in_default-clause-err
returns-in_default-clause-err c = record {
  texts = same_texts c.args.self.now c.make_room.new.self c.args.region.now c.make_room.ensures.same;
  counts = same_counts c.args.self.now c.make_room.new.self c.make_room.ensures.same;
}

pub returns-in_default-clause-full : goal.returns-in_default-clause-full
returns-in_default-clause-full c = (λ is. absurd (cc), above_full _ _ _ c.if-len-self.false c.len.ensures)

pub returns-in_default-clause-limit : goal.returns-in_default-clause-limit
returns-in_default-clause-limit c = c.make_room.ensures.same.limit

pub returns-in_default-clause-beside : goal.returns-in_default-clause-beside
returns-in_default-clause-beside c = λ piece. beside_same c.args.self.now c.make_room.new.self c.args.region.now piece (ap (λ s. s.slots) c.make_room.ensures.same.slots)

-- where there is none in the region
pub returns-in_default-place-clause-lies : goal.returns-in_default-place-clause-lies
returns-in_default-place-clause-lies c =
    subst (LiesIn c.make_room.new.self) (sym c.in_default-place.ensures.err)
    (lies_same c.args.self.now c.make_room.new.self c.args.region.now c.requires.lies c.make_room.ensures.same)

pub returns-in_default-place-clause-err : goal.returns-in_default-place-clause-err
returns-in_default-place-clause-err c = record {
  texts = λ slot. ap (λ texts. text_in_slot c.make_room.new.self texts slot) c.in_default-place.ensures.err
      ∙ same_texts c.args.self.now c.make_room.new.self c.args.region.now c.make_room.ensures.same slot;
  counts = same_counts c.args.self.now c.make_room.new.self c.make_room.ensures.same;
}

pub returns-in_default-place-clause-full : goal.returns-in_default-place-clause-full
returns-in_default-place-clause-full c = (λ is. absurd (cc), above_full _ _ _ c.if-len-self.false c.len.ensures)

pub returns-in_default-place-clause-limit : goal.returns-in_default-place-clause-limit
returns-in_default-place-clause-limit c = c.make_room.ensures.same.limit

pub returns-in_default-place-clause-beside : goal.returns-in_default-place-clause-beside
returns-in_default-place-clause-beside c = λ piece.
    ap (λ r. beside c.make_room.new.self r piece) c.in_default-place.ensures.err ∙ beside_same c.args.self.now c.make_room.new.self c.args.region.now piece (ap (λ s. s.slots) c.make_room.ensures.same.slots)

-- where the term comes
number : (c : goal.After-point) → c.insert_reserved.result ≡ c.in-Ok.number
number c = c.insert_reserved.ensures.key ∙ sym c.in-Ok.ensures.room.next

there : (c : goal.After-point) → get c.insert_reserved.new.self c.in-Ok.number ≡ Some (record { piece = c.in-Ok-place.piece; count = 1 })
there c = ap (get c.insert_reserved.new.self) (sym (number c)) ∙ c.insert_reserved.ensures.updates.changed ∙ ap Some c.one.ensures

others : (c : goal.After-point) → (x : ℕ) → x ≢ c.in-Ok.number → get c.insert_reserved.new.self x ≡ get c.make_room.new.self.slots x
others c x ne = c.insert_reserved.ensures.updates.others x (λ e. ne (e ∙ number c))

pub returns-clause-lies : goal.returns-clause-lies
returns-clause-lies c =
    let same = c.make_room.ensures.same in
    let points : Points (map_get ◌==◌ c.make_room.new.self.by_hash) (map_get ◌==◌ c.point.new.by_hash) c.make_room.new.self.more.items c.point.new.more.items (hash_of c.make_room.new.self.keys c.args.text.now) c.in-Ok.number =
    subst (λ h. Points (map_get ◌==◌ c.make_room.new.self.by_hash) (map_get ◌==◌ c.point.new.by_hash) c.make_room.new.self.more.items c.point.new.more.items h c.in-Ok.number) (c.requires.hash ∙ ap (λ k. hash_of k c.args.text.now) (sym same.keys)) c.point.ensures in
    lies_added c.make_room.new.self _ c.args.region.now c.place.new.self c.in-Ok.number (others c) (lies_same c.args.self.now c.make_room.new.self c.args.region.now c.requires.lies same)
    (record { piece = c.in-Ok-place.piece; count = 1 }) c.args.text.now c.in-Ok-place.ensures.updates.others c.in-Ok-place.ensures.was_vacant c.in-Ok.ensures.room.vacant (there c) c.in-Ok-place.ensures.updates.changed
    (omega arith) c.requires.canonical (nowhere_same c.args.self.now c.make_room.new.self c.args.region.now c.args.text.now same c.requires.nowhere) points refl
    (omega (arith, c.insert_reserved.ensures.len, ap (λ s. slab_len s) same.slots, same.limit, c.if-len-self.false, c.len.ensures))

pub returns-clause-ok : goal.returns-clause-ok
returns-clause-ok c =
    let same = c.make_room.ensures.same in
    interned_from c.args.self.now c.make_room.new.self _ c.args.region.now c.place.new.self c.in-Ok.number c.args.text.now same
    (interned_added c.make_room.new.self _ c.args.region.now c.place.new.self c.in-Ok.number (others c) (lies_same c.args.self.now c.make_room.new.self c.args.region.now c.requires.lies same)
    (record { piece = c.in-Ok-place.piece; count = 1 }) c.args.text.now c.in-Ok-place.ensures.updates.others c.in-Ok-place.ensures.was_vacant c.in-Ok.ensures.room.vacant (there c) c.in-Ok-place.ensures.updates.changed
    refl (nowhere_same c.args.self.now c.make_room.new.self c.args.region.now c.args.text.now same c.requires.nowhere))

pub returns-clause-beside : goal.returns-clause-beside
returns-clause-beside c = λ piece.
    beside_added c.make_room.new.self _ c.args.region.now c.place.new.self c.in-Ok.number (record { piece = c.in-Ok-place.piece; count = 1 }) (others c) c.in-Ok.ensures.room.vacant (there c) c.in-Ok-place.ensures.was_vacant c.in-Ok-place.ensures.updates.others piece
    ∙ beside_same c.args.self.now c.make_room.new.self c.args.region.now piece (ap (λ s. s.slots) c.make_room.ensures.same.slots)

pub returns-clause-first : goal.returns-clause-first
returns-clause-first c = ap count_of (there c)

pub returns-clause-full : goal.returns-clause-full
returns-clause-full c = (λ is. absurd (cc), above_full _ _ _ c.if-len-self.false c.len.ensures)

pub returns-clause-limit : goal.returns-clause-limit
returns-clause-limit c = c.make_room.ensures.same.limit
