-- The slot is empty, its text isn't found, and its piece is free.
use Rattle.std.proofs.Common.{◌≡◌, ◌≢◌, ◌∙◌, ◌==◌, None, Some, ap, sym, subst, arith, refl}
use Rattle.text_region.specs.declared.piece.Piece.{Piece}
use Rattle.std.specs.List.{Contains}
use Rattle.std.specs.HashMap.{get as map_get}
use Rattle.slab.specs.Slab.{get}
use Rattle.text_region.specs.Region.{bytes_of}
use Rattle.term_pool.specs.Index.{Forgets, hash_of}
use Rattle.term_pool.specs.Pool.{count_of, live_text}
use Rattle.term_pool.proofs.OthersTexts.{beside_removed}
use Rattle.term_pool.proofs.Indexed.{still_listed, unlisted}
use Rattle.term_pool.proofs.Lying.{lies_removed, released_removed}
use Rattle.term_pool.proofs.pool.Pool.remove.Goals as goal

there : (c : goal.After-free) → get c.args.self.now.slots c.args.slot.number ≡ Some c.in-Some.entry
there c = sym c.in-Some.ensures.value

text : (c : goal.After-free) → bytes_of c.args.region.now c.in-Some.entry.piece ≡ Some c.text.result.now
text c = sym (ap (live_text c.args.region.now) (there c)) ∙ c.text.ensures

-- the block of the text is free, and the others are as they were
elsewhere : (c : goal.After-free) → (y : Piece) → y ≢ c.in-Some.entry.piece → bytes_of c.free.new.self y ≡ bytes_of c.args.region.now y
elsewhere c y ne = c.free.ensures.updates.others y (λ e. ne (e ∙ c.piece.ensures))

gone : (c : goal.After-free) → bytes_of c.free.new.self c.in-Some.entry.piece ≡ None
gone c = ap (bytes_of c.free.new.self) (sym c.piece.ensures) ∙ c.free.ensures.updates.changed

pub returns-clause-lies : goal.returns-clause-lies
returns-clause-lies c =
    let forgets : Forgets (map_get ◌==◌ c.args.self.now.by_hash) (map_get ◌==◌ c.forget.new.by_hash) (hash_of c.args.self.now.keys c.text.result.now) c.args.slot.number =
    subst (λ h. Forgets (map_get ◌==◌ c.args.self.now.by_hash) (map_get ◌==◌ c.forget.new.by_hash) h c.args.slot.number) c.text_hash-hash.ensures c.forget.ensures in
    lies_removed c.args.self.now _ c.args.region.now c.free.new.self c.args.slot.number c.try_remove.ensures.updates.others c.requires.lies c.in-Some.entry c.text.result.now (elsewhere c)
    (there c) (text c) c.try_remove.ensures.updates.changed forgets
    (λ x h. unlisted c.args.slot.number c.args.self.now.more.items x (subst (λ l. Contains l x) c.unlist.ensures h))
    (λ x h ne. subst (λ l. Contains l x) (sym c.unlist.ensures) (still_listed c.args.slot.number c.args.self.now.more.items x h ne))
    refl (omega (arith, c.requires.lies.few, c.in-Some.ensures.len))

pub returns-clause-released : goal.returns-clause-released
returns-clause-released c =
    released_removed c.args.self.now _ c.args.region.now c.free.new.self c.args.slot.number c.try_remove.ensures.updates.others c.requires.lies c.in-Some.entry c.text.result.now (elsewhere c)
    (there c) (sym (ap count_of (there c)) ∙ c.requires.last) c.try_remove.ensures.updates.changed

pub returns-clause-beside : goal.returns-clause-beside
returns-clause-beside c =
    beside_removed c.args.self.now _ c.args.region.now c.free.new.self c.args.slot.number c.in-Some.entry c.try_remove.ensures.updates.others (there c) c.try_remove.ensures.updates.changed (gone c) (elsewhere c)
