-- The uses that were counted are taken back, and a pool is full only where its terms and the triple's are too many.
use Rattle.std.proofs.Common.{◌≡◌, ◌<◌, Result, Err, ◌∙◌, ap, subst}
use Rattle.term_pool.specs.declared.fault.PoolFault.{PoolFault}
use Rattle.slot_keys.specs.declared.key.Key.{Key}
use Rattle.triple_catalog.specs.{Room.distinct, Slots.triple_of}
use Rattle.triple_catalog.proofs.{Held.held, Held.terms_interned, Held.three, Held.too_many, Held.undone, Held.used_then, Known.known_later}
use Rattle.triple_catalog.proofs.interning.intern_triple.Goals as goal

same_fault : (a b : PoolFault) → ◌≡◌ {A = Result Key PoolFault} (Err a) (Err b) → a ≡ b
same_fault a b e = cc

pub intern_known-requires-2-clause-known : goal.intern_known-requires-2-clause-known
intern_known-requires-2-clause-known c = known_later _ _ _ _ _ _ c.args.hints.predicate _ c.in-Ok.ensures.ok c.requires.hints.predicate

pub intern_known-requires-3-clause-known : goal.intern_known-requires-3-clause-known
intern_known-requires-3-clause-known c =
    known_later _ _ _ _ _ _ c.args.hints.object _ c.in-Ok-intern_known.ensures.ok
    (known_later _ _ _ _ _ _ c.args.hints.object _ c.in-Ok.ensures.ok c.requires.hints.object)

pub returns-in-Err-clause-full : goal.returns-in-Err-clause-full
returns-in-Err-clause-full c = λ e ts h all.
    let t = three (triple_of c.args.texts.now) ts all in
    too_many _ _ _ _ ts c.requires.lies c.requires.canonical.subject (c.in-Err.ensures.full.0 (ap Err (same_fault _ _ e))) h t.subject

pub returns-in-Err-intern_known-clause-err : goal.returns-in-Err-intern_known-clause-err
returns-in-Err-intern_known-clause-err c = undone _ _ _ _ _ _ _ _ _ _ c.requires.lies c.release.ensures.lies c.in-Ok.ensures.ok c.in-Err-intern_known.ensures.err c.release.ensures.released

pub returns-in-Err-intern_known-clause-full : goal.returns-in-Err-intern_known-clause-full
returns-in-Err-intern_known-clause-full c = λ e ts h all.
    let t = three (triple_of c.args.texts.now) ts all in
    let full = c.in-Err-intern_known.ensures.full.0 (ap Err (same_fault _ _ e)) in
    subst (λ limit. limit < distinct ts) c.intern_known.ensures.limit
    (too_many _ _ _ _ ts c.in-Ok.ensures.lies c.requires.canonical.predicate full (terms_interned _ _ _ _ _ _ ts c.in-Ok.ensures.ok h t.subject) t.predicate)

pub returns-in-Err-intern_known-2-clause-err : goal.returns-in-Err-intern_known-2-clause-err
returns-in-Err-intern_known-2-clause-err c =
    undone _ _ _ _ _ _ _ _ _ _ c.requires.lies c.release-in-Err-intern_known-2-2.ensures.lies c.in-Ok.ensures.ok
    (undone _ _ _ _ _ _ _ _ _ _ c.in-Ok.ensures.lies c.release-in-Err-intern_known-2.ensures.lies c.in-Ok-intern_known.ensures.ok c.in-Err-intern_known-2.ensures.err c.release-in-Err-intern_known-2.ensures.released)
    c.release-in-Err-intern_known-2-2.ensures.released

pub returns-in-Err-intern_known-2-clause-full : goal.returns-in-Err-intern_known-2-clause-full
returns-in-Err-intern_known-2-clause-full c = λ e ts h all.
    let t = three (triple_of c.args.texts.now) ts all in
    let full = c.in-Err-intern_known-2.ensures.full.0 (ap Err (same_fault _ _ e)) in
    let one = terms_interned _ _ _ _ _ _ ts c.in-Ok.ensures.ok h t.subject in
    subst (λ limit. limit < distinct ts) (c.intern_known-2.ensures.limit ∙ c.intern_known.ensures.limit)
    (too_many _ _ _ _ ts c.in-Ok-intern_known.ensures.lies c.requires.canonical.object full (terms_interned _ _ _ _ _ _ ts c.in-Ok-intern_known.ensures.ok one t.predicate) t.object)

pub returns-clause-ok : goal.returns-clause-ok
returns-clause-ok c = held _ _ _ _ _ _ _ _ _ _ c.in-Ok.ensures.ok c.in-Ok-intern_known.ensures.ok c.in-Ok-intern_known-2.ensures.ok

-- a term that was used once more can be let go
pub release-requires-clause-used : goal.release-requires-clause-used
release-requires-clause-used c = used_then _ _ _ _ _ _ _ _ c.in-Ok.ensures.lies c.in-Ok.ensures.ok c.in-Err-intern_known.ensures.err

pub release-requires-in-Err-intern_known-2-clause-used : goal.release-requires-in-Err-intern_known-2-clause-used
release-requires-in-Err-intern_known-2-clause-used c = used_then _ _ _ _ _ _ _ _ c.in-Ok-intern_known.ensures.lies c.in-Ok-intern_known.ensures.ok c.in-Err-intern_known-2.ensures.err

pub release-requires-in-Err-intern_known-2-2-clause-used : goal.release-requires-in-Err-intern_known-2-2-clause-used
release-requires-in-Err-intern_known-2-2-clause-used c =
    let same = undone _ _ _ _ _ _ _ _ _ _ c.in-Ok.ensures.lies c.release-in-Err-intern_known-2.ensures.lies c.in-Ok-intern_known.ensures.ok c.in-Err-intern_known-2.ensures.err c.release-in-Err-intern_known-2.ensures.released in
    used_then _ _ _ _ _ _ _ _ c.in-Ok.ensures.lies c.in-Ok.ensures.ok same

-- what lies beside the terms stays, and so does the limit
pub returns-in-Err-intern_known-clause-beside : goal.returns-in-Err-intern_known-clause-beside
returns-in-Err-intern_known-clause-beside c piece = c.release.ensures.beside piece ∙ (c.intern_known-2.ensures.beside piece ∙ c.intern_known.ensures.beside piece)

pub returns-in-Err-intern_known-clause-limit : goal.returns-in-Err-intern_known-clause-limit
returns-in-Err-intern_known-clause-limit c = c.release.ensures.limit ∙ (c.intern_known-2.ensures.limit ∙ c.intern_known.ensures.limit)

pub returns-in-Err-intern_known-2-clause-beside : goal.returns-in-Err-intern_known-2-clause-beside
returns-in-Err-intern_known-2-clause-beside c piece =
    c.release-in-Err-intern_known-2-2.ensures.beside piece ∙ (c.release-in-Err-intern_known-2.ensures.beside piece ∙ (c.intern_known-3.ensures.beside piece ∙ (c.intern_known-2.ensures.beside piece ∙ c.intern_known.ensures.beside piece)))

pub returns-in-Err-intern_known-2-clause-limit : goal.returns-in-Err-intern_known-2-clause-limit
returns-in-Err-intern_known-2-clause-limit c =
    c.release-in-Err-intern_known-2-2.ensures.limit ∙ (c.release-in-Err-intern_known-2.ensures.limit ∙ (c.intern_known-3.ensures.limit ∙ (c.intern_known-2.ensures.limit ∙ c.intern_known.ensures.limit)))

pub returns-clause-beside : goal.returns-clause-beside
returns-clause-beside c piece = c.intern_known-3.ensures.beside piece ∙ (c.intern_known-2.ensures.beside piece ∙ c.intern_known.ensures.beside piece)

pub returns-clause-limit : goal.returns-clause-limit
returns-clause-limit c = c.intern_known-3.ensures.limit ∙ (c.intern_known-2.ensures.limit ∙ c.intern_known.ensures.limit)
