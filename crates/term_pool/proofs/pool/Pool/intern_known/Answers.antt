-- A term that is there is used once more.
use Rattle.std.proofs.Common.{◌≡◌, ◌<◌, ◌+◌, ℕ, Some, ap, arith, refl, sym, subst}
use Rattle.slab.specs.Slab.{get}
use Rattle.term_pool.specs.Pool.{LiesIn, count_at, count_of, live_text, most_uses, text_in_slot}
use Rattle.term_pool.proofs.OthersTexts.{beside_recounted, beside_same}
use Rattle.term_pool.proofs.Lying.{interned_recounted, lies_recounted, used_at}
use Rattle.term_pool.proofs.pool.Pool.intern_known.Goals as goal

positive : (n : ℕ) → 0 < n + 1
positive n = omega arith

pub raise-requires : goal.raise-requires
raise-requires c = used_at c.args.self.now c.args.region.now c.requires.lies c.in-Some.number c.args.text.now (rw c.in-Some.is at c.requires.known)

-- where it has a use more
found : (c : goal.In-Ok) → text_in_slot c.args.self.now c.args.region.now c.in-Some.number ≡ Some c.args.text.now
found c = rw c.in-Some.is at c.requires.known

pub returns-in-Ok-clause-lies : goal.returns-in-Ok-clause-lies
returns-in-Ok-clause-lies c = lies_recounted c.args.self.now _ c.args.region.now c.in-Some.number _ c.in-Ok.ensures.ok c.requires.lies (positive _) refl refl refl refl

pub returns-in-Ok-clause-ok : goal.returns-in-Ok-clause-ok
returns-in-Ok-clause-ok c = interned_recounted c.args.self.now _ c.args.region.now c.in-Some.number _ c.in-Ok.ensures.ok c.args.text.now refl (found c)

pub returns-in-Ok-clause-first : goal.returns-in-Ok-clause-first
returns-in-Ok-clause-first c = λ new. absurd (new.nowhere c.in-Some.number (found c))

pub returns-in-Ok-clause-full : goal.returns-in-Ok-clause-full
returns-in-Ok-clause-full c = (λ is. absurd (cc), λ new. absurd (new.0.nowhere c.in-Some.number (found c)))

pub returns-in-Ok-clause-again : goal.returns-in-Ok-clause-again
returns-in-Ok-clause-again c = λ slot is.
    (λ _. subst (λ n. count_at c.args.self.now n < most_uses) (c.requires.lies.once _ _ _ (found c) is) (c.in-Ok.ensures.counts.0 refl), λ _. refl)

pub returns-in-Ok-clause-beside : goal.returns-in-Ok-clause-beside
returns-in-Ok-clause-beside c = λ piece.
    beside_recounted c.args.self.now _ c.args.region.now c.in-Some.number c.in-Ok.ensures.ok.was (record { piece = c.in-Ok.ensures.ok.was.piece; count = count_at c.args.self.now c.in-Some.number + 1 })
    c.in-Ok.ensures.ok.others c.in-Ok.ensures.ok.there c.in-Ok.ensures.ok.is refl piece

-- where it has the most
found_most : (c : goal.In-Err) → text_in_slot c.args.self.now c.args.region.now c.in-Some.number ≡ Some c.args.text.now
found_most c = rw c.in-Some.is at c.requires.known

pub returns-in-Err-clause-lies : goal.returns-in-Err-clause-lies
returns-in-Err-clause-lies c = subst (λ slots. LiesIn (record c.args.self.now { slots = slots }) c.args.region.now) (sym c.in-Err.ensures.err) c.requires.lies

pub returns-in-Err-clause-err : goal.returns-in-Err-clause-err
returns-in-Err-clause-err c = record {
  texts = λ slot. ap (λ slots. live_text c.args.region.now (get slots slot)) c.in-Err.ensures.err;
  counts = λ slot. ap (λ slots. count_of (get slots slot)) c.in-Err.ensures.err;
}

pub returns-in-Err-clause-full : goal.returns-in-Err-clause-full
returns-in-Err-clause-full c = (λ is. absurd (cc), λ new. absurd (new.0.nowhere c.in-Some.number (found_most c)))

pub returns-in-Err-clause-again : goal.returns-in-Err-clause-again
returns-in-Err-clause-again c = λ slot is.
    (λ ok. absurd (cc), λ few. c.in-Err.ensures.counts.1 (subst (λ n. count_at c.args.self.now n < most_uses) (c.requires.lies.once _ _ _ is (found_most c)) few))

pub returns-in-Err-clause-beside : goal.returns-in-Err-clause-beside
returns-in-Err-clause-beside c = λ piece. beside_same c.args.self.now _ c.args.region.now piece (ap (λ slots. slots.slots) c.in-Err.ensures.err)
