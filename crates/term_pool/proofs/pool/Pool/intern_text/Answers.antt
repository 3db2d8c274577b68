-- A term that is there is used once more.
use Rattle.std.proofs.Common.{◌<◌, ◌+◌, ℕ, Result, Ok, Err, ap, arith, refl, sym, subst}
use Rattle.std.specs.Prelude.{IfOk}
use Rattle.slab.specs.Slab.{get}
use Rattle.term_pool.specs.Pool.{LiesIn, count_at, count_of, live_text, most_uses}
use Rattle.term_pool.proofs.OthersTexts.{beside_recounted, beside_same}
use Rattle.term_pool.proofs.Lying.{interned_recounted, lies_recounted, used_at}
use Rattle.term_pool.proofs.pool.Pool.intern_text.Goals as goal

positive : (n : ℕ) → 0 < n + 1
positive n = omega arith

if_ok_weaker : {A E : Type 0} {P Q : A → Type 0} (r : Result A E) → ((a : A) → P a → Q a) → IfOk r P → IfOk r Q
if_ok_weaker (Ok a) f h = f a h
if_ok_weaker (Err e) f h = tt

pub raise-requires : goal.raise-requires
raise-requires c = used_at c.args.self.now c.args.region.now c.requires.lies c.in-Some.slot.number c.args.text.now c.in-Some.ensures.found

-- where the term is there
pub returns-in-Ok-clause-lies : goal.returns-in-Ok-clause-lies
returns-in-Ok-clause-lies c = lies_recounted c.args.self.now _ c.args.region.now c.in-Some.slot.number _ c.in-Ok.ensures.ok c.requires.lies (positive _) refl refl refl refl

pub returns-in-Ok-clause-ok : goal.returns-in-Ok-clause-ok
returns-in-Ok-clause-ok c = interned_recounted c.args.self.now _ c.args.region.now c.in-Some.slot.number _ c.in-Ok.ensures.ok c.args.text.now refl c.in-Some.ensures.found

pub returns-in-Ok-clause-first : goal.returns-in-Ok-clause-first
returns-in-Ok-clause-first c = λ new. absurd (new.nowhere c.in-Some.slot.number c.in-Some.ensures.found)

pub returns-in-Ok-clause-full : goal.returns-in-Ok-clause-full
returns-in-Ok-clause-full c = (λ is. absurd (cc), λ new. absurd (new.0.nowhere c.in-Some.slot.number c.in-Some.ensures.found))

pub returns-in-Ok-clause-again : goal.returns-in-Ok-clause-again
returns-in-Ok-clause-again c = λ slot is.
    (λ _. subst (λ n. count_at c.args.self.now n < most_uses) (c.requires.lies.once _ _ _ c.in-Some.ensures.found is) (c.in-Ok.ensures.counts.0 refl), λ _. refl)

pub returns-in-Ok-clause-beside : goal.returns-in-Ok-clause-beside
returns-in-Ok-clause-beside c = λ piece.
    beside_recounted c.args.self.now _ c.args.region.now c.in-Some.slot.number c.in-Ok.ensures.ok.was (record { piece = c.in-Ok.ensures.ok.was.piece; count = count_at c.args.self.now c.in-Some.slot.number + 1 })
    c.in-Ok.ensures.ok.others c.in-Ok.ensures.ok.there c.in-Ok.ensures.ok.is refl piece

-- where it has the most uses
pub returns-in-Err-clause-lies : goal.returns-in-Err-clause-lies
returns-in-Err-clause-lies c = subst (λ slots. LiesIn (record c.args.self.now { slots = slots }) c.args.region.now) (sym c.in-Err.ensures.err) c.requires.lies

pub returns-in-Err-clause-err : goal.returns-in-Err-clause-err
returns-in-Err-clause-err c = record {
  texts = λ slot. ap (λ slots. live_text c.args.region.now (get slots slot)) c.in-Err.ensures.err;
  counts = λ slot. ap (λ slots. count_of (get slots slot)) c.in-Err.ensures.err;
}

pub returns-in-Err-clause-full : goal.returns-in-Err-clause-full
returns-in-Err-clause-full c = (λ is. absurd (cc), λ new. absurd (new.0.nowhere c.in-Some.slot.number c.in-Some.ensures.found))

pub returns-in-Err-clause-again : goal.returns-in-Err-clause-again
returns-in-Err-clause-again c = λ slot is.
    (λ ok. absurd (cc), λ few. c.in-Err.ensures.counts.1 (subst (λ n. count_at c.args.self.now n < most_uses) (c.requires.lies.once _ _ _ is c.in-Some.ensures.found) few))

pub returns-in-Err-clause-beside : goal.returns-in-Err-clause-beside
returns-in-Err-clause-beside c = λ piece. beside_same c.args.self.now _ c.args.region.now piece (ap (λ slots. slots.slots) c.in-Err.ensures.err)

-- where it is new
pub returns-in-None-clause-first : goal.returns-in-None-clause-first
returns-in-None-clause-first c = if_ok_weaker c.add.result (λ slot once new. once) c.add.ensures.first

pub returns-in-None-clause-full : goal.returns-in-None-clause-full
returns-in-None-clause-full c = (λ is. (c.in-None.ensures.nowhere, c.add.ensures.full.0 is), λ full. c.add.ensures.full.1 full.1)

pub returns-in-None-clause-again : goal.returns-in-None-clause-again
returns-in-None-clause-again c = λ slot is. absurd (c.in-None.ensures.nowhere.nowhere slot is)
