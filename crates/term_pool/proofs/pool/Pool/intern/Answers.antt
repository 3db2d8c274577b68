-- A term is taken in by its text.
use Rattle.std.proofs.Common.{◌≡◌, ◌↔◌, ℕ, ◌<◌, ◌≤◌, false, Result, Ok, Err, ◌++◌, ap, refl, ◌∙◌, ⊎_elim}
use Rattle.std.specs.Prelude.{IsOk, OnOk, is_err}
use Rattle.std.proofs.lemmas.Bool.{cases_lt}
use Rattle.rdf_term.specs.Text.{term_text}
use Rattle.term_pool.specs.declared.fault.PoolFault.{PoolFault}
use Rattle.term_pool.specs.declared.fault.PoolFault.TheVariants.{Full}
use Rattle.term_pool.proofs.pool.Pool.intern.Goals as goal

no_error : {A E : Type 0} (r : Result A E) {P : Type 0} → false ≡ is_err r → OnOk r P → P
no_error (Ok a) is h = h
no_error (Err e) is h = absurd (cc)

room : {A : Type 0} (r : Result A PoolFault) {P : Type 0} (terms limit : ℕ) → ((r ≡ Err Full) ↔ (P × (limit ≤ terms))) → OnOk r (P → terms < limit)
room (Ok a) terms limit full = λ new. ⊎_elim (λ below. below) (λ above. absurd (let is = full.1 (new, above) in cc)) (cases_lt terms limit)
room (Err e) terms limit full = tt

counted : {A B : Type 0} (r : Result A PoolFault) {P Q : B → Type 0} → ((b : B) → P b → (IsOk r ↔ Q b)) → OnOk r ((b : B) → P b → Q b)
counted (Ok a) h = λ b p. (h b p).0 refl
counted (Err e) h = tt

same : (c : goal.After-drop-text-2) → c.as_slice.result.now ≡ term_text c.args.term.now
same c = c.as_slice.ensures.value ∙ no_error c.write_term.result c.if-is_err.ensures.value c.write_term.ensures.ok ∙ ap (λ l. l ++ term_text c.args.term.now) c.new-text.ensures.items

pub returns-clause-lies : goal.returns-clause-lies
returns-clause-lies c = c.intern_text.ensures.lies

pub returns-clause-ok : goal.returns-clause-ok
returns-clause-ok c = rw (same c) at c.intern_text.ensures.ok

pub returns-clause-first : goal.returns-clause-first
returns-clause-first c = rw (same c) at c.intern_text.ensures.first

pub returns-clause-err : goal.returns-clause-err
returns-clause-err c = c.intern_text.ensures.err

pub returns-clause-full : goal.returns-clause-full
returns-clause-full c = (rw (same c) at c.intern_text.ensures.full).0

pub returns-clause-within : goal.returns-clause-within
returns-clause-within c = room c.intern_text.result _ _ (rw (same c) at c.intern_text.ensures.full)

pub returns-clause-again : goal.returns-clause-again
returns-clause-again c = counted c.intern_text.result (rw (same c) at c.intern_text.ensures.again)

pub returns-clause-beside : goal.returns-clause-beside
returns-clause-beside c = c.intern_text.ensures.beside

pub returns-clause-limit : goal.returns-clause-limit
returns-clause-limit c = c.intern_text.ensures.limit
