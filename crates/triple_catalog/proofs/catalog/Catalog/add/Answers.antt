-- A triple comes with its first owner; a further one leaves the uses of its terms as they were.
use Rattle.std.proofs.Common.{◌≡◌, ◌<◌, ℕ, ap, subst, sym, ◌∙◌, refl, arith}
use Rattle.std.specs.FinMap as map
use Rattle.std.proofs.lemmas.Bool.{eqb-false, eqb-true}
use Rattle.term_pool.specs.Pool.{count_at}
use Rattle.slot_index.specs.Counts.{KeyCounts, count_of as key_count}
use Rattle.triple_catalog.specs.{Costs.Costs, Counts.count_of, Interning.KeepsTexts, Slots.HasTriple, Slots.triple_of}
use Rattle.triple_catalog.proofs.{Costs.none_came, Costs.nothing, Costs.one_came, Live.count_image}
use Rattle.triple_catalog.proofs.Storing.{again, back, counts_after, counts_kept, counts_unmoved, has_triple, keeps_released, key_after, keys_after, keys_unmoved, live_kept, live_stored, stored_again, stored_new, stored_same, terms_stored}
use Rattle.triple_catalog.proofs.catalog.Catalog.add.Given.{Over}
use Rattle.triple_catalog.proofs.catalog.Catalog.add.Goals as goal

pub returns-in-Err-clause-stored : goal.returns-in-Err-clause-stored
returns-in-Err-clause-stored g c = stored_same c.args.self.now _ c.args.region.now _ c.requires.stored refl c.intern_triple.ensures.lies c.in-Err.ensures.err.counts

pub returns-in-Err-clause-err : goal.returns-in-Err-clause-err
returns-in-Err-clause-err g c = counts_unmoved c.args.self.now _ c.args.region.now _ c.requires.stored (record { kept = λ x t e. c.in-Err.ensures.err.texts x ∙ e }) refl

pub returns-in-Err-clause-full : goal.returns-in-Err-clause-full
returns-in-Err-clause-full g c = λ e ts h all. c.in-Err.ensures.full e ts (terms_stored c.args.self.now c.args.region.now ts c.requires.stored h) all

pub returns-in-Err-clause-cost : goal.returns-in-Err-clause-cost
returns-in-Err-clause-cost g c = nothing _ 1 0 _

pub raise-requires : goal.raise-requires
raise-requires g c =
    let held = c.in-Ok.ensures.ok in
    let live = live_stored c.args.self.now c.args.region.now c.requires.stored in
    let same = counts_kept _ c.intern_triple.new.pool _ c.intern_triple.new.region c.args.self.now.index held.kept live in
    let one = count_image c.intern_triple.new.pool c.intern_triple.new.region c.args.self.now.index c.in-Ok.key (triple_of c.args.texts.now) c.intern_triple.ensures.lies (live_kept _ _ _ _ _ held.kept live) (has_triple _ _ _ c.args.texts.now c.requires.canonical held.has) in
    omega (arith, c.requires.countable, one, ap (λ m. count_of m (triple_of c.args.texts.now)) same)

pub returns-in-Ok-true-clause-stored : goal.returns-in-Ok-true-clause-stored
returns-in-Ok-true-clause-stored g c = stored_new c.args.self.now _ c.args.region.now _ c.requires.stored c.in-Ok.key c.args.texts.now c.in-Ok-true.ensures.ok (eqb-true _ 0 (sym c.in-Ok-true.ensures.answer ∙ c.in-Ok-true.field-0-test)) c.intern_triple.ensures.lies c.in-Ok.ensures.ok

pub returns-in-Ok-true-clause-ok : goal.returns-in-Ok-true-clause-ok
returns-in-Ok-true-clause-ok g c = counts_after c.args.self.now _ c.args.region.now _ c.requires.stored c.in-Ok.key _ c.in-Ok-true.ensures.ok c.intern_triple.ensures.lies c.in-Ok.ensures.ok.kept (has_triple _ _ _ c.args.texts.now c.requires.canonical c.in-Ok.ensures.ok.has)

pub returns-in-Ok-true-clause-key : goal.returns-in-Ok-true-clause-key
returns-in-Ok-true-clause-key g c = key_after c.args.self.now _ c.args.region.now _ c.requires.stored c.in-Ok.key _ c.in-Ok-true.ensures.ok (has_triple _ _ _ c.args.texts.now c.requires.canonical c.in-Ok.ensures.ok.has)

pub returns-in-Ok-true-clause-kept : goal.returns-in-Ok-true-clause-kept
returns-in-Ok-true-clause-kept g c = keys_after c.args.self.now _ c.args.region.now _ c.requires.stored c.in-Ok.key (triple_of c.args.texts.now) c.in-Ok-true.ensures.ok c.in-Ok.ensures.ok.kept

counts_back : (g : Over) (c : goal.After-release_triple g) → (x : ℕ) → count_at c.release_triple.new.pool x ≡ count_at c.args.self.now.pool x
counts_back g c = back _ c.intern_triple.new.pool _ _ c.intern_triple.new.region c.release_triple.new.region c.in-Ok.key c.args.texts.now c.in-Ok.ensures.ok c.release_triple.ensures.gone

keeps_back : (g : Over) (c : goal.After-release_triple g) → KeepsTexts c.args.self.now.pool c.args.region.now c.release_triple.new.pool c.release_triple.new.region
keeps_back g c = keeps_released _ c.intern_triple.new.pool _ _ c.intern_triple.new.region _ c.in-Ok.key c.requires.stored.lies c.in-Ok.ensures.ok.kept c.release_triple.ensures.gone (counts_back g c)

some : (g : Over) (c : goal.After-release_triple g) → 0 < key_count c.args.self.now.index c.in-Ok.key
some g c = let other = eqb-false (key_count c.args.self.now.index c.in-Ok.key) 0 (sym c.in-Ok-false.ensures.answer ∙ c.in-Ok-false.field-0-test) in omega arith

has_it : (g : Over) (c : goal.After-release_triple g) → HasTriple c.release_triple.new.pool c.release_triple.new.region c.in-Ok.key (triple_of c.args.texts.now)
has_it g c = again c.args.self.now c.intern_triple.new.pool _ c.args.region.now c.intern_triple.new.region _ c.in-Ok.key c.args.texts.now c.requires.stored c.requires.canonical (some g c) c.in-Ok.ensures.ok c.release_triple.ensures.gone

pub returns-in-Ok-false-clause-stored : goal.returns-in-Ok-false-clause-stored
returns-in-Ok-false-clause-stored g c = stored_again c.args.self.now _ c.args.region.now _ c.requires.stored c.in-Ok.key c.in-Ok-false.ensures.ok (some g c) c.release_triple.ensures.lies (counts_back g c)

pub returns-in-Ok-false-clause-ok : goal.returns-in-Ok-false-clause-ok
returns-in-Ok-false-clause-ok g c = counts_after c.args.self.now _ c.args.region.now _ c.requires.stored c.in-Ok.key _ c.in-Ok-false.ensures.ok c.release_triple.ensures.lies (keeps_back g c) (has_it g c)

pub returns-in-Ok-false-clause-key : goal.returns-in-Ok-false-clause-key
returns-in-Ok-false-clause-key g c = key_after c.args.self.now _ c.args.region.now _ c.requires.stored c.in-Ok.key _ c.in-Ok-false.ensures.ok (has_it g c)

pub returns-in-Ok-false-clause-kept : goal.returns-in-Ok-false-clause-kept
returns-in-Ok-false-clause-kept g c = keys_after c.args.self.now _ c.args.region.now _ c.requires.stored c.in-Ok.key (triple_of c.args.texts.now) c.in-Ok-false.ensures.ok (keeps_back g c)

back_after_fault : (g : Over) (c : goal.After-release_triple-in-Err-raise g) → (x : ℕ) → count_at c.release_triple-in-Err-raise.new.pool x ≡ count_at c.args.self.now.pool x
back_after_fault g c = back _ c.intern_triple.new.pool _ _ c.intern_triple.new.region c.release_triple-in-Err-raise.new.region c.in-Ok.key c.args.texts.now c.in-Ok.ensures.ok c.release_triple-in-Err-raise.ensures.gone

keeps_after_fault : (g : Over) (c : goal.After-release_triple-in-Err-raise g) → KeepsTexts c.args.self.now.pool c.args.region.now c.release_triple-in-Err-raise.new.pool c.release_triple-in-Err-raise.new.region
keeps_after_fault g c = keeps_released _ c.intern_triple.new.pool _ _ c.intern_triple.new.region _ c.in-Ok.key c.requires.stored.lies c.in-Ok.ensures.ok.kept c.release_triple-in-Err-raise.ensures.gone (back_after_fault g c)

pub returns-in-Err-raise-clause-stored : goal.returns-in-Err-raise-clause-stored
returns-in-Err-raise-clause-stored g c = stored_same c.args.self.now _ c.args.region.now _ c.requires.stored c.in-Err-raise.ensures.err c.release_triple-in-Err-raise.ensures.lies (back_after_fault g c)

pub returns-in-Err-raise-clause-err : goal.returns-in-Err-raise-clause-err
returns-in-Err-raise-clause-err g c = counts_unmoved c.args.self.now _ c.args.region.now _ c.requires.stored (keeps_after_fault g c) c.in-Err-raise.ensures.err

pub returns-in-Err-raise-clause-kept : goal.returns-in-Err-raise-clause-kept
returns-in-Err-raise-clause-kept g c = keys_unmoved c.args.self.now _ c.args.region.now _ c.requires.stored (keeps_after_fault g c) c.in-Err-raise.ensures.err

pub returns-in-Ok-true-clause-cost : goal.returns-in-Ok-true-clause-cost
returns-in-Ok-true-clause-cost g c = one_came c.args.self.now.index c.raise.new.self c.in-Ok.key _ _ c.in-Ok-true.ensures.ok c.raise.ensures.forward c.raise.ensures.cost

pub returns-in-Ok-false-clause-cost : goal.returns-in-Ok-false-clause-cost
returns-in-Ok-false-clause-cost g c = one_came c.args.self.now.index c.raise.new.self c.in-Ok.key _ _ c.in-Ok-false.ensures.ok c.raise.ensures.forward c.raise.ensures.cost

pub returns-in-Err-raise-clause-cost : goal.returns-in-Err-raise-clause-cost
returns-in-Err-raise-clause-cost g c = subst (λ (m : KeyCounts). Costs (map.len c.args.self.now.index) (map.len m) 1 0 (g.C.StepCounter.total c.args.steps.now) (g.C.StepCounter.total c.raise.new.steps)) (sym c.in-Err-raise.ensures.err) (none_came _ _ _ c.raise.ensures.forward c.raise.ensures.cost)
