-- A triple agrees where each of its slots does.
use Rattle.triple_catalog.specs.Slots.{triple_at}
use Rattle.triple_catalog.proofs.Matched.{all_three, subject_fails, predicate_fails, object_fails}
use Rattle.triple_catalog.proofs.Storing.{used_slots}
use Rattle.triple_catalog.proofs.catalog.Catalog.slots_of.Goals as goal

pub returns-in_err-first : goal.returns-in_err-first
unfolding triple_at
returns-in_err-first c = rw c.from_residual.ensures (λ key there.
    let used = used_slots c.args.self.now.pool c.args.self.now.index key c.requires.counted there in
    subject_fails c.args.self.now.pool c.args.region.now c.args.pattern.now key (c.in_err-first.ensures key.first used.0))

pub returns-in_err-second : goal.returns-in_err-second
unfolding triple_at
returns-in_err-second c = rw c.from_residual-in_err-second.ensures (λ key there.
    let used = used_slots c.args.self.now.pool c.args.self.now.index key c.requires.counted there in
    predicate_fails c.args.self.now.pool c.args.region.now c.args.pattern.now key (c.in_err-second.ensures key.second used.1))

pub returns-in_err-third : goal.returns-in_err-third
unfolding triple_at
returns-in_err-third c = rw c.from_residual-in_err-third.ensures (λ key there.
    let used = used_slots c.args.self.now.pool c.args.self.now.index key c.requires.counted there in
    object_fails c.args.self.now.pool c.args.region.now c.args.pattern.now key (c.in_err-third.ensures key.third used.2))

pub returns : goal.returns
unfolding triple_at
returns c = λ key there.
    let used = used_slots c.args.self.now.pool c.args.self.now.index key c.requires.counted there in
    all_three _ _ _ _ _ _ (c.in_ok-first.ensures key.first used.0) (c.in_ok-second.ensures key.second used.1) (c.in_ok-third.ensures key.third used.2)
