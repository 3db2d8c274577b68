-- The next record is applied where it waits.
use Rattle.std.proofs.Common.{◌≡◌, ◌≤◌, ◌+◌, ◌^◌, ℕ, Some, ap, subst, sym, arith}
use Rattle.replica.specs.declared.record.PatchRecord.{PatchRecord}
use Rattle.replica.specs.Replica.{HasNoRoomForNext, IsWaiting, ReplicaState, waiting_at}
use Rattle.replica.proofs.Following.{full_is, none_past, waiting_without}
use Rattle.replica.proofs.replica.Replica.advance.Goals as goal

abbrev AreWaiting : ReplicaState → Type 0
AreWaiting s = (n : ℕ) (item : PatchRecord) → waiting_at s.waiting n ≡ Some item → IsWaiting s.applied n item

pub apply_waiting-requires-clause-sound : goal.apply_waiting-requires-clause-sound
apply_waiting-requires-clause-sound c = λ item is. (c.self.invariant.1 _ item is).sound

pub invariant_of-self : goal.invariant_of-self
invariant_of-self c = (
  c.apply_waiting.ensures.once,
  waiting_without c.self.inside.applied c.self.inside.waiting.entries c.remove.new.self.entries c.remove.ensures.updates.0 c.self.invariant.1,
)

pub returns-in-Err-clause-full : goal.returns-in-Err-clause-full
returns-in-Err-clause-full c = λ is. subst HasNoRoomForNext c.self.view_is (full_is _ (c.in-Err.ensures.full is))

pub returns-then-self-clause-answer : goal.returns-then-self-clause-answer
returns-then-self-clause-answer c = λ items follows.
    let waiting = subst AreWaiting c.self.view_is c.self.invariant.1 in
    let applied : c.self.inside.applied ≡ c.args.self.now.applied = ap (λ (s : ReplicaState). s.applied) c.self.view_is in
    let past : 2 ^ 64 ≤ c.args.self.now.applied + 1 = omega (arith, applied, c.if-self.true) in
    sym (none_past items c.args.self.now (c.args.self.now.applied + 1) past (omega arith) waiting follows)

pub returns-then-self-clause-within : goal.returns-then-self-clause-within
returns-then-self-clause-within c = λ item is.
    let waiting = subst AreWaiting c.self.view_is c.self.invariant.1 in
    let applied : c.self.inside.applied ≡ c.args.self.now.applied = ap (λ (s : ReplicaState). s.applied) c.self.view_is in
    absurd (omega (arith, applied, c.if-self.true, (waiting _ item is).small))
