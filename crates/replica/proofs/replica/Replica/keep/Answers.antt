-- The record is put at its number.
use Rattle.std.proofs.Common.{◌≡◌, ◌<◌, arith, ap}
use Rattle.replica.specs.Replica.{ReplicaState}
use Rattle.replica.proofs.Following.{above_applied, waiting_with}
use Rattle.replica.proofs.replica.Replica.keep.Goals as goal

pub invariant_of-self : goal.invariant_of-self
invariant_of-self c =
    let applied : c.self.inside.applied ≡ c.args.self.now.applied = ap (λ (s : ReplicaState). s.applied) c.self.view_is in
    let above : c.self.inside.applied < c.args.item.number = omega (arith, applied, above_applied c.args.self.now c.args.item.number c.requires.new) in (
      c.self.invariant.0,
      waiting_with c.self.inside.applied c.args.item c.self.inside.waiting.entries c.insert.new.self.entries above (omega arith) c.requires.sound c.in-Ok.ensures.updates.0 c.self.invariant.1,
    )

pub invariant_of-self-2 : goal.invariant_of-self-2
invariant_of-self-2 c = (c.self.invariant.0, rw c.in-Err.ensures.err c.self.invariant.1)
