-- What was received is received still, and what was applied had room.
use Rattle.std.proofs.Common.{◌≡◌, ◌-◌, ◌^◌, List}
use Rattle.replica.specs.declared.record.PatchRecord.{PatchRecord}
use Rattle.following.specs.Taking.{HasReceived}
use Rattle.following.proofs.taking.apply_due.Given as goal

abbrev pub invariant-loop-fault : goal.invariant-loop-fault
invariant-loop-fault l = ((items : List PatchRecord) → HasReceived items l.fn.replica → HasReceived items l.replica) × (l.replica.limit ≡ l.fn.replica.limit)

abbrev pub decreases-loop-fault : goal.decreases-loop-fault
decreases-loop-fault l = 2 ^ 64 - l.replica.applied
