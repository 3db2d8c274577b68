-- What a follower leaves at its end.
use Rattle.std.proofs.Common.{◌≡◌, Ok, Err, inr, refl, ap, subst}
use Rattle.replica.specs.Replica.{ReplicaState, after}
use Rattle.text_output.specs.{declared.write.Unwritten.Unwritten, Printing.Prints}
use Rattle.arguments.specs.Options.{FollowChoices, follow_max_bytes_of}
use Rattle.following.specs.Following.{Ending, HasFollowed, FollowMoment, StoppedFollowing, follower_limit, replica_text}
use Rattle.following.specs.{Stop.stop_of_unwritten, Taking.HadRoom, Taking.HasTakenRecords}

module _ (choices : FollowChoices) (before now : FollowMoment) (state : ReplicaState) (taken : HasTakenRecords (follow_max_bytes_of choices) before.input now.input state) (limit : state.limit ≡ follower_limit) where
  followed : HasFollowed choices taken.items state.applied before.input now.input
  followed = record {
    read = taken.read;
    are = taken.are;
    greatest = taken.applied.greatest;
    roomed = subst (λ n. HadRoom n taken.items state.applied) limit taken.applied.received.roomed;
  }

  text_is : replica_text choices.export state.applied state.triples ≡ replica_text choices.export state.applied (after taken.items state.applied)
  text_is = ap (replica_text choices.export state.applied) taken.applied.received.follows.triples

  -- all was printed
  pub ended : Prints (replica_text choices.export state.applied state.triples) before.output now.output (Ok tt) → Ending choices before now
  ended prints =
      let printed = subst (λ text. Prints text before.output now.output (Ok tt)) text_is prints in
      record { items = taken.items; applied = state.applied; followed = followed; printed = printed.outcome; handed = printed.leaves }

  -- not all was printed
  pub broken_off : (why : Unwritten) → Prints (replica_text choices.export state.applied state.triples) before.output now.output (Err why) → StoppedFollowing (stop_of_unwritten why) choices before now
  broken_off why prints =
      let printed = subst (λ text. Prints text before.output now.output (Err why)) text_is prints in
      inr (why, refl, record { items = taken.items; applied = state.applied; followed = followed; cut_short = printed.outcome })
