-- Records that had room don't begin with those that have none.
use Rattle.following.proofs.Complete.{full_record, not_roomed}
use Rattle.following.proofs.laws.records_without_room_are_named.Goals as goal

pub returns : goal.returns
returns c = λ choices before now bytes there known within at reads. (
  (λ ending. not_roomed choices before now bytes known within reads there at ending.items ending.applied ending.followed.are ending.followed.greatest ending.followed.roomed),
  full_record choices before now bytes known within reads there at,
)
