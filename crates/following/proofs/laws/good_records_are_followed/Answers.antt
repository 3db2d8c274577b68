-- Each other cause is ruled out.
use Rattle.following.proofs.Complete.{good_records}
use Rattle.following.proofs.laws.good_records_are_followed.Goals as goal

pub returns : goal.returns
returns c = λ choices before now stop bytes items applied stopped known are greatest roomed reads writes. good_records choices before now bytes known items applied are greatest roomed reads writes stop stopped
