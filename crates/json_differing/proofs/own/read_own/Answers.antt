-- One member more.
use Rattle.std.proofs.Common.{◌<◌, ◌≤◌, length, map, ap, ◌∙◌, arith}
use Rattle.json_spell.specs.View.{member_view}
use Rattle.json_differing.proofs.Owning.{read_all, read_more}
use Rattle.json_differing.proofs.own.read_own.Goals as goal

pub loop-at-preserved : goal.loop-at-preserved
loop-at-preserved c =
    let low : c.loop-at.at < length c.args.spelled.now = omega arith in
    read_more c.args.spelled.now c.loop-at.members.items _ c.loop-at.at _ c.in_ok-member.member low c.loop-at.invariant c.in_ok-member.ensures c.in-Ok.ensures.items

pub returns : goal.returns
returns c =
    let done : length c.args.spelled.now ≤ c.loop-at.at = omega arith in
    ap (map member_view) c.into_bump_slice.ensures ∙ read_all c.args.spelled.now c.loop-at.members.items c.loop-at.at done c.loop-at.invariant
