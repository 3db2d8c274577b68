-- A twin stands behind those before it, and what is between them is gone.
use Rattle.std.proofs.Common.{◌+◌, ◌<◌, ◌≤◌, length, List, subst, sym, arith}
use Rattle.json_differing.specs.declared.spelled.Spelled.{Spelled}
use Rattle.json_differing.proofs.Owning.{Owns, owns_all, owns_come, owns_common, twin_at}
use Rattle.json_differing.proofs.own.own_members.Goals as goal
use Rattle.json_differing.proofs.own.own_members.Goals.{in-Some+in_ok-push_gone-in-Some, in-None+in_ok-push-in-None}

pub loop-at-preserved : goal.loop-at-preserved
loop-at-preserved c =
    let olds = c.args.olds.now in
    let news = c.args.news.now in
    let at = c.loop-at.at in
    let low : at < length news = omega arith in
    elim c.match-twin_from.branch [
      | in-Some+in_ok-push_gone-in-Some w ↦
          rw (w.gone-is, w.come-is, w.first-is)
          (owns_common olds news c.loop-at.gone.items w.push_gone.new.gone.items c.loop-at.come.items c.loop-at.first at w.in-Some.index _ c.loop-at.invariant low
          (twin_at olds news at _ w.in-Some.index c.requires low w.in-Some.ensures.0) w.in_ok-push_gone-in-Some.ensures)
      | in-None+in_ok-push-in-None w ↦
          rw (w.gone-is, w.come-is, w.first-is)
          (subst (λ (l : List Spelled). Owns olds news c.loop-at.gone.items l c.loop-at.first (at + 1)) (sym w.in_ok-push-in-None.ensures.items)
          (owns_come olds news c.loop-at.gone.items c.loop-at.come.items c.loop-at.first at _ c.loop-at.invariant low))
    ]

pub returns : goal.returns
returns c =
    let done : length c.args.news.now ≤ c.loop-at.at = omega arith in
    rw (c.into_bump_slice.ensures, c.into_bump_slice-2.ensures)
    (owns_all c.args.olds.now c.args.news.now c.loop-at.gone.items c.push_gone-2.new.gone.items c.loop-at.come.items c.loop-at.first c.loop-at.at c.loop-at.invariant done c.in_ok-push_gone.ensures)
