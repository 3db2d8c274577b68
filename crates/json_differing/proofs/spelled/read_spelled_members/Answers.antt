-- Each way through the loop is a step of the grammar's.
use Rattle.std.proofs.Common.{◌≡◌, Some, true, false, map, sym, ap, ◌∙◌, rules}
use Rattle.json_spell.specs.Tree.{no_pairs}
use Rattle.json_differing.specs.Spelled.{HasTwin, SpelledNests, spelled_view}
use Rattle.json_spell.specs.Reading.{add_pair, member_by, value_at, members_at}
use Rattle.json_spell.proofs.ListSteps.{list-start, list-end, list-more}
use Rattle.json_differing.proofs.SpelledLists.{all-pushed, map-pushed, pairs-onto}
use Rattle.json_spell.proofs.ValueSteps.{members_at-is}
use Rattle.json_differing.proofs.spelled.read_spelled_members.Goals as goal

pub returns-then-not-more-clause-read : goal.returns-then-not-more-clause-read
returns-then-not-more-clause-read c are_known =
    let last : c.in_ok-more.more ≡ false = search rules in
    let kept = c.into_bump_slice-then-not-more in
    let xs = map spelled_view c.loop-members.members.items in
    let all = map-pushed spelled_view c.loop-members.members.items kept.result.now c.in_ok-member.member (kept.ensures ∙ c.in_ok-push.ensures.items) in
    list-end (member_by value_at) add_pair no_pairs 125 members_at members_at-is xs (map spelled_view kept.result.now) c.loop-members.left.now (spelled_view c.in_ok-member.member) c.in_ok-member.rest.now c.in_ok-more.rest.now _
    (c.loop-members.invariant.same are_known) (c.in_ok-member.ensures.read are_known) (c.in_ok-more.ensures.read ∙ ap (λ b. Some (b, c.in_ok-more.rest.now)) last) all
    ∙ ap (λ l. Some (l, c.in_ok-more.rest.now)) (sym (pairs-onto (map spelled_view kept.result.now)))

pub returns-then-not-more-clause-twins : goal.returns-then-not-more-clause-twins
returns-then-not-more-clause-twins c =
    let kept = c.into_bump_slice-then-not-more in
    all-pushed (HasTwin c.args.known.now) c.loop-members.members.items kept.result.now c.in_ok-member.member (kept.ensures ∙ c.in_ok-push.ensures.items) c.loop-members.invariant.twins c.in_ok-member.ensures.twin

pub returns-then-not-more-clause-nests : goal.returns-then-not-more-clause-nests
returns-then-not-more-clause-nests c nest =
    let kept = c.into_bump_slice-then-not-more in
    all-pushed (SpelledNests c.args.levels) c.loop-members.members.items kept.result.now c.in_ok-member.member (kept.ensures ∙ c.in_ok-push.ensures.items) (c.loop-members.invariant.nest nest) (c.in_ok-member.ensures.nests nest)

pub loop-members-preserved : goal.loop-members-preserved
loop-members-preserved c =
    let items = c.loop-members.members.items in
    let pushed = c.push.new.self.items in
    let member = c.in_ok-member.member in
    let more : c.in_ok-more.more ≡ true = search rules in
    record {
      same = λ are_known. list-more (member_by value_at) add_pair no_pairs 125 members_at members_at-is (map spelled_view items) (map spelled_view pushed) c.loop-members.left.now (spelled_view member) c.in_ok-member.rest.now c.in_ok-more.rest.now _
          (c.loop-members.invariant.same are_known) (c.in_ok-member.ensures.read are_known) (c.in_ok-more.ensures.read ∙ ap (λ b. Some (b, c.in_ok-more.rest.now)) more) (map-pushed spelled_view items pushed member c.in_ok-push.ensures.items);
      twins = all-pushed (HasTwin c.args.known.now) items pushed member c.in_ok-push.ensures.items c.loop-members.invariant.twins c.in_ok-member.ensures.twin;
      nest = λ nest. all-pushed (SpelledNests c.args.levels) items pushed member c.in_ok-push.ensures.items (c.loop-members.invariant.nest nest) (c.in_ok-member.ensures.nests nest);
      no_longer = search rules;
    }
