-- Each way through the loop is a step of the grammar's, where all of it is.
use Rattle.std.proofs.Common.{◌≡◌, Some, true, false, map, sym, ap, ◌∙◌, rules}
use Rattle.json_spell.specs.Tree.{no_pairs}
use Rattle.json_differing.specs.Readable.{HasMember, HasMembers}
use Rattle.json_differing.specs.Spelled.{IsKnown, spelled_view}
use Rattle.json_spell.specs.Reading.{add_pair, member_by, value_at, members_at}
use Rattle.json_spell.proofs.ListSteps.{list-start, list-end, list-more}
use Rattle.json_differing.proofs.Readables.{left_has, more_has}
use Rattle.json_differing.proofs.SpelledLists.{all-pushed, map-pushed, pairs-onto}
use Rattle.json_spell.proofs.ValueSteps.{members_at-is}
use Rattle.json_differing.proofs.scanned.scan_members.Goals as goal

pub returns-then-not-more-clause-read : goal.returns-then-not-more-clause-read
returns-then-not-more-clause-read c has =
    let xs = map spelled_view c.loop-members.members.items in
    let last : c.in_ok-more.more ≡ false = search rules in
    let kept = c.into_bump_slice-then-not-more in
    let left = c.loop-members.left.now in
    let levels = c.args.levels in
    let same = c.loop-members.invariant.same has in
    let there : HasMember levels left = more_has levels left (left_has levels xs left c.args.bytes.now same has) in
    let all = map-pushed spelled_view c.loop-members.members.items kept.result.now c.in_ok-member.member (kept.ensures ∙ c.in_ok-push.ensures.items) in
    list-end (member_by value_at) add_pair no_pairs 125 members_at members_at-is xs (map spelled_view kept.result.now) left (spelled_view c.in_ok-member.member) c.in_ok-member.rest.now c.in_ok-more.rest.now _
    same (c.in_ok-member.ensures.read there) (c.in_ok-more.ensures.read ∙ ap (λ b. Some (b, c.in_ok-more.rest.now)) last) all
    ∙ ap (λ l. Some (l, c.in_ok-more.rest.now)) (sym (pairs-onto (map spelled_view kept.result.now)))

pub returns-then-not-more-clause-known : goal.returns-then-not-more-clause-known
returns-then-not-more-clause-known c has =
    let xs = map spelled_view c.loop-members.members.items in
    let kept = c.into_bump_slice-then-not-more in
    let left = c.loop-members.left.now in
    let levels = c.args.levels in
    let there : HasMember levels left = more_has levels left (left_has levels xs left c.args.bytes.now (c.loop-members.invariant.same has) has) in
    all-pushed IsKnown c.loop-members.members.items kept.result.now c.in_ok-member.member (kept.ensures ∙ c.in_ok-push.ensures.items) (c.loop-members.invariant.known has) (c.in_ok-member.ensures.known there)

pub loop-members-preserved : goal.loop-members-preserved
loop-members-preserved c =
    let items = c.loop-members.members.items in
    let pushed = c.push.new.self.items in
    let member = c.in_ok-member.member in
    let xs = map spelled_view items in
    let left = c.loop-members.left.now in
    let bytes = c.args.bytes.now in
    let levels = c.args.levels in
    let there : HasMembers levels bytes → HasMember levels left = λ has. more_has levels left (left_has levels xs left bytes (c.loop-members.invariant.same has) has) in
    let more : c.in_ok-more.more ≡ true = search rules in
    record {
      same = λ has. list-more (member_by value_at) add_pair no_pairs 125 members_at members_at-is xs (map spelled_view pushed) left (spelled_view member) c.in_ok-member.rest.now c.in_ok-more.rest.now _
          (c.loop-members.invariant.same has) (c.in_ok-member.ensures.read (there has)) (c.in_ok-more.ensures.read ∙ ap (λ b. Some (b, c.in_ok-more.rest.now)) more) (map-pushed spelled_view items pushed member c.in_ok-push.ensures.items);
      known = λ has. all-pushed IsKnown items pushed member c.in_ok-push.ensures.items (c.loop-members.invariant.known has) (c.in_ok-member.ensures.known (there has));
      no_longer = search rules;
    }
