-- Both maps were read, no name comes twice in either, and each is told less the members that both have.
use Rattle.std.proofs.Common.{◌≡◌, map, Some, rules}
use Rattle.sorted_sets.specs.Merging.{Changes}
use Rattle.std.specs.List.{All}
use Rattle.json_spell.specs.declared.json.Json.{the_lemmas}
use Rattle.json_spell.specs.Tree.{no_pairs}
use Rattle.json_differing.specs.Differing.{AreApart}
use Rattle.json_differing.specs.Readable.{HasMembers}
use Rattle.json_spell.specs.Reading.{list_by, members_at}
use Rattle.json_differing.specs.Spelled.{IsKnown, SpelledNests, spelled_view}
use Rattle.json_spell.specs.View.{member_view, pairs_of}
use Rattle.json_differing.proofs.Founds.{less_found}
use Rattle.json_differing.proofs.Readables.{members_low}
use Rattle.json_differing.proofs.differing.less_members.Goals as goal

pub returns-clause-found : goal.returns-clause-found
returns-clause-found c has =
    let olds = c.in_ok-olds.olds.now in
    let news = c.in_ok-news.news.now in
    let own = c.in_ok-own.own in
    let gone = c.in_ok-gone.gone.now in
    let come = c.in_ok-come.come.now in
    let levels = c.args.levels in
    let inside = c.args.inside in
    let old_told : HasMembers levels inside.old.now → list_by no_pairs 0x7D members_at inside.old.now ≡ Some (pairs_of (map spelled_view olds), c.in_ok-olds.old_rest.now) = search rules in
    let known_told : HasMembers levels inside.old.now → All IsKnown olds = search rules in
    let new_told : All IsKnown olds → list_by no_pairs 0x7D members_at inside.new.now ≡ Some (pairs_of (map spelled_view news), c.in_ok-news.new_rest.now) = search rules in
    let nest_told : All (SpelledNests levels) olds → All (SpelledNests levels) news = search rules in
    let old_apart : AreApart (map spelled_view olds) = search rules in
    let new_apart : AreApart (map spelled_view news) = search rules in
    let changes : Changes (map spelled_view olds) (map spelled_view news) (map spelled_view own.gone.now) (map spelled_view own.come.now) = search rules in
    let gone_read : map member_view gone ≡ map spelled_view own.gone.now = search rules in
    let come_read : map member_view come ≡ map spelled_view own.come.now = search rules in
    let low : All (SpelledNests levels) olds = members_low levels inside.old.now olds c.in_ok-olds.old_rest.now (old_told has) has in
    less_found levels inside _ olds news own.gone.now own.come.now gone come (old_told has) (new_told (known_told has)) (search (rules, the_lemmas)) (search (rules, the_lemmas)) old_apart new_apart changes gone_read come_read (nest_told low)
