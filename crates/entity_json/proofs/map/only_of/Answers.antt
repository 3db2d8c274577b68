-- One key alone, or more than one.
use Rattle.std.proofs.Common.{◌≡◌, map, refl, ap, ◌∙◌, rules}
use Rattle.json_spell.specs.declared.json.Json.{the_lemmas}
use Rattle.json_spell.specs.Tree.{object}
use Rattle.json_spell.specs.View.{json_view, member_view, pairs_of}
use Rattle.entity_json.proofs.OnlyKeys.{only-none, only-some}
use Rattle.entity_json.proofs.map.only_of.Goals as goal

pub returns-then-has_other_key : goal.returns-then-has_other_key
returns-then-has_other_key c =
    let members = c.in-Members.members.now in
    let last = c.in-Some.last.now in
    let view : json_view c.args.json.now ≡ object (pairs_of (map member_view members)) = ap json_view c.in-Members.is ∙ search (rules, the_lemmas) in
    only-none (json_view c.args.json.now) members c.in-Some.before.now last last.key.now c.has_other_key.result view c.in-Some.ensures.cases.0 refl
    c.has_other_key.ensures c.if-has_other_key.true

pub returns : goal.returns
returns c =
    let members = c.in-Members.members.now in
    let last = c.in-Some.last.now in
    let view : json_view c.args.json.now ≡ object (pairs_of (map member_view members)) = ap json_view c.in-Members.is ∙ search (rules, the_lemmas) in
    only-some (json_view c.args.json.now) members c.in-Some.before.now last last.key.now c.has_other_key.result view c.in-Some.ensures.cases.0 refl
    c.has_other_key.ensures c.if-has_other_key.false
