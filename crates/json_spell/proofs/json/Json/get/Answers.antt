-- The search from the end finds the last member.
use Rattle.std.proofs.Common.{◌≡◌, map, option_map, sym, ap, ◌∙◌, rules}
use Rattle.json_spell.specs.declared.json.Json.{the_lemmas}
use Rattle.json_spell.specs.Tree.{object, member_of}
use Rattle.json_spell.specs.View.{json_view, member_view, pairs_of}
use Rattle.json_spell.proofs.Members.{found-last}
use Rattle.json_spell.proofs.json.Json.get.Goals as goal

pub returns-in_err-member : goal.returns-in_err-member
returns-in_err-member c =
    let view : json_view c.args.self.now ≡ object (pairs_of (map member_view c.in-Members.members.now)) = ap json_view c.in-Members.is ∙ search (rules, the_lemmas) in
    rw c.from_residual.ensures
    (ap (option_map (λ m. json_view m.value)) c.in_err-member.ensures
    ∙ found-last c.args.key.now c.in-Members.members.now ∙ sym (ap (member_of c.args.key.now) view))

pub returns : goal.returns
returns c =
    let view : json_view c.args.self.now ≡ object (pairs_of (map member_view c.in-Members.members.now)) = ap json_view c.in-Members.is ∙ search (rules, the_lemmas) in
    ap (option_map (λ m. json_view m.value)) c.in_ok-member.ensures
    ∙ found-last c.args.key.now c.in-Members.members.now ∙ sym (ap (member_of c.args.key.now) view)
