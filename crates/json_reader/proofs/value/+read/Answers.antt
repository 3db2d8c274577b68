-- Each way through the readers is a step of the grammar's.
use Rattle.std.proofs.Common.{◌≡◌, ◌-◌, ◌∷◌, ◌++◌, ◌==◌, ℕ, suc, List, [], length, Some, IfOk, true, false, map, refl, sym, ap, subst, ◌∙◌, arith, rules}
use Rattle.std.proofs.lemmas.Result.{err_from_is_err_and}
use Rattle.std.proofs.lemmas.Bool.Decides.{nat_tests}
use Rattle.std.proofs.lemmas.List.{map-append}
use Rattle.json_spell.specs.declared.json.Json.{Json, the_lemmas}
use Rattle.json_spell.specs.declared.json.Member.{Member}
use Rattle.json_spell.specs.Tree.{Tree, no_trees, tree, no_pairs, string, array, object}
use Rattle.json_spell.specs.View.{json_view, member_view, trees_of, pairs_of}
use Rattle.json_spell.specs.Reading.{read_map, content_at, ending_at, key_at, list_by, add_pair, spaced, member_by, value_at, values_at, members_at}
use Rattle.json_spell.specs.Nesting.{Nests, AllNest, MembersNest}
use Rattle.json_spell.proofs.Nested.{all-push, members-push, scalar-nests}
use Rattle.json_spell.proofs.ParsesLemmas.{Refuses-passed}
use Rattle.json_spell.proofs.ListSteps.{onto, list-start, list-no_part, list-no_end, list-end, list-more}
use Rattle.json_spell.proofs.ValueSteps.{value_at-end, value_at-string, value_at-array, value_at-object, value_at-scalar, values_at-is, members_at-is, member-no_key, member-key}
use Rattle.json_reader.proofs.value.+read.Goals as goal

-- vectors as lists of the grammar
trees-onto : (ts : List Tree) → trees_of ts ≡ onto tree ts no_trees
trees-onto [] = refl
trees-onto (t ∷ ts) = ap (tree t) (trees-onto ts)

pairs-onto : (ps : List (List ℕ × Tree)) → pairs_of ps ≡ onto add_pair ps no_pairs
pairs-onto [] = refl
pairs-onto (p ∷ ps) = ap (add_pair p) (pairs-onto ps)

map-pushed : {A B : Type 0} (f : A → B) (xs ys : List A) (x : A) → ys ≡ xs ++ x ∷ [] → map f ys ≡ map f xs ++ f x ∷ []
map-pushed f xs ys x e = ap (map f) e ∙ map-append f xs (x ∷ [])

pub read_value-returns-in_default-clause-read : goal.read_value-returns-in_default-clause-read
read_value-returns-in_default-clause-read t c = value_at-end c.args.bytes.now c.in_default.ensures

pub read_value-returns-in_default-byte-clause-read : goal.read_value-returns-in_default-byte-clause-read
read_value-returns-in_default-byte-clause-read t c =
    let no_mark : (c.in-Some.byte == 0x22) ≡ false = grind (arith, nat_tests) in
    let no_bracket : (c.in-Some.byte == 0x5B) ≡ false = grind (arith, nat_tests) in
    let no_brace : (c.in-Some.byte == 0x7B) ≡ false = grind (arith, nat_tests) in
    rw (value_at-scalar c.args.bytes.now c.in-Some.byte c.in-Some.rest.now c.in-Some.ensures no_mark no_bracket no_brace) c.read_scalar.ensures.read

pub read_value-returns-in_default-byte-clause-nests : goal.read_value-returns-in_default-byte-clause-nests
read_value-returns-in_default-byte-clause-nests t c = scalar-nests c.args.levels c.args.bytes.now c.read_scalar.result c.read_scalar.ensures.read

pub read_value-returns-in_err-content-in-34-clause-read : goal.read_value-returns-in_err-content-in-34-clause-read
read_value-returns-in_err-content-in-34-clause-read t c =
    let step = value_at-string c.args.bytes.now c.in-Some.byte c.in-Some.rest.now c.in-Some.ensures c.in-34.is in
    let p = err_from_is_err_and c.from_residual.result c.from_residual.ensures.1 in
    rw (p.1, p.2) (Refuses-passed c.in_err-content-in-34.field-0.0 (content_at c.in-Some.rest.now) (value_at c.args.bytes.now) (λ e. step ∙ ap (read_map string) e) c.in_err-content-in-34.ensures.read)

pub read_value-returns-in_ok-content-in-34-clause-read : goal.read_value-returns-in_ok-content-in-34-clause-read
read_value-returns-in_ok-content-in-34-clause-read t c =
    value_at-string c.args.bytes.now c.in-Some.byte c.in-Some.rest.now c.in-Some.ensures c.in-34.is ∙ ap (read_map string) c.in_ok-content-in-34.ensures.read ∙ search (rules, the_lemmas)

pub read_value-returns-else-levels-eq0-clause-read : goal.read_value-returns-else-levels-eq0-clause-read
read_value-returns-else-levels-eq0-clause-read t c =
    let step = value_at-array c.args.bytes.now c.in-Some.byte c.in-Some.rest.now c.in-Some.ensures c.in-91.is in
    rw step (c.array_of.ensures.read (list_by no_trees 0x5D values_at c.in-Some.rest.now) c.read_items-filled.ensures.read)

pub read_value-returns-else-levels-eq0-clause-no_longer : goal.read_value-returns-else-levels-eq0-clause-no_longer
read_value-returns-else-levels-eq0-clause-no_longer t c =
    let whole : length c.args.bytes.now ≡ suc (length c.in-Some.rest.now) = ap length c.in-Some.ensures in
    c.array_of.ensures.no_longer (length c.in-Some.rest.now) (length c.args.bytes.now) (omega arith) c.read_items-filled.ensures.no_longer

pub read_value-returns-else-levels-eq0-clause-nests : goal.read_value-returns-else-levels-eq0-clause-nests
read_value-returns-else-levels-eq0-clause-nests t c =
    let levels : suc (c.args.levels - 1) ≡ c.args.levels = omega arith in
    subst (λ (n : ℕ). IfOk c.array_of.result (λ p. Nests n (json_view p.0))) levels (c.array_of.ensures.nests (c.args.levels - 1) c.read_items-filled.ensures.nests)

pub read_value-returns-else-levels-eq0-2-clause-read : goal.read_value-returns-else-levels-eq0-2-clause-read
read_value-returns-else-levels-eq0-2-clause-read t c =
    let step = value_at-object c.args.bytes.now c.in-Some.byte c.in-Some.rest.now c.in-Some.ensures c.in-123.is in
    rw step (c.object_of.ensures.read (list_by no_pairs 0x7D members_at c.in-Some.rest.now) c.read_members-filled.ensures.read)

pub read_value-returns-else-levels-eq0-2-clause-no_longer : goal.read_value-returns-else-levels-eq0-2-clause-no_longer
read_value-returns-else-levels-eq0-2-clause-no_longer t c =
    let whole : length c.args.bytes.now ≡ suc (length c.in-Some.rest.now) = ap length c.in-Some.ensures in
    c.object_of.ensures.no_longer (length c.in-Some.rest.now) (length c.args.bytes.now) (omega arith) c.read_members-filled.ensures.no_longer

pub read_value-returns-else-levels-eq0-2-clause-nests : goal.read_value-returns-else-levels-eq0-2-clause-nests
read_value-returns-else-levels-eq0-2-clause-nests t c =
    let levels : suc (c.args.levels - 1) ≡ c.args.levels = omega arith in
    subst (λ (n : ℕ). IfOk c.object_of.result (λ p. Nests n (json_view p.0))) levels (c.object_of.ensures.nests (c.args.levels - 1) c.read_members-filled.ensures.nests)

pub read_member-returns-in_err-key-clause-read : goal.read_member-returns-in_err-key-clause-read
read_member-returns-in_err-key-clause-read t c =
    let p = err_from_is_err_and c.from_residual.result c.from_residual.ensures.1 in
    rw (p.1, p.2) (Refuses-passed c.in_err-key.field-0.0 (key_at c.args.bytes.now) (member_by value_at c.args.bytes.now) (λ e. member-no_key value_at c.args.bytes.now e) c.in_err-key.ensures.read)

pub read_member-returns-in_err-value-clause-read : goal.read_member-returns-in_err-value-clause-read
read_member-returns-in_err-value-clause-read t c =
    let step = member-key value_at c.args.bytes.now c.in_ok-key.key.now c.in_ok-key.rest.now c.in_ok-key.ensures.read in
    let p = err_from_is_err_and c.from_residual-in_err-value.result c.from_residual-in_err-value.ensures.1 in
    rw (p.1, p.2) (Refuses-passed c.in_err-value.field-0.0 (spaced value_at c.in_ok-key.rest.now) (member_by value_at c.args.bytes.now) (λ e. step ∙ ap (read_map (λ t. (c.in_ok-key.key.now, t))) e) c.in_err-value.ensures.read)

pub read_member-returns-clause-read : goal.read_member-returns-clause-read
read_member-returns-clause-read t c =
    member-key value_at c.args.bytes.now c.in_ok-key.key.now c.in_ok-key.rest.now c.in_ok-key.ensures.read ∙ ap (read_map (λ t. (c.in_ok-key.key.now, t))) c.in_ok-value.ensures.read ∙ search (rules, the_lemmas)

pub read_items-loop-item-init : goal.read_items-loop-item-init
read_items-loop-item-init t c =
    record {
      same = list-start tree no_trees 93 values_at _ c.args.bytes.now c.skip_ws.result.now (ap (map json_view) c.requires) c.skip_ws.ensures.rest c.after_byte.ensures.rest c.in_default.is;
      no_longer = omega arith;
      nest = subst (λ (ys : List Json). AllNest c.args.levels (trees_of (map json_view ys))) (sym c.requires) tt;
    }

pub read_items-returns-in_err-item-clause-read : goal.read_items-returns-in_err-item-clause-read
read_items-returns-in_err-item-clause-read t c =
    let left = c.loop-item.left.now in
    let p = err_from_is_err_and c.from_residual.result c.from_residual.ensures.1 in
    rw (p.1, p.2)
    (Refuses-passed c.in_err-item.field-0.0 (spaced value_at left) (list_by no_trees 93 values_at c.args.bytes.now)
    (λ e. list-no_part (spaced value_at) tree no_trees 93 values_at values_at-is _ left _ c.loop-item.invariant.same e) c.in_err-item.ensures.read)

pub read_items-returns-in_err-more-clause-read : goal.read_items-returns-in_err-more-clause-read
read_items-returns-in_err-more-clause-read t c =
    let left = c.loop-item.left.now in
    let rest = c.in_ok-item.rest.now in
    let p = err_from_is_err_and c.from_residual-in_err-more.result c.from_residual-in_err-more.ensures.1 in
    rw (p.1, p.2)
    (Refuses-passed c.in_err-more.field-0.0 (ending_at 93 rest) (list_by no_trees 93 values_at c.args.bytes.now)
    (λ e. list-no_end (spaced value_at) tree no_trees 93 values_at values_at-is _ left (json_view c.in_ok-item.item) rest _ c.loop-item.invariant.same c.in_ok-item.ensures.read e) c.in_err-more.ensures.read)

pub read_items-returns-then-not-more-clause-read : goal.read_items-returns-then-not-more-clause-read
read_items-returns-then-not-more-clause-read t c =
    let last : c.in_ok-more.more ≡ false = search rules in
    let ys = map json_view c.push.new.self.items in
    list-end (spaced value_at) tree no_trees 93 values_at values_at-is _ ys c.loop-item.left.now (json_view c.in_ok-item.item) c.in_ok-item.rest.now c.in_ok-more.rest.now _
    c.loop-item.invariant.same c.in_ok-item.ensures.read (c.in_ok-more.ensures.read ∙ ap (λ b. Some (b, c.in_ok-more.rest.now)) last) (map-pushed json_view c.loop-item.items.items c.push.new.self.items c.in_ok-item.item c.in_ok-push.ensures.items)
    ∙ ap (λ l. Some (l, c.in_ok-more.rest.now)) (sym (trees-onto ys))

pub read_items-returns-then-not-more-clause-nests : goal.read_items-returns-then-not-more-clause-nests
read_items-returns-then-not-more-clause-nests t c =
    let all = map-pushed json_view c.loop-item.items.items c.push.new.self.items c.in_ok-item.item c.in_ok-push.ensures.items in
    subst (λ (ys : List Tree). AllNest c.args.levels (trees_of ys)) (sym all)
    (all-push c.args.levels (map json_view c.loop-item.items.items) (json_view c.in_ok-item.item) c.loop-item.invariant.nest c.in_ok-item.ensures.nests)

pub read_items-loop-item-preserved : goal.read_items-loop-item-preserved
read_items-loop-item-preserved t c =
    let all = map-pushed json_view c.loop-item.items.items c.push.new.self.items c.in_ok-item.item c.in_ok-push.ensures.items in
    let more : c.in_ok-more.more ≡ true = search rules in
    record {
      same = list-more (spaced value_at) tree no_trees 93 values_at values_at-is _ _ c.loop-item.left.now (json_view c.in_ok-item.item) c.in_ok-item.rest.now c.in_ok-more.rest.now _
          c.loop-item.invariant.same c.in_ok-item.ensures.read (c.in_ok-more.ensures.read ∙ ap (λ b. Some (b, c.in_ok-more.rest.now)) more) all;
      no_longer = search rules;
      nest = subst (λ (ys : List Tree). AllNest c.args.levels (trees_of ys)) (sym all)
          (all-push c.args.levels (map json_view c.loop-item.items.items) (json_view c.in_ok-item.item) c.loop-item.invariant.nest c.in_ok-item.ensures.nests);
    }

pub read_members-loop-member-init : goal.read_members-loop-member-init
read_members-loop-member-init t c =
    let none = c.in_ok-reserve.ensures.items ∙ c.requires in
    record {
      same = list-start add_pair no_pairs 125 members_at _ c.args.bytes.now c.skip_ws.result.now (ap (map member_view) none) c.skip_ws.ensures.rest c.after_byte.ensures.rest c.in_default.is;
      no_longer = omega arith;
      nest = subst (λ (ys : List Member). MembersNest c.args.levels (pairs_of (map member_view ys))) (sym none) tt;
    }

pub read_members-returns-in_err-member-clause-read : goal.read_members-returns-in_err-member-clause-read
read_members-returns-in_err-member-clause-read t c =
    let left = c.loop-member.left.now in
    let p = err_from_is_err_and c.from_residual-in_err-member.result c.from_residual-in_err-member.ensures.1 in
    rw (p.1, p.2)
    (Refuses-passed c.in_err-member.field-0.0 (member_by value_at left) (list_by no_pairs 125 members_at c.args.bytes.now)
    (λ e. list-no_part (member_by value_at) add_pair no_pairs 125 members_at members_at-is _ left _ c.loop-member.invariant.same e) c.in_err-member.ensures.read)

pub read_members-returns-in_err-more-clause-read : goal.read_members-returns-in_err-more-clause-read
read_members-returns-in_err-more-clause-read t c =
    let left = c.loop-member.left.now in
    let rest = c.in_ok-member.rest.now in
    let p = err_from_is_err_and c.from_residual-in_err-more.result c.from_residual-in_err-more.ensures.1 in
    rw (p.1, p.2)
    (Refuses-passed c.in_err-more.field-0.0 (ending_at 125 rest) (list_by no_pairs 125 members_at c.args.bytes.now)
    (λ e. list-no_end (member_by value_at) add_pair no_pairs 125 members_at members_at-is _ left (member_view c.in_ok-member.member) rest _ c.loop-member.invariant.same c.in_ok-member.ensures.read e) c.in_err-more.ensures.read)

pub read_members-returns-then-not-more-clause-read : goal.read_members-returns-then-not-more-clause-read
read_members-returns-then-not-more-clause-read t c =
    let last : c.in_ok-more.more ≡ false = search rules in
    let ys = map member_view c.push.new.self.items in
    list-end (member_by value_at) add_pair no_pairs 125 members_at members_at-is _ ys c.loop-member.left.now (member_view c.in_ok-member.member) c.in_ok-member.rest.now c.in_ok-more.rest.now _
    c.loop-member.invariant.same c.in_ok-member.ensures.read (c.in_ok-more.ensures.read ∙ ap (λ b. Some (b, c.in_ok-more.rest.now)) last) (map-pushed member_view c.loop-member.members.items c.push.new.self.items c.in_ok-member.member c.in_ok-push.ensures.items)
    ∙ ap (λ l. Some (l, c.in_ok-more.rest.now)) (sym (pairs-onto ys))

pub read_members-returns-then-not-more-clause-nests : goal.read_members-returns-then-not-more-clause-nests
read_members-returns-then-not-more-clause-nests t c =
    let all = map-pushed member_view c.loop-member.members.items c.push.new.self.items c.in_ok-member.member c.in_ok-push.ensures.items in
    subst (λ (ys : List (List ℕ × Tree)). MembersNest c.args.levels (pairs_of ys)) (sym all)
    (members-push c.args.levels (map member_view c.loop-member.members.items) (member_view c.in_ok-member.member) c.loop-member.invariant.nest c.in_ok-member.ensures.nests)

pub read_members-loop-member-preserved : goal.read_members-loop-member-preserved
read_members-loop-member-preserved t c =
    let all = map-pushed member_view c.loop-member.members.items c.push.new.self.items c.in_ok-member.member c.in_ok-push.ensures.items in
    let more : c.in_ok-more.more ≡ true = search rules in
    record {
      same = list-more (member_by value_at) add_pair no_pairs 125 members_at members_at-is _ _ c.loop-member.left.now (member_view c.in_ok-member.member) c.in_ok-member.rest.now c.in_ok-more.rest.now _
          c.loop-member.invariant.same c.in_ok-member.ensures.read (c.in_ok-more.ensures.read ∙ ap (λ b. Some (b, c.in_ok-more.rest.now)) more) all;
      no_longer = search rules;
      nest = subst (λ (ys : List (List ℕ × Tree)). MembersNest c.args.levels (pairs_of ys)) (sym all)
          (members-push c.args.levels (map member_view c.loop-member.members.items) (member_view c.in_ok-member.member) c.loop-member.invariant.nest c.in_ok-member.ensures.nests);
    }
