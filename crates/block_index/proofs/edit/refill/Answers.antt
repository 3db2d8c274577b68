-- Two neighbours are evened out, and the groups around them stay.
use Rattle.std.proofs.Common.{◌∙◌, ◌+◌, ◌-◌, ◌<◌, [], length, min, get_or, set, ap, arith}
use Rattle.std.specs.Prelude.{is_ok}
use Rattle.std.specs.List.{insert, remove}
use Rattle.std.proofs.lemmas.List.{get_or_read}
use Rattle.std.proofs.lemmas.List.Edits.{length-remove}
use Rattle.block_index.proofs.Regrouped.{both_blocks, both_groups, evened_same, get_or_removed, one_blocks, one_groups, pair_of, when_true}
use Rattle.block_index.proofs.edit.refill.Goals as goal

pub even_out-requires-clause-few : goal.even_out-requires-clause-few
even_out-requires-clause-few g c =
    let gs = c.args.groups.now.items in
    let low = c.min-low.result in
    let l = c.requires.inside in
    let pair = pair_of gs c.args.group low c.requires (omega (arith, c.args.groups.now.ok)) (c.min-low.ensures ∙ ap (λ n. min c.args.group (n - 2)) (omega (arith, c.args.groups.now.ok))) in
    let inside = pair.inside in
    let few = pair.few in
    let within : low < length (remove gs (low + 1)) = omega (arith, length-remove gs (low + 1) pair.inside) in
    let read = c.index_mut.ensures.value ∙ ap (λ hs. get_or hs low c.index_mut.result.now) c.remove-high.ensures.items in
    let first = ap length (get_or_read (remove gs (low + 1)) low c.index_mut.result.now within read [] ∙ get_or_removed gs low pair.inside) in
    let second = ap length (get_or_read gs (low + 1) c.remove-high.result pair.inside c.remove-high.ensures.value []) in
    omega arith

pub even_out-requires-clause-many : goal.even_out-requires-clause-many
even_out-requires-clause-many g c =
    let gs = c.args.groups.now.items in
    let low = c.min-low.result in
    let l = c.requires.inside in
    let pair = pair_of gs c.args.group low c.requires (omega (arith, c.args.groups.now.ok)) (c.min-low.ensures ∙ ap (λ n. min c.args.group (n - 2)) (omega (arith, c.args.groups.now.ok))) in
    let inside = pair.inside in
    let many = pair.many in
    let within : low < length (remove gs (low + 1)) = omega (arith, length-remove gs (low + 1) pair.inside) in
    let read = c.index_mut.ensures.value ∙ ap (λ hs. get_or hs low c.index_mut.result.now) c.remove-high.ensures.items in
    let first = ap length (get_or_read (remove gs (low + 1)) low c.index_mut.result.now within read [] ∙ get_or_removed gs low pair.inside) in
    let second = ap length (get_or_read gs (low + 1) c.remove-high.result pair.inside c.remove-high.ensures.value []) in
    omega arith

pub even_out-requires-clause-near : goal.even_out-requires-clause-near
even_out-requires-clause-near g c =
    let gs = c.args.groups.now.items in
    let low = c.min-low.result in
    let l = c.requires.inside in
    let pair = pair_of gs c.args.group low c.requires (omega (arith, c.args.groups.now.ok)) (c.min-low.ensures ∙ ap (λ n. min c.args.group (n - 2)) (omega (arith, c.args.groups.now.ok))) in
    let inside = pair.inside in
    let low_near = pair.low_near in
    let high_near = pair.high_near in
    let within : low < length (remove gs (low + 1)) = omega (arith, length-remove gs (low + 1) pair.inside) in
    let read = c.index_mut.ensures.value ∙ ap (λ hs. get_or hs low c.index_mut.result.now) c.remove-high.ensures.items in
    let first = ap length (get_or_read (remove gs (low + 1)) low c.index_mut.result.now within read [] ∙ get_or_removed gs low pair.inside) in
    let second = ap length (get_or_read gs (low + 1) c.remove-high.result pair.inside c.remove-high.ensures.value []) in
    (omega arith, omega arith)

pub returns-then-len-gt0-clause-blocks : goal.returns-then-len-gt0-clause-blocks
returns-then-len-gt0-clause-blocks g c =
    let gs = c.args.groups.now.items in
    let low = c.min-low.result in
    let l = c.requires.inside in
    let pair = pair_of gs c.args.group low c.requires (omega (arith, c.args.groups.now.ok)) (c.min-low.ensures ∙ ap (λ n. min c.args.group (n - 2)) (omega (arith, c.args.groups.now.ok))) in
    let inside = pair.inside in
    let within : low < length (remove gs (low + 1)) = omega (arith, length-remove gs (low + 1) pair.inside) in
    let read = c.index_mut.ensures.value ∙ ap (λ hs. get_or hs low c.index_mut.result.now) c.remove-high.ensures.items in
    let first = get_or_read (remove gs (low + 1)) low c.index_mut.result.now within read [] ∙ get_or_removed gs low pair.inside in
    let second = get_or_read gs (low + 1) c.remove-high.result pair.inside c.remove-high.ensures.value [] in
    let evened = evened_same c.index_mut.result.now c.remove-high.result (get_or gs low []) (get_or gs (low + 1) []) c.even_out.new.self c.even_out.new.next first second c.even_out.ensures in
    let there = c.insert-there.ensures.succeeds (omega (arith, c.args.groups.now.ok, c.remove-high.ensures.len, c.remove-high.ensures.capacity)) in
    let put = when_true (is_ok c.insert-there.result) _ _ _ there c.insert-there.ensures.items ∙ ap (λ hs. insert (set hs low c.even_out.new.self) (low + 1) c.even_out.new.next) c.remove-high.ensures.items in
    both_blocks gs c.insert-there.new.self.items low c.even_out.new.self c.even_out.new.next pair.inside evened put

pub returns-then-len-gt0-clause-groups : goal.returns-then-len-gt0-clause-groups
returns-then-len-gt0-clause-groups g c =
    let gs = c.args.groups.now.items in
    let low = c.min-low.result in
    let l = c.requires.inside in
    let pair = pair_of gs c.args.group low c.requires (omega (arith, c.args.groups.now.ok)) (c.min-low.ensures ∙ ap (λ n. min c.args.group (n - 2)) (omega (arith, c.args.groups.now.ok))) in
    let inside = pair.inside in
    let within : low < length (remove gs (low + 1)) = omega (arith, length-remove gs (low + 1) pair.inside) in
    let read = c.index_mut.ensures.value ∙ ap (λ hs. get_or hs low c.index_mut.result.now) c.remove-high.ensures.items in
    let first = get_or_read (remove gs (low + 1)) low c.index_mut.result.now within read [] ∙ get_or_removed gs low pair.inside in
    let second = get_or_read gs (low + 1) c.remove-high.result pair.inside c.remove-high.ensures.value [] in
    let evened = evened_same c.index_mut.result.now c.remove-high.result (get_or gs low []) (get_or gs (low + 1) []) c.even_out.new.self c.even_out.new.next first second c.even_out.ensures in
    let there = c.insert-there.ensures.succeeds (omega (arith, c.args.groups.now.ok, c.remove-high.ensures.len, c.remove-high.ensures.capacity)) in
    let put = when_true (is_ok c.insert-there.result) _ _ _ there c.insert-there.ensures.items ∙ ap (λ hs. insert (set hs low c.even_out.new.self) (low + 1) c.even_out.new.next) c.remove-high.ensures.items in
    both_groups gs c.insert-there.new.self.items low c.even_out.new.self c.even_out.new.next pair evened (omega arith) put

pub returns-else-len-gt0-clause-blocks : goal.returns-else-len-gt0-clause-blocks
returns-else-len-gt0-clause-blocks g c =
    let gs = c.args.groups.now.items in
    let low = c.min-low.result in
    let l = c.requires.inside in
    let pair = pair_of gs c.args.group low c.requires (omega (arith, c.args.groups.now.ok)) (c.min-low.ensures ∙ ap (λ n. min c.args.group (n - 2)) (omega (arith, c.args.groups.now.ok))) in
    let inside = pair.inside in
    let within : low < length (remove gs (low + 1)) = omega (arith, length-remove gs (low + 1) pair.inside) in
    let read = c.index_mut.ensures.value ∙ ap (λ hs. get_or hs low c.index_mut.result.now) c.remove-high.ensures.items in
    let first = get_or_read (remove gs (low + 1)) low c.index_mut.result.now within read [] ∙ get_or_removed gs low pair.inside in
    let second = get_or_read gs (low + 1) c.remove-high.result pair.inside c.remove-high.ensures.value [] in
    let evened = evened_same c.index_mut.result.now c.remove-high.result (get_or gs low []) (get_or gs (low + 1) []) c.even_out.new.self c.even_out.new.next first second c.even_out.ensures in
    one_blocks gs (set c.remove-high.new.self.items low c.even_out.new.self) low c.even_out.new.self c.even_out.new.next pair.inside evened (omega arith) (ap (λ hs. set hs low c.even_out.new.self) c.remove-high.ensures.items)

pub returns-else-len-gt0-clause-groups : goal.returns-else-len-gt0-clause-groups
returns-else-len-gt0-clause-groups g c =
    let gs = c.args.groups.now.items in
    let low = c.min-low.result in
    let l = c.requires.inside in
    let pair = pair_of gs c.args.group low c.requires (omega (arith, c.args.groups.now.ok)) (c.min-low.ensures ∙ ap (λ n. min c.args.group (n - 2)) (omega (arith, c.args.groups.now.ok))) in
    let inside = pair.inside in
    let within : low < length (remove gs (low + 1)) = omega (arith, length-remove gs (low + 1) pair.inside) in
    let read = c.index_mut.ensures.value ∙ ap (λ hs. get_or hs low c.index_mut.result.now) c.remove-high.ensures.items in
    let first = get_or_read (remove gs (low + 1)) low c.index_mut.result.now within read [] ∙ get_or_removed gs low pair.inside in
    let second = get_or_read gs (low + 1) c.remove-high.result pair.inside c.remove-high.ensures.value [] in
    let evened = evened_same c.index_mut.result.now c.remove-high.result (get_or gs low []) (get_or gs (low + 1) []) c.even_out.new.self c.even_out.new.next first second c.even_out.ensures in
    one_groups gs (set c.remove-high.new.self.items low c.even_out.new.self) low c.even_out.new.self c.even_out.new.next pair evened (ap (λ hs. set hs low c.even_out.new.self) c.remove-high.ensures.items)
