-- The key comes to a group with room, and so to all blocks.
use Rattle.std.proofs.Common.{rules, ◌≡◌, ℕ, ◌≤◌, List, [], ◌∷◌, ◌++◌, length, get_or, set, ◌∙◌, ap, sym, subst, arith}
use Rattle.std.specs.List.{insert}
use Rattle.std.proofs.lemmas.List.{set-get_or}
use Rattle.std.proofs.lemmas.Result.{on_err_weaker, on_ok_weaker}
use Rattle.block_index.specs.Blocks.{AreFilled, keys_of}
use Rattle.block_index.specs.Edit.{Edits}
use Rattle.block_index.specs.Groups.{index_of}
use Rattle.block_index.proofs.Edited.{edits_first}
use Rattle.block_index.proofs.Grouped.{filled_group, groups_put, inside_read, put_lifted, room_read}
use Rattle.block_index.proofs.edit.put_in.Goals as goal

module _ {K : Type 0} where
  -- the first key of all
  first_put : (gs put : List (List (List K))) (g b at : ℕ) (key : K) → length gs ≡ 0 → put ≡ gs ++ ((key ∷ []) ∷ []) ∷ [] → index_of gs g b ≤ length (keys_of gs) → at ≤ length (get_or (keys_of gs) (index_of gs g b) [])
      → Edits (keys_of gs) (keys_of put) (index_of gs g b) (insert (get_or (keys_of gs) (index_of gs g b) []) at key)
  first_put [] put g b at key none is start within =
      let first : at ≡ 0 = omega arith in
      subst (λ ps. Edits [] (keys_of ps) (index_of {K = K} [] g b) (insert [] at key)) (sym is)
      (edits_first [] (index_of {K = K} [] g b) key (insert [] at key) (omega arith) (λ some. absurd (omega (arith, some))) (ap (λ (n : ℕ). insert [] n key) first))
  first_put (h ∷ gs) put g b at key none is start within = absurd (omega arith)

pub returns-then-is_empty-clause-ok : goal.returns-then-is_empty-clause-ok
returns-then-is_empty-clause-ok g c =
    let gs = c.args.groups.now.items in
    let none : length gs ≡ 0 = search rules in
    first_put gs c.push.new.self.items c.args.position.group c.args.position.block c.args.position.at c.args.key none (c.in_ok-push.ensures.items ∙ ap (λ one. gs ++ one ∷ []) c.in_ok-one.ensures) c.requires.start c.requires.within

pub put_in-requires-clause-filled : goal.put_in-requires-clause-filled
put_in-requires-clause-filled g c =
    let gs = c.make_room.new.groups.items in
    let room = c.in_ok-room.room in
    let is = (inside_read gs room.group room.block (index_of c.args.groups.now.items c.args.position.group c.args.position.block) c.index_mut.result.now c.in_ok-room.ensures.room c.index_mut.ensures.value).0 in
    subst AreFilled (sym is) (filled_group gs room.group (subst AreFilled (sym c.in_ok-room.ensures.blocks) c.requires.filled))

pub put_in-requires-clause-within : goal.put_in-requires-clause-within
put_in-requires-clause-within g c =
    room_read (keys_of c.args.groups.now.items) c.make_room.new.groups.items c.in_ok-room.room.group c.in_ok-room.room.block (index_of c.args.groups.now.items c.args.position.group c.args.position.block) c.args.position.at c.index_mut.result.now c.in_ok-room.ensures.blocks c.in_ok-room.ensures.room c.index_mut.ensures.value c.requires.within

pub returns-clause-ok : goal.returns-clause-ok
returns-clause-ok g c =
    on_ok_weaker c.put_in.result
    (put_lifted (keys_of c.args.groups.now.items) c.make_room.new.groups.items c.in_ok-room.room.group c.in_ok-room.room.block (index_of c.args.groups.now.items c.args.position.group c.args.position.block) c.args.position.at c.args.key c.index_mut.result.now c.put_in.new.self c.in_ok-room.ensures.blocks c.in_ok-room.ensures.room c.index_mut.ensures.value)
    c.put_in.ensures.ok

pub returns-clause-groups : goal.returns-clause-groups
returns-clause-groups g c =
    groups_put c.make_room.new.groups.items c.in_ok-room.room.group c.in_ok-room.room.block (index_of c.args.groups.now.items c.args.position.group c.args.position.block) c.index_mut.result.now c.put_in.new.self c.in_ok-room.ensures.groups c.in_ok-room.ensures.room c.index_mut.ensures.value c.put_in.ensures.grown.0 c.put_in.ensures.grown.1

pub returns-clause-err : goal.returns-clause-err
returns-clause-err g c =
    let gs = c.make_room.new.groups.items in
    let group = c.in_ok-room.room.group in
    on_err_weaker c.put_in.result
    (λ same. ap keys_of (ap (set gs group) (same ∙ c.index_mut.ensures.value) ∙ set-get_or gs group c.index_mut.result.now) ∙ c.in_ok-room.ensures.blocks)
    c.put_in.ensures.err
