-- What goes has two owners, what comes has one, and then what goes has none.
use Rattle.replica.proofs.AtOnce.{adds_come, as_before, has_room, keys_at_last, keys_back, keys_second, keys_third, once_at_last, once_still, removes_come, same_keys, stored_keys}
use Rattle.replica.proofs.applying.apply_at_once.Goals as goal

pub gain-requires : goal.gain-requires
gain-requires c = removes_come c.args.store.now c.args.item.now c.requires.once c.requires.sound

pub returns-in_default-clause-once : goal.returns-in_default-clause-once
returns-in_default-clause-once c =
    once_still c.args.store.now c.gain.new.store c.requires.once c.in_default.ensures.rest.sound c.in_default.ensures.none

pub returns-in_default-clause-same : goal.returns-in_default-clause-same
returns-in_default-clause-same c = λ _.
    same_keys c.args.store.now c.gain.new.store c.requires.once c.in_default.ensures.rest.sound c.in_default.ensures.none

pub gain-requires-2 : goal.gain-requires-2
gain-requires-2 c =
    adds_come c.args.store.now c.gain.new.store c.args.item.now c.in-Some.gone.rising.items c.requires.once c.requires.sound c.in-Some.ensures.some c.in-Some.ensures.rest

pub release-requires : goal.release-requires
release-requires c =
    let up = c.in-Some.ensures.some in
    let more = rw c.len.ensures at c.in-Some-gain.ensures.some in
    stored_keys c.gain-2.new.store c.in-Some.gone.rising.items c.args.item.now.removes
    (keys_second c.args.store.now c.gain.new.store c.args.item.now c.in-Some.gone.rising.items c.requires.once c.requires.sound up c.in-Some.ensures.rest c.gain-2.new.store c.in-Some-gain.came.rising.items more c.in-Some-gain.ensures.rest)

pub release-requires-in-Some-gain : goal.release-requires-in-Some-gain
release-requires-in-Some-gain c =
    let up = c.in-Some.ensures.some in
    let more = rw c.len.ensures at c.in-Some-gain.ensures.some in
    let second = keys_second c.args.store.now c.gain.new.store c.args.item.now c.in-Some.gone.rising.items c.requires.once c.requires.sound up c.in-Some.ensures.rest c.gain-2.new.store c.in-Some-gain.came.rising.items more c.in-Some-gain.ensures.rest in
    stored_keys c.release.new.store c.in-Some.gone.rising.items c.args.item.now.removes
    (keys_third c.args.store.now c.gain.new.store c.args.item.now c.in-Some.gone.rising.items c.requires.once c.requires.sound up c.in-Some.ensures.rest c.gain-2.new.store c.in-Some-gain.came.rising.items more c.in-Some-gain.ensures.rest
    c.release.new.store (c.release.ensures.owners c.args.item.now.removes second) c.release.ensures.rest)

pub release-requires-in-None : goal.release-requires-in-None
release-requires-in-None c =
    stored_keys c.gain-2.new.store c.in-Some.gone.rising.items c.args.item.now.removes
    (keys_back c.args.store.now c.gain.new.store c.args.item.now c.in-Some.gone.rising.items c.requires.once c.requires.sound c.in-Some.ensures.some c.in-Some.ensures.rest c.gain-2.new.store c.in-None.ensures.none c.in-None.ensures.rest)

pub returns-in-Some-gain-clause-once : goal.returns-in-Some-gain-clause-once
returns-in-Some-gain-clause-once c =
    let up = c.in-Some.ensures.some in
    let more = rw c.len.ensures at c.in-Some-gain.ensures.some in
    let second = keys_second c.args.store.now c.gain.new.store c.args.item.now c.in-Some.gone.rising.items c.requires.once c.requires.sound up c.in-Some.ensures.rest c.gain-2.new.store c.in-Some-gain.came.rising.items more c.in-Some-gain.ensures.rest in
    let down = c.release.ensures.owners c.args.item.now.removes second in
    let third = keys_third c.args.store.now c.gain.new.store c.args.item.now c.in-Some.gone.rising.items c.requires.once c.requires.sound up c.in-Some.ensures.rest c.gain-2.new.store c.in-Some-gain.came.rising.items more c.in-Some-gain.ensures.rest
    c.release.new.store down c.release.ensures.rest in
    once_at_last c.args.store.now c.gain.new.store c.args.item.now c.in-Some.gone.rising.items c.requires.once c.requires.sound up c.in-Some.ensures.rest c.gain-2.new.store c.in-Some-gain.came.rising.items more c.in-Some-gain.ensures.rest
    c.release.new.store down c.release.ensures.rest c.release-in-Some-gain.new.store (c.release-in-Some-gain.ensures.owners c.args.item.now.removes third) c.release-in-Some-gain.ensures.rest

pub returns-in-Some-gain-clause-done : goal.returns-in-Some-gain-clause-done
returns-in-Some-gain-clause-done c = λ _.
    let up = c.in-Some.ensures.some in
    let more = rw c.len.ensures at c.in-Some-gain.ensures.some in
    let second = keys_second c.args.store.now c.gain.new.store c.args.item.now c.in-Some.gone.rising.items c.requires.once c.requires.sound up c.in-Some.ensures.rest c.gain-2.new.store c.in-Some-gain.came.rising.items more c.in-Some-gain.ensures.rest in
    let down = c.release.ensures.owners c.args.item.now.removes second in
    let third = keys_third c.args.store.now c.gain.new.store c.args.item.now c.in-Some.gone.rising.items c.requires.once c.requires.sound up c.in-Some.ensures.rest c.gain-2.new.store c.in-Some-gain.came.rising.items more c.in-Some-gain.ensures.rest
    c.release.new.store down c.release.ensures.rest in
    keys_at_last c.args.store.now c.gain.new.store c.args.item.now c.in-Some.gone.rising.items c.requires.once c.requires.sound up c.in-Some.ensures.rest c.gain-2.new.store c.in-Some-gain.came.rising.items more c.in-Some-gain.ensures.rest
    c.release.new.store down c.release.ensures.rest c.release-in-Some-gain.new.store (c.release-in-Some-gain.ensures.owners c.args.item.now.removes third) c.release-in-Some-gain.ensures.rest

pub returns-in-Some-gain-clause-within : goal.returns-in-Some-gain-clause-within
returns-in-Some-gain-clause-within c = λ _.
    let more = rw c.len.ensures at c.in-Some-gain.ensures.some in
    has_room c.args.store.now c.gain.new.store c.args.item.now c.in-Some.gone.rising.items c.requires.once c.requires.sound c.in-Some.ensures.some c.in-Some.ensures.rest c.gain-2.new.store c.in-Some-gain.came.rising.items more c.in-Some-gain.ensures.rest

pub returns-in-None-clause-once : goal.returns-in-None-clause-once
returns-in-None-clause-once c =
    let up = c.in-Some.ensures.some in
    let back = keys_back c.args.store.now c.gain.new.store c.args.item.now c.in-Some.gone.rising.items c.requires.once c.requires.sound up c.in-Some.ensures.rest c.gain-2.new.store c.in-None.ensures.none c.in-None.ensures.rest in
    once_still c.args.store.now c.release-in-None.new.store c.requires.once c.release-in-None.ensures.rest.sound
    (as_before c.args.store.now c.gain.new.store c.args.item.now c.in-Some.gone.rising.items c.requires.once c.requires.sound up c.in-Some.ensures.rest c.gain-2.new.store c.in-None.ensures.none c.in-None.ensures.rest
    c.release-in-None.new.store (c.release-in-None.ensures.owners c.args.item.now.removes back))

pub returns-in-None-clause-same : goal.returns-in-None-clause-same
returns-in-None-clause-same c = λ _.
    let up = c.in-Some.ensures.some in
    let back = keys_back c.args.store.now c.gain.new.store c.args.item.now c.in-Some.gone.rising.items c.requires.once c.requires.sound up c.in-Some.ensures.rest c.gain-2.new.store c.in-None.ensures.none c.in-None.ensures.rest in
    same_keys c.args.store.now c.release-in-None.new.store c.requires.once c.release-in-None.ensures.rest.sound
    (as_before c.args.store.now c.gain.new.store c.args.item.now c.in-Some.gone.rising.items c.requires.once c.requires.sound up c.in-Some.ensures.rest c.gain-2.new.store c.in-None.ensures.none c.in-None.ensures.rest
    c.release-in-None.new.store (c.release-in-None.ensures.owners c.args.item.now.removes back))
