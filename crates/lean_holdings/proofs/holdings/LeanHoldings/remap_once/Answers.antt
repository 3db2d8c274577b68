-- The page is mapped anew where all that it names are counted.
use Rattle.std.proofs.Common.{◌≡◌, ◌||◌, Err, refl, sym, ap, ◌∙◌}
use Rattle.sorted_sets.specs.Rising.{has}
use Rattle.term_pool.specs.declared.fault.PoolFault.TheVariants.{Full}
use Rattle.entity_model.specs.{declared.id.EntityId.EntityId, EntityId.entity_cmp}
use Rattle.entity_counts.specs.Naming.{pages_naming}
use Rattle.replay_model.specs.{Records.record_of, Union.triples_held, Versions.meaning_by}
use Rattle.shared_triples.specs.Lean.{stored_of}
use Rattle.slot_keys.proofs.Lists.{or_left}
use Rattle.fetched_pages.specs.Meaning.{meaning}
use Rattle.holders.specs.Roomed.{room_with}
use Rattle.lean_holdings.specs.{Changing.needs, Holding.counted_by, InStep.LeanState}
use Rattle.lean_holdings.proofs.{CountedOut.among_with, Needing.put_needs, Needing.ready_needs, Results.either_way, Results.on_err, Strange.not_itself}
use Rattle.lean_holdings.proofs.holdings.LeanHoldings.remap_once.Goals.{After-drop-in-Ok-make_ready}
use Rattle.lean_holdings.proofs.holdings.LeanHoldings.remap_once.Goals as goal

pub put_again-mapped-requires-clause-come : goal.put_again-mapped-requires-clause-come
put_again-mapped-requires-clause-come c = rw c.make_ready.ensures.records
    (c.in-Ok.ensures (counted_by c.make_ready.new.self.names)
    (c.in-Ok-make_ready.ensures.counted c.args.id ∙ ap (λ ids. has entity_cmp c.args.id ids || has entity_cmp c.args.id (counted_by c.args.self.now.names)) c.as_slice.ensures.value
    ∙ ap (λ b. b || has entity_cmp c.args.id (counted_by c.args.self.now.names))
    ((c.in-Ok.ensures (counted_by c.args.self.now.names) refl).names c.args.id ∙ not_itself c.args.id _)))

pub put_again-mapped-requires-clause-known : goal.put_again-mapped-requires-clause-known
put_again-mapped-requires-clause-known c y there = c.in-Ok-make_ready.ensures.counted y ∙ or_left (has entity_cmp y c.as_slice.result.now) _ (ap (has entity_cmp y) c.as_slice.ensures.value ∙ there)

pub returns-in-Ok-make_ready-clause-records : goal.returns-in-Ok-make_ready-clause-records
returns-in-Ok-make_ready-clause-records c = c.count_out_rest.ensures.records ∙ c.put_again-mapped.ensures.records ∙ c.make_ready.ensures.records

pub returns-in-Ok-make_ready-clause-by_two : goal.returns-in-Ok-make_ready-clause-by_two
returns-in-Ok-make_ready-clause-by_two c = rw c.count_out_rest.ensures.by_two (rw c.make_ready.ensures.by_two at c.put_again-mapped.ensures.by_two)

pub returns-in-Ok-make_ready-clause-change : goal.returns-in-Ok-make_ready-clause-change
returns-in-Ok-make_ready-clause-change c = rw (c.count_out_rest.ensures.by_two, c.count_out_rest.ensures.records) (rw (c.make_ready.ensures.by_two, c.make_ready.ensures.records) at c.put_again-mapped.ensures.change)

pub returns-in-Ok-make_ready-clause-limit : goal.returns-in-Ok-make_ready-clause-limit
returns-in-Ok-make_ready-clause-limit c = c.count_out_rest.ensures.limit ∙ c.put_again-mapped.ensures.limit ∙ c.make_ready.ensures.limit

pub returns-in-Ok-make_ready-clause-err_by_two : goal.returns-in-Ok-make_ready-clause-err_by_two
returns-in-Ok-make_ready-clause-err_by_two c = on_err (λ same. c.count_out_rest.ensures.by_two ∙ ap (λ (h : LeanState). h.by_two) same ∙ c.make_ready.ensures.by_two) c.put_again-mapped.result c.put_again-mapped.ensures.err

pub returns-in-Ok-make_ready-clause-err_named : goal.returns-in-Ok-make_ready-clause-err_named
returns-in-Ok-make_ready-clause-err_named c = on_err (λ same x. c.count_out_rest.ensures.named x ∙ ap (λ (h : LeanState). pages_naming h.names x) same ∙ c.make_ready.ensures.named x) c.put_again-mapped.result c.put_again-mapped.ensures.err

-- the entities that are counted then
counted : (c : After-drop-in-Ok-make_ready) (y : EntityId) → has entity_cmp y (counted_by c.make_ready.new.self.names) ≡ (has entity_cmp y c.in-Ok.come.names.items || has entity_cmp y (counted_by c.args.self.now.names))
counted c y = c.in-Ok-make_ready.ensures.counted y ∙ ap (λ ids. has entity_cmp y ids || has entity_cmp y (counted_by c.args.self.now.names)) c.as_slice.ensures.value

-- the room that is needed once all are counted
room : (c : After-drop-in-Ok-make_ready) → room_with (stored_of (counted_by c.make_ready.new.self.names) (meaning_by meaning c.make_ready.new.self.by_two)) c.make_ready.new.self.records c.in-Ok.come.parts.shared
    ≡ needs c.args.self.now c.args.version c.args.id (record_of c.args.self.now.records c.args.id).held
room c =
    let names_are = (c.in-Ok.ensures (counted_by c.args.self.now.names) refl).names in
    put_needs c.args.self.now c.args.version c.args.id (record_of c.args.self.now.records c.args.id).held c.in-Ok.come.names.items
    names_are c.make_ready.new.self c.in-Ok.come.parts.shared c.make_ready.ensures.records c.make_ready.ensures.by_two (counted c)
    (c.in-Ok.ensures (counted_by c.make_ready.new.self.names)
    (counted c c.args.id ∙ ap (λ b. b || has entity_cmp c.args.id (counted_by c.args.self.now.names)) (names_are c.args.id ∙ not_itself c.args.id _))).stored

pub returns-in-Ok-make_ready-clause-full : goal.returns-in-Ok-make_ready-clause-full
returns-in-Ok-make_ready-clause-full c = rw (room c, c.make_ready.ensures.limit) at c.put_again-mapped.ensures.full

pub returns-in-Ok-make_ready-clause-within : goal.returns-in-Ok-make_ready-clause-within
returns-in-Ok-make_ready-clause-within c = rw (room c, c.make_ready.ensures.limit) at c.put_again-mapped.ensures.within

pub returns-in-Err-clause-full : goal.returns-in-Err-clause-full
returns-in-Err-clause-full c is =
    let same : c.in-Err.fault ≡ Full = cc in
    ready_needs c.args.self.now c.args.version c.args.id (record_of c.args.self.now.records c.args.id).held c.in-Ok.come.names.items
    (c.in-Ok.ensures (counted_by c.args.self.now.names) refl).names c.args.self.now.limit (rw c.as_slice.ensures.value at c.in-Err.ensures.full (ap (λ fault. Err fault) same))

pub returns-in-Ok-make_ready-clause-counted : goal.returns-in-Ok-make_ready-clause-counted
returns-in-Ok-make_ready-clause-counted c x there =
    let same : counted_by c.put_again-mapped.new.self.names ≡ counted_by c.make_ready.new.self.names =
    either_way c.put_again-mapped.result c.put_again-mapped.ensures.counted (on_err (λ same. ap (λ (h : LeanState). counted_by h.names) same) c.put_again-mapped.result c.put_again-mapped.ensures.err) in
    among_with (counted_by c.args.self.now.names) c.in-Ok.come.names.items c.args.id x
    (triples_held (meaning c.args.version) c.args.id (record_of c.args.self.now.records c.args.id).held) (c.in-Ok.ensures (counted_by c.args.self.now.names) refl).names
    (rw c.as_slice.ensures.value at c.make_ready.ensures.among x (ap (has entity_cmp x) (sym same) ∙ c.count_out_rest.ensures.fewer x there))

pub returns-in-Err-clause-counted : goal.returns-in-Err-clause-counted
returns-in-Err-clause-counted c x there =
    among_with (counted_by c.args.self.now.names) c.in-Ok.come.names.items c.args.id x
    (triples_held (meaning c.args.version) c.args.id (record_of c.args.self.now.records c.args.id).held) (c.in-Ok.ensures (counted_by c.args.self.now.names) refl).names
    (rw c.as_slice.ensures.value at c.make_ready.ensures.among x (c.count_out_all.ensures.fewer x there))
