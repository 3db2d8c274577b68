-- The page that comes is put where all that it names are counted.
use Rattle.std.proofs.Common.{◌≡◌, ◌||◌, Some, Err, refl, sym, ap, ◌∙◌}
use Rattle.sorted_sets.specs.Rising.{has}
use Rattle.term_pool.specs.declared.fault.PoolFault.TheVariants.{Full}
use Rattle.entity_model.specs.{declared.id.EntityId.EntityId, EntityId.entity_cmp}
use Rattle.entity_counts.specs.Naming.{pages_naming}
use Rattle.replay_model.specs.Versions.{meaning_by}
use Rattle.shared_triples.specs.Lean.{stored_of}
use Rattle.slot_keys.proofs.Lists.{or_left}
use Rattle.fetched_pages.specs.Meaning.{meaning}
use Rattle.holders.specs.Roomed.{room_with}
use Rattle.lean_holdings.specs.{Changing.needs, Holding.counted_by, InStep.LeanState}
use Rattle.lean_holdings.proofs.{Apart.sorted_again, CountedOut.among_with, Needing.put_needs, Needing.ready_needs, Results.either_way, Results.on_err, Strange.not_itself}
use Rattle.lean_holdings.proofs.holdings.LeanHoldings.hold_parts.Goals.{After-drop}
use Rattle.lean_holdings.proofs.holdings.LeanHoldings.hold_parts.Goals as goal

pub put_page-held-requires-clause-coming : goal.put_page-held-requires-clause-coming
put_page-held-requires-clause-coming c = (
  c.in-Ok.ensures.gone,
  c.requires.come (counted_by c.make_ready.new.self.names)
      (c.in-Ok.ensures.counted c.args.wanted.id ∙ ap (λ ids. has entity_cmp c.args.wanted.id ids || has entity_cmp c.args.wanted.id (counted_by c.args.self.now.names)) c.as_slice.ensures.value
      ∙ ap (λ b. b || has entity_cmp c.args.wanted.id (counted_by c.args.self.now.names))
      ((c.requires.come (counted_by c.args.self.now.names) refl).names c.args.wanted.id ∙ not_itself c.args.wanted.id (meaning c.args.wanted.version c.args.wanted.id c.args.wanted.rev c.args.page.now))),
  λ y there. c.in-Ok.ensures.counted y ∙ or_left (has entity_cmp y c.as_slice.result.now) _ (ap (has entity_cmp y) c.as_slice.ensures.value ∙ there),
)

pub returns-in-Ok-clause-records : goal.returns-in-Ok-clause-records
returns-in-Ok-clause-records c = rw c.count_out_rest.ensures.records (rw c.make_ready.ensures.records at c.put_page-held.ensures.records)

pub returns-in-Ok-clause-by_two : goal.returns-in-Ok-clause-by_two
returns-in-Ok-clause-by_two c = rw c.count_out_rest.ensures.by_two (rw c.make_ready.ensures.by_two at c.put_page-held.ensures.by_two)

pub returns-in-Ok-clause-change : goal.returns-in-Ok-clause-change
returns-in-Ok-clause-change c = rw (c.count_out_rest.ensures.by_two, c.count_out_rest.ensures.records) (rw (c.make_ready.ensures.by_two, c.make_ready.ensures.records) at c.put_page-held.ensures.change)

pub returns-in-Ok-clause-limit : goal.returns-in-Ok-clause-limit
returns-in-Ok-clause-limit c = c.count_out_rest.ensures.limit ∙ c.put_page-held.ensures.limit ∙ c.make_ready.ensures.limit

pub returns-in-Ok-clause-err : goal.returns-in-Ok-clause-err
returns-in-Ok-clause-err c = on_err (λ same. c.count_out_rest.ensures.records ∙ ap (λ (h : LeanState). h.records) same ∙ c.make_ready.ensures.records) c.put_page-held.result c.put_page-held.ensures.err

pub returns-in-Ok-clause-err_by_two : goal.returns-in-Ok-clause-err_by_two
returns-in-Ok-clause-err_by_two c = on_err (λ same. c.count_out_rest.ensures.by_two ∙ ap (λ (h : LeanState). h.by_two) same ∙ c.make_ready.ensures.by_two) c.put_page-held.result c.put_page-held.ensures.err

pub returns-in-Ok-clause-err_named : goal.returns-in-Ok-clause-err_named
returns-in-Ok-clause-err_named c = on_err (λ same x. c.count_out_rest.ensures.named x ∙ ap (λ (h : LeanState). pages_naming h.names x) same ∙ c.make_ready.ensures.named x) c.put_page-held.result c.put_page-held.ensures.err

-- the entities that are counted then
counted : (c : After-drop) (y : EntityId) → has entity_cmp y (counted_by c.make_ready.new.self.names) ≡ (has entity_cmp y c.args.come.now.names.items || has entity_cmp y (counted_by c.args.self.now.names))
counted c y = c.in-Ok.ensures.counted y ∙ ap (λ ids. has entity_cmp y ids || has entity_cmp y (counted_by c.args.self.now.names)) c.as_slice.ensures.value

-- the room that is needed once all are counted
room : (c : After-drop) → room_with (stored_of (counted_by c.make_ready.new.self.names) (meaning_by meaning c.make_ready.new.self.by_two)) c.make_ready.new.self.records
    (stored_of (counted_by c.make_ready.new.self.names) (meaning c.args.wanted.version) c.args.wanted.id c.args.wanted.rev c.args.page.now)
    ≡ needs c.args.self.now c.args.wanted.version c.args.wanted.id (Some (record { revision = c.args.wanted.rev; content = c.args.page.now }))
room c =
    let names_are = (c.requires.come (counted_by c.args.self.now.names) refl).names in
    put_needs c.args.self.now c.args.wanted.version c.args.wanted.id (Some (record { revision = c.args.wanted.rev; content = c.args.page.now })) c.args.come.now.names.items
    names_are c.make_ready.new.self _ c.make_ready.ensures.records c.make_ready.ensures.by_two (counted c)
    (sorted_again c.args.come.now.parts.shared _ (c.requires.come (counted_by c.make_ready.new.self.names)
    (counted c c.args.wanted.id ∙ ap (λ b. b || has entity_cmp c.args.wanted.id (counted_by c.args.self.now.names)) (names_are c.args.wanted.id ∙ not_itself c.args.wanted.id _))).stored)

pub returns-in-Ok-clause-full : goal.returns-in-Ok-clause-full
returns-in-Ok-clause-full c = rw (room c, c.make_ready.ensures.limit) at c.put_page-held.ensures.full

pub returns-in-Ok-clause-within : goal.returns-in-Ok-clause-within
returns-in-Ok-clause-within c = rw (room c, c.make_ready.ensures.limit) at c.put_page-held.ensures.within

pub returns-in-Err-clause-full : goal.returns-in-Err-clause-full
returns-in-Err-clause-full c is =
    let same : c.in-Err.fault ≡ Full = cc in
    ready_needs c.args.self.now c.args.wanted.version c.args.wanted.id (Some (record { revision = c.args.wanted.rev; content = c.args.page.now })) c.args.come.now.names.items
    (c.requires.come (counted_by c.args.self.now.names) refl).names c.args.self.now.limit (rw c.as_slice.ensures.value at c.in-Err.ensures.full (ap (λ fault. Err fault) same))

pub returns-in-Ok-clause-counted : goal.returns-in-Ok-clause-counted
returns-in-Ok-clause-counted c x there =
    let same : counted_by c.put_page-held.new.self.names ≡ counted_by c.make_ready.new.self.names =
    either_way c.put_page-held.result c.put_page-held.ensures.counted (on_err (λ same. ap (λ (h : LeanState). counted_by h.names) same) c.put_page-held.result c.put_page-held.ensures.err) in
    among_with (counted_by c.args.self.now.names) c.args.come.now.names.items c.args.wanted.id x
    (meaning c.args.wanted.version c.args.wanted.id c.args.wanted.rev c.args.page.now) (c.requires.come (counted_by c.args.self.now.names) refl).names
    (rw c.as_slice.ensures.value at c.make_ready.ensures.among x (ap (has entity_cmp x) (sym same) ∙ c.count_out_rest.ensures.fewer x there))

pub returns-in-Err-clause-counted : goal.returns-in-Err-clause-counted
returns-in-Err-clause-counted c x there =
    among_with (counted_by c.args.self.now.names) c.args.come.now.names.items c.args.wanted.id x
    (meaning c.args.wanted.version c.args.wanted.id c.args.wanted.rev c.args.page.now) (c.requires.come (counted_by c.args.self.now.names) refl).names
    (rw c.as_slice.ensures.value at c.make_ready.ensures.among x (c.count_out_all.ensures.fewer x there))
