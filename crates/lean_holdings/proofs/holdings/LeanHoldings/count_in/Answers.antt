-- The entity is counted with all of its page, or all is as it was.
use Rattle.std.proofs.Common.{◌≡◌, ◌<◌, Err, sym, ap, subst, ◌∙◌, arith}
use Rattle.std.specs.FinMap as map
use Rattle.sorted_sets.specs.Rising.{has}
use Rattle.sorted_sets.proofs.Rising.{has-sorted}
use Rattle.rdf_term.specs.{declared.triple.Triple.Triple, Order.triple_cmp, Order.triple_cmp-total}
use Rattle.term_pool.specs.declared.fault.PoolFault.TheVariants.{Full}
use Rattle.triple_catalog.specs.Room.{room_for}
use Rattle.triple_store.specs.StoreState.{counts_in, limit_of}
use Rattle.replay_model.specs.{Records.Records, Union.Meaning, Versions.meaning_by}
use Rattle.fetched_pages.specs.Meaning.{meaning}
use Rattle.shared_triples.specs.Lean.{triples_of}
use Rattle.lean_holdings.specs.{Holding.counted_by, Kept.seen}
use Rattle.lean_holdings.proofs.CountedIn.{countable, counted_step, refused_step}
use Rattle.lean_holdings.proofs.Rooming.{room_more}
use Rattle.lean_holdings.proofs.holdings.LeanHoldings.count_in.Goals.{Joined-counted, in-Ok-counted, in-Err}
use Rattle.lean_holdings.proofs.holdings.LeanHoldings.count_in.Goals as goal

abbrev means : Joined-counted → Meaning Triple
means c = meaning_by meaning c.self.inside.holders.by_two

abbrev records : Joined-counted → Records
records c = seen c.self.inside.pages c.self.inside.table.records

meant : (c : Joined-counted) (t : Triple) → has triple_cmp t c.in-Ok.page ≡ has triple_cmp t (triples_of (means c) (records c) c.args.id)
meant c t = sym (has-sorted triple_cmp-total t c.in-Ok.page) ∙ ap (has triple_cmp t) (rw (← c.self.view_is) at c.in-Ok.ensures.value)

pub count_page-counted-requires-clause-may_come : goal.count_page-counted-requires-clause-may_come
count_page-counted-requires-clause-may_come c = record {
  fit = c.in-Ok.ensures.fit;
  countable =
      let few : map.len c.self.inside.table.records < 18446744073709551615 = omega arith in
      λ t _. countable (meaning_by meaning c.self.inside.holders.by_two) c.self.inside.store c.self.inside.pages c.self.inside.names c.self.inside.table.records c.self.invariant.kept _ few t;
}

pub invariant_of-self : goal.invariant_of-self
invariant_of-self c = elim c.match-counted.branch [
  | in-Ok-counted w ↦
      counted_step c.self.inside.store c.count_page-counted.new.store c.self.inside.pages c.self.inside.names c.self.inside.holders c.self.inside.table.records c.self.invariant
      c.count_page-counted.new.names c.count_page-counted.new.table.records
      (w.in-Ok-counted.ensures.counted (meaning_by meaning c.self.inside.holders.by_two) c.self.inside.pages c.self.invariant.kept (meant c))
      (c.count_page-counted.ensures.seen c.self.inside.pages)
  | in-Err w ↦
      rw (w.in-Err.ensures.err_table, w.in-Err.ensures.err_names)
      (refused_step c.self.inside.store c.count_page-counted.new.store c.self.inside.pages c.self.inside.names c.self.inside.holders c.self.inside.table.records c.self.invariant
      c.count_page-counted.ensures.rest.sound w.in-Err.ensures.err c.count_page-counted.ensures.rest.keeps)
]

pub returns-clause-full : goal.returns-clause-full
returns-clause-full c is = elim c.match-counted.branch [
  | in-Ok-counted w ↦ cc
  | in-Err w ↦
      let same : w.in-Err.fault ≡ Full = cc in
      let few : limit_of c.self.inside.store < room_for (counts_in c.self.inside.store) c.in-Ok.page = w.in-Err.ensures.full (ap (λ fault. Err fault) same) in
      let a = c.self.inside in
      rw (← c.self.view_is)
      (subst (λ n. limit_of a.store < n) (room_more (meaning_by meaning a.holders.by_two) (counted_by a.names) a.store (seen a.pages a.table.records) c.self.invariant.kept.sound c.self.invariant.kept.lean c.in-Ok.page _ (meant c)) few)
]
