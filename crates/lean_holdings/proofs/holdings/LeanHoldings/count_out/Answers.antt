-- The entity is counted no longer, or all is as it was.
use Rattle.std.proofs.Common.{◌≡◌, ◌<◌, sym, ap, ◌∙◌, arith}
use Rattle.std.specs.FinMap as map
use Rattle.sorted_sets.specs.Rising.{has}
use Rattle.sorted_sets.proofs.Rising.{has-sorted}
use Rattle.rdf_term.specs.{declared.triple.Triple.Triple, Order.triple_cmp, Order.triple_cmp-total}
use Rattle.replay_model.specs.{Records.record_of, Versions.meaning_by}
use Rattle.fetched_pages.specs.Meaning.{meaning}
use Rattle.shared_triples.specs.Lean.{stored_of, triples_of}
use Rattle.lean_holdings.specs.{Holding.counted_by, Kept.seen, Moving.ArePartsOf}
use Rattle.lean_holdings.proofs.CountedIn.{are_stored, countable, counted_step, refused_step}
use Rattle.lean_holdings.proofs.{GoingOut.gone_from, Stepping.parts_by}
use Rattle.lean_holdings.proofs.holdings.LeanHoldings.count_out.Goals.{Joined-counted, in-Ok-counted, in-Err}
use Rattle.lean_holdings.proofs.holdings.LeanHoldings.count_out.Goals as goal

are : (c : Joined-counted) → ArePartsOf (counted_by (map.remove c.self.inside.names c.args.id)) (meaning_by meaning c.self.inside.holders.by_two) c.args.id
    (record_of (seen c.self.inside.pages c.self.inside.table.records) c.args.id).held c.in-Ok.parts
are c = parts_by _ _ _ _ (sym c.version_in-version.ensures) _ _
    (rw (← c.self.view_is) at c.in-Ok.ensures (counted_by (map.remove c.self.inside.names c.args.id)) (gone_from c.self.inside.names c.args.id))

meant : (c : Joined-counted) (t : Triple) → has triple_cmp t c.shared.result.now
    ≡ has triple_cmp t (triples_of (stored_of (counted_by (map.remove c.self.inside.names c.args.id)) (meaning_by meaning c.self.inside.holders.by_two)) (seen c.self.inside.pages c.self.inside.table.records) c.args.id)
meant c t = ap (has triple_cmp t) c.shared.ensures ∙ sym (has-sorted triple_cmp-total t c.in-Ok.parts.parts.shared) ∙ ap (has triple_cmp t) (are c).stored

pub uncount_page-counted-requires-clause-may_come : goal.uncount_page-counted-requires-clause-may_come
uncount_page-counted-requires-clause-may_come c = record {
  fit = rw c.shared.ensures ((rw (← c.self.view_is) at c.in-Ok.ensures (counted_by (map.remove c.self.inside.names c.args.id)) (gone_from c.self.inside.names c.args.id)).fit);
  countable =
      let few : map.len c.self.inside.table.records < 18446744073709551615 = omega arith in
      λ t _. countable (meaning_by meaning c.self.inside.holders.by_two) c.self.inside.store c.self.inside.pages c.self.inside.names c.self.inside.table.records c.self.invariant.kept _ few t;
}

pub uncount_page-counted-requires-clause-stored : goal.uncount_page-counted-requires-clause-stored
uncount_page-counted-requires-clause-stored c =
    are_stored (meaning_by meaning c.self.inside.holders.by_two) c.self.inside.store c.self.inside.pages c.self.inside.names c.self.inside.table.records c.args.id c.self.invariant.kept

pub invariant_of-self : goal.invariant_of-self
invariant_of-self c = elim c.match-counted.branch [
  | in-Ok-counted w ↦
      counted_step c.self.inside.store c.uncount_page-counted.new.store c.self.inside.pages c.self.inside.names c.self.inside.holders c.self.inside.table.records c.self.invariant
      c.uncount_page-counted.new.names c.uncount_page-counted.new.table.records
      (w.in-Ok-counted.ensures.uncounted (meaning_by meaning c.self.inside.holders.by_two) c.self.inside.pages c.self.invariant.kept (meant c))
      (c.uncount_page-counted.ensures.seen c.self.inside.pages)
  | in-Err w ↦
      rw (w.in-Err.ensures.err_table, w.in-Err.ensures.err_names)
      (refused_step c.self.inside.store c.uncount_page-counted.new.store c.self.inside.pages c.self.inside.names c.self.inside.holders c.self.inside.table.records c.self.invariant
      c.uncount_page-counted.ensures.rest.sound w.in-Err.ensures.err c.uncount_page-counted.ensures.rest.keeps)
]
