-- What is loaded is a snapshot. Memory for the graphs may be refused, or the options name another horizon than the snapshot's.
use Rattle.std.proofs.Common.{◌≡◌, ap, ◌∙◌, inl, inr, ⊎_elim}
use Rattle.world.specs.WorldState.{WorldState}
use Rattle.run_model.proofs.Loaded.{is_snapshot}
use Rattle.session.proofs.resuming.load_start.Goals as goal

pub graphs_of-requires : goal.graphs_of-requires
graphs_of-requires g c = record {
  ready = record { by_one = ap (λ (w : WorldState). w.by_two) c.in-Ok.ensures.world; room = c.in-Ok.ensures.held };
  limit = ap (λ (w : WorldState). w.limit) c.in-Ok.ensures.world ∙ (λ i. record { terms = c.max_terms.ensures i; lean = c.lean.ensures i });
  lean = c.requires;
}

pub returns-in-Ok-graphs_of-clause-ok : goal.returns-in-Ok-graphs_of-clause-ok
returns-in-Ok-graphs_of-clause-ok g c =
    let x = c.in-Ok.ensures in
    record {
      loaded = is_snapshot _ _ _ _ x.saved (rw (c.max_terms.ensures, c.lean.ensures) at x.world) x.rests x.documents x.applied x.counts x.held;
      allowed = c.in-Ok-graphs_of.ensures.allowed;
      routes_are = c.in-Ok-graphs_of.ensures.routes;
      read = x.whole;
    }

pub returns-in-Err-graphs_of-clause-err : goal.returns-in-Err-graphs_of-clause-err
returns-in-Err-graphs_of-clause-err g c =
    let x = c.in-Ok.ensures in
    ⊎_elim (λ none. rw none (inl tt))
    (λ other. inr (
      other.0,
      record {
        world = c.in-Ok.loaded.world;
        numbers = c.in-Ok.loaded.counts;
        loaded = is_snapshot _ _ _ _ x.saved (rw (c.max_terms.ensures, c.lean.ensures) at x.world) x.rests x.documents x.applied x.counts x.held;
        differs = other.1;
      },
    ))
    c.in-Err-graphs_of.ensures.err
