-- The sink has what munging leaves of what the part says.
use Rattle.std.proofs.Common.{◌≡◌, [], ◌∷◌, ◌++◌, Bool, cond, List, length, flat_map, sym, ◌∙◌, ap, subst}
use Rattle.std.proofs.lemmas.Bool.Decides.{Decides-eqb}
use Rattle.std.proofs.lemmas.List.{nil_from_length}
use Rattle.rdf_term.specs.declared.triple.Triple.{Triple}
use Rattle.entity_model.specs.declared.id.EntityId.{EntityId}
use Rattle.munger.specs.Munging.{munged}
use Rattle.entity_rdf.specs.Counted.{counted_triples}
use Rattle.page_parts.specs.Marked.{is_marked}
use Rattle.page_parts.specs.Parts.{AreSplit, PartsState}
use Rattle.fetched_pages.proofs.Telling.{left_flat}
use Rattle.fetched_pages.proofs.apart.part.Goals as goal

pub returns-then-is_empty : goal.returns-then-is_empty
returns-then-is_empty c =
    let x = c.args.id in
    let p = c.in-Ok.sink.inner in
    let said = counted_triples c.args.setting.version x c.args.counted.rev c.args.counted.counts c.args.counted.entity.now in
    let whole = c.are_whole.ensures in
    let t = c.if-are_whole.true in
    let split : AreSplit x c.args.is_counted p.all p.own p.shared p.strangers =
    subst (λ (e : EntityId). AreSplit e c.args.is_counted p.all p.own p.shared p.strangers) (whole.entity t)
    (subst (λ (f : Bool). AreSplit p.entity f p.all p.own p.shared p.strangers) (whole.counted t) (whole.parts t)) in
    let none : p.strangers ≡ [] = sym c.strangers.ensures ∙ nil_from_length c.strangers.result.now ((Decides-eqb (length c.strangers.result.now) 0).0 (sym c.is_empty.ensures ∙ c.if-is_empty.true)) in
    record {
      all_are = c.in-Ok.ensures
          ∙ (λ i. (ap (λ (s : PartsState). s.all) (c.new-sink.ensures.inner ∙ c.new-empty.ensures)) i
          ++ flat_map (λ (t : Triple). flat_map (λ (u : Triple). cond (is_marked (c.new-sink.ensures.marks i) u) [] (u ∷ [])) (munged x t)) said)
          ∙ left_flat (is_marked c.args.staying.now) (munged x) said;
      split = subst (λ (ys : List EntityId). AreSplit x c.args.is_counted p.all p.own p.shared ys) none split;
    }
