-- The triple is put where it belongs, and the places before it stay.
use Rattle.std.proofs.Common.{◌≡◌, ◌||◌, [], ◌∷◌, ◌++◌, length, take, refl, ap, ◌∙◌}
use Rattle.sorted_sets.specs.Rising.{has}
use Rattle.entity_model.specs.EntityId.{entity_cmp}
use Rattle.triple_sink.specs.TermRef.{meant_triple}
use Rattle.triple_sink.proofs.Gained.{front_kept}
use Rattle.shared_triples.specs.Lean.{stranger}
use Rattle.page_parts.specs.Parts.{PartsState, belongs_alone, stands_alone}
use Rattle.page_parts.proofs.Parting.{parted_more, triples_more, triples_stay}
use Rattle.page_parts.proofs.parts.PagePartsTripleSink.emit.Goals as goal

pub invariant_of-self-in-Ok : goal.invariant_of-self-in-Ok
invariant_of-self-in-Ok c =
    let p = c.self.inside in
    let t = meant_triple c.args.subject.now c.args.predicate.now c.args.object.now in
    let is : c.belongs_alone-is_own.result ≡ stands_alone p.is_counted p.entity t = c.belongs_alone-is_own.ensures ∙ ap (belongs_alone p.is_counted p.entity) c.home_of_term-home.ensures in
    let pushed = c.push_reserved.ensures.items ∙ ap (λ l. l ++ record { is_own = c.belongs_alone-is_own.result; index = c.in-Ok.index } ∷ []) c.reserve.ensures.items in
    parted_more p.entity p.is_counted p.texts.own p.texts.shared c.put.new.self.own c.put.new.self.shared p.places.items c.push_reserved.new.self.items t c.belongs_alone-is_own.result c.in-Ok.index is c.in-Ok.ensures.ok pushed c.self.invariant.placed
    p.has_failed p.strangers.items c.note_stranger.new.strangers.items
    (λ _ y. c.in_ok-note_stranger.ensures.ok y ∙ ap (λ h. has entity_cmp y p.strangers.items || has entity_cmp y (stranger p.entity h)) c.home_of_term-home.ensures) c.self.invariant.split

pub returns-in-Ok-clause-gains : goal.returns-in-Ok-clause-gains
returns-in-Ok-clause-gains c =
    let p = c.self.inside in
    let t = meant_triple c.args.subject.now c.args.predicate.now c.args.object.now in
    let is : c.belongs_alone-is_own.result ≡ stands_alone p.is_counted p.entity t = c.belongs_alone-is_own.ensures ∙ ap (belongs_alone p.is_counted p.entity) c.home_of_term-home.ensures in
    let pushed = c.push_reserved.ensures.items ∙ ap (λ l. l ++ record { is_own = c.belongs_alone-is_own.result; index = c.in-Ok.index } ∷ []) c.reserve.ensures.items in (
      triples_more p.entity p.is_counted p.texts.own p.texts.shared c.put.new.self.own c.put.new.self.shared p.places.items c.push_reserved.new.self.items t c.belongs_alone-is_own.result c.in-Ok.index is c.in-Ok.ensures.ok pushed c.self.invariant.placed
          ∙ ap (λ (s : PartsState). s.all ++ t ∷ []) c.self.view_is,
      refl,
    )

pub returns-in-Ok-clause-front : goal.returns-in-Ok-clause-front
returns-in-Ok-clause-front c front h =
    let p = c.self.inside in
    let t = meant_triple c.args.subject.now c.args.predicate.now c.args.object.now in
    let is : c.belongs_alone-is_own.result ≡ stands_alone p.is_counted p.entity t = c.belongs_alone-is_own.ensures ∙ ap (belongs_alone p.is_counted p.entity) c.home_of_term-home.ensures in
    let pushed = c.push_reserved.ensures.items ∙ ap (λ l. l ++ record { is_own = c.belongs_alone-is_own.result; index = c.in-Ok.index } ∷ []) c.reserve.ensures.items in
    let more = triples_more p.entity p.is_counted p.texts.own p.texts.shared c.put.new.self.own c.put.new.self.shared p.places.items c.push_reserved.new.self.items t c.belongs_alone-is_own.result c.in-Ok.index is c.in-Ok.ensures.ok pushed c.self.invariant.placed in
    ap (take (length front)) (more ∙ ap (λ (s : PartsState). s.all ++ t ∷ []) c.self.view_is) ∙ front_kept c.args.self.now.all (t ∷ []) front h

pub returns-in-Err-clause-front : goal.returns-in-Err-clause-front
returns-in-Err-clause-front c front h =
    let p = c.self.inside in
    let stay = triples_stay p.entity p.is_counted p.texts.own p.texts.shared c.put.new.self.own c.put.new.self.shared c.in-Err.ensures.own c.in-Err.ensures.shared p.places.items c.reserve.new.self.items c.reserve.ensures.items c.self.invariant.placed in
    ap (take (length front)) (stay ∙ ap (λ (s : PartsState). s.all) c.self.view_is) ∙ h
