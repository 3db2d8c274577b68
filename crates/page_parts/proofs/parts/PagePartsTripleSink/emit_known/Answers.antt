-- The triple is put where the one is that has its subject, and the places before it stay.
use Rattle.std.proofs.Common.{◌≡◌, [], ◌∷◌, ◌++◌, length, take, get_or, refl, sym, ap, subst, ◌∙◌}
use Rattle.std.specs.Prelude.{map, IfSome}
use Rattle.triple_sink.specs.Subject.{HasSubject}
use Rattle.triple_sink.specs.TermRef.{meant, meant_triple}
use Rattle.triple_sink.proofs.Gained.{front_kept}
use Rattle.page_parts.specs.declared.parts.Place.{Place}
use Rattle.page_parts.specs.Parts.{PartsState, triple_at}
use Rattle.page_parts.proofs.Parting.{known_others, known_right, known_there, parted_failed, parted_more, triples_more, triples_stay}
use Rattle.page_parts.proofs.parts.PagePartsTripleSink.emit_known.Goals as goal

pub put-requires : goal.put-requires
put-requires c =
    let p = c.self.inside in
    let t = meant_triple c.args.subject.now.term c.args.predicate.now c.args.object.now in
    let term = meant c.args.subject.now.term in
    let place : Place = c.index.result.now in
    let known : HasSubject (map (triple_at p.texts.own p.texts.shared) p.places.items) term c.in-Some.index = subst (λ l. HasSubject l term c.in-Some.index) (sym (ap (λ (s : PartsState). s.all) c.self.view_is)) (subst (λ o. IfSome o (HasSubject c.args.self.now.all term)) c.in-Some.is c.requires.known) in
    let here : place ≡ get_or p.places.items c.in-Some.index place = c.index.ensures ∙ ap (λ l. get_or l c.in-Some.index place) c.reserve.ensures.items in
    known_there p.entity p.is_counted p.texts.own p.texts.shared p.places.items c.self.invariant.placed term c.in-Some.index known place here

pub invariant_of-self-in-Ok : goal.invariant_of-self-in-Ok
invariant_of-self-in-Ok c =
    let p = c.self.inside in
    let t = meant_triple c.args.subject.now.term c.args.predicate.now c.args.object.now in
    let term = meant c.args.subject.now.term in
    let place : Place = c.index.result.now in
    let known : HasSubject (map (triple_at p.texts.own p.texts.shared) p.places.items) term c.in-Some.index = subst (λ l. HasSubject l term c.in-Some.index) (sym (ap (λ (s : PartsState). s.all) c.self.view_is)) (subst (λ o. IfSome o (HasSubject c.args.self.now.all term)) c.in-Some.is c.requires.known) in
    let here : place ≡ get_or p.places.items c.in-Some.index place = c.index.ensures ∙ ap (λ l. get_or l c.in-Some.index place) c.reserve.ensures.items in
    let is = known_right p.entity p.is_counted p.texts.own p.texts.shared p.places.items c.self.invariant.placed term c.in-Some.index known place here t refl in
    let pushed = c.push_reserved.ensures.items ∙ ap (λ l. l ++ record { is_own = place.is_own; index = c.in-Ok.index } ∷ []) c.reserve.ensures.items in
    parted_more p.entity p.is_counted p.texts.own p.texts.shared c.put.new.self.own c.put.new.self.shared p.places.items c.push_reserved.new.self.items t place.is_own c.in-Ok.index is c.in-Ok.ensures.ok pushed c.self.invariant.placed
    p.has_failed p.strangers.items p.strangers.items
    (λ ok. known_others p.entity p.is_counted p.texts.own p.texts.shared p.places.items c.self.invariant.placed term c.in-Some.index known p.strangers.items (c.self.invariant.split ok).others_are t refl) c.self.invariant.split

pub invariant_of-self-in-Err : goal.invariant_of-self-in-Err
invariant_of-self-in-Err c =
    let p = c.self.inside in
    parted_failed p.entity p.is_counted p.texts.own p.texts.shared c.put.new.self.own c.put.new.self.shared c.in-Err.ensures.own c.in-Err.ensures.shared p.places.items c.reserve.new.self.items c.reserve.ensures.items c.self.invariant.placed p.strangers.items

pub returns-in-Ok-clause-gains : goal.returns-in-Ok-clause-gains
returns-in-Ok-clause-gains c =
    let p = c.self.inside in
    let t = meant_triple c.args.subject.now.term c.args.predicate.now c.args.object.now in
    let term = meant c.args.subject.now.term in
    let place : Place = c.index.result.now in
    let known : HasSubject (map (triple_at p.texts.own p.texts.shared) p.places.items) term c.in-Some.index = subst (λ l. HasSubject l term c.in-Some.index) (sym (ap (λ (s : PartsState). s.all) c.self.view_is)) (subst (λ o. IfSome o (HasSubject c.args.self.now.all term)) c.in-Some.is c.requires.known) in
    let here : place ≡ get_or p.places.items c.in-Some.index place = c.index.ensures ∙ ap (λ l. get_or l c.in-Some.index place) c.reserve.ensures.items in
    let is = known_right p.entity p.is_counted p.texts.own p.texts.shared p.places.items c.self.invariant.placed term c.in-Some.index known place here t refl in
    let pushed = c.push_reserved.ensures.items ∙ ap (λ l. l ++ record { is_own = place.is_own; index = c.in-Ok.index } ∷ []) c.reserve.ensures.items in (
      triples_more p.entity p.is_counted p.texts.own p.texts.shared c.put.new.self.own c.put.new.self.shared p.places.items c.push_reserved.new.self.items t place.is_own c.in-Ok.index is c.in-Ok.ensures.ok pushed c.self.invariant.placed
          ∙ ap (λ (s : PartsState). s.all ++ t ∷ []) c.self.view_is,
      refl,
    )

pub returns-in-Ok-clause-front : goal.returns-in-Ok-clause-front
returns-in-Ok-clause-front c front h =
    let p = c.self.inside in
    let t = meant_triple c.args.subject.now.term c.args.predicate.now c.args.object.now in
    let term = meant c.args.subject.now.term in
    let place : Place = c.index.result.now in
    let known : HasSubject (map (triple_at p.texts.own p.texts.shared) p.places.items) term c.in-Some.index = subst (λ l. HasSubject l term c.in-Some.index) (sym (ap (λ (s : PartsState). s.all) c.self.view_is)) (subst (λ o. IfSome o (HasSubject c.args.self.now.all term)) c.in-Some.is c.requires.known) in
    let here : place ≡ get_or p.places.items c.in-Some.index place = c.index.ensures ∙ ap (λ l. get_or l c.in-Some.index place) c.reserve.ensures.items in
    let is = known_right p.entity p.is_counted p.texts.own p.texts.shared p.places.items c.self.invariant.placed term c.in-Some.index known place here t refl in
    let pushed = c.push_reserved.ensures.items ∙ ap (λ l. l ++ record { is_own = place.is_own; index = c.in-Ok.index } ∷ []) c.reserve.ensures.items in
    let more = triples_more p.entity p.is_counted p.texts.own p.texts.shared c.put.new.self.own c.put.new.self.shared p.places.items c.push_reserved.new.self.items t place.is_own c.in-Ok.index is c.in-Ok.ensures.ok pushed c.self.invariant.placed in
    ap (take (length front)) (more ∙ ap (λ (s : PartsState). s.all ++ t ∷ []) c.self.view_is) ∙ front_kept c.args.self.now.all (t ∷ []) front h

pub returns-in-Err-clause-front : goal.returns-in-Err-clause-front
returns-in-Err-clause-front c front h =
    let p = c.self.inside in
    let stay = triples_stay p.entity p.is_counted p.texts.own p.texts.shared c.put.new.self.own c.put.new.self.shared c.in-Err.ensures.own c.in-Err.ensures.shared p.places.items c.reserve.new.self.items c.reserve.ensures.items c.self.invariant.placed in
    ap (take (length front)) (stay ∙ ap (λ (s : PartsState). s.all) c.self.view_is) ∙ h
