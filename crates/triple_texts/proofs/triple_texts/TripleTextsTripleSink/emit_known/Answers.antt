-- The subject lies where it is known to, the other texts behind; and whatever the answer, the triples before it stay.
use Rattle.std.proofs.Common.{[], ◌∷◌, ◌++◌, length, take, refl, ap, ◌∙◌}
use Rattle.triple_sink.specs.Subject.{HasSubject}
use Rattle.triple_sink.specs.TermRef.{meant, meant_triple}
use Rattle.triple_sink.proofs.Gained.{front_kept}
use Rattle.triple_texts.proofs.Placed.{all_kept, all_lie, known_spans, one_more, still_lie}
use Rattle.triple_texts.proofs.triple_texts.TripleTextsTripleSink.emit_known.Goals as goal

pub invariant_of-self-in_err-spans : goal.invariant_of-self-in_err-spans
invariant_of-self-in_err-spans c =
    rw c.reserve.ensures.items (still_lie c.self.inside.buffer _ c.put_behind.ensures.kept c.self.inside.all_spans.items c.self.invariant)

pub returns-in_err-spans-clause-front : goal.returns-in_err-spans-clause-front
returns-in_err-spans-clause-front c front h =
    ap (take (length front)) (rw c.reserve.ensures.items (all_kept c.self.inside.buffer _ c.put_behind.ensures.kept c.self.inside.all_spans.items c.self.invariant) ∙ c.self.view_is) ∙ h

pub invariant_of-self-2 : goal.invariant_of-self-2
invariant_of-self-2 c =
    let triple = meant_triple c.args.subject.now.term c.args.predicate.now c.args.object.now in
    let pushed = c.push_reserved.ensures.items ∙ ap (λ l. l ++ c.in_ok-spans.spans ∷ []) c.reserve.ensures.items in
    let known : HasSubject c.args.self.now (meant c.args.subject.now.term) c.in-Some.index = rw c.in-Some.is at c.requires.known in
    let its = known_spans c.self.inside.buffer c.put_behind.new.buffer c.self.inside.all_spans.items c.reserve.new.self.items (meant c.args.subject.now.term) (meant c.args.predicate.now) (meant c.args.object.now) c.in-Some.index c.index.result.now c.in_ok-spans.spans c.self.invariant (rw c.self.view_is known) c.reserve.ensures.items c.index.ensures c.in_ok-spans.ensures.kept c.in_ok-spans.ensures.subject c.in_ok-spans.ensures.predicate c.in_ok-spans.ensures.object in
    all_lie c.self.inside.buffer _ triple c.in_ok-spans.spans c.put_behind.ensures.kept its c.self.inside.all_spans.items _ pushed c.self.invariant

pub returns-clause-gains : goal.returns-clause-gains
returns-clause-gains c =
    let triple = meant_triple c.args.subject.now.term c.args.predicate.now c.args.object.now in
    let pushed = c.push_reserved.ensures.items ∙ ap (λ l. l ++ c.in_ok-spans.spans ∷ []) c.reserve.ensures.items in
    let known : HasSubject c.args.self.now (meant c.args.subject.now.term) c.in-Some.index = rw c.in-Some.is at c.requires.known in
    let its = known_spans c.self.inside.buffer c.put_behind.new.buffer c.self.inside.all_spans.items c.reserve.new.self.items (meant c.args.subject.now.term) (meant c.args.predicate.now) (meant c.args.object.now) c.in-Some.index c.index.result.now c.in_ok-spans.spans c.self.invariant (rw c.self.view_is known) c.reserve.ensures.items c.index.ensures c.in_ok-spans.ensures.kept c.in_ok-spans.ensures.subject c.in_ok-spans.ensures.predicate c.in_ok-spans.ensures.object in (
      one_more c.self.inside.buffer _ triple c.in_ok-spans.spans c.put_behind.ensures.kept its c.self.inside.all_spans.items _ pushed c.self.invariant ∙ ap (λ l. l ++ triple ∷ []) c.self.view_is,
      refl,
    )

pub returns-clause-front : goal.returns-clause-front
returns-clause-front c front h =
    let triple = meant_triple c.args.subject.now.term c.args.predicate.now c.args.object.now in
    let pushed = c.push_reserved.ensures.items ∙ ap (λ l. l ++ c.in_ok-spans.spans ∷ []) c.reserve.ensures.items in
    let known : HasSubject c.args.self.now (meant c.args.subject.now.term) c.in-Some.index = rw c.in-Some.is at c.requires.known in
    let its = known_spans c.self.inside.buffer c.put_behind.new.buffer c.self.inside.all_spans.items c.reserve.new.self.items (meant c.args.subject.now.term) (meant c.args.predicate.now) (meant c.args.object.now) c.in-Some.index c.index.result.now c.in_ok-spans.spans c.self.invariant (rw c.self.view_is known) c.reserve.ensures.items c.index.ensures c.in_ok-spans.ensures.kept c.in_ok-spans.ensures.subject c.in_ok-spans.ensures.predicate c.in_ok-spans.ensures.object in
    let more = one_more c.self.inside.buffer _ triple c.in_ok-spans.spans c.put_behind.ensures.kept its c.self.inside.all_spans.items _ pushed c.self.invariant in
    ap (take (length front)) (more ∙ ap (λ l. l ++ triple ∷ []) c.self.view_is) ∙ front_kept c.args.self.now (triple ∷ []) front h
