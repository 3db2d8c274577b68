-- The sink has what munging leaves of the dump.
use Rattle.std.proofs.Common.{[], ◌∷◌, ◌++◌, flat_map, ap, ◌∙◌}
use Rattle.rdf_term.specs.declared.triple.Triple.{Triple}
use Rattle.munger.specs.Munging.{munged}
use Rattle.entity_rdf.specs.Dump.{dump}
use Rattle.page_parts.specs.Parts.{PartsState}
use Rattle.fetched_pages.proofs.Parted.{own_fit, parts_of_document, shared_fit}
use Rattle.fetched_pages.proofs.parting.document_parts.Goals as goal

pub returns-then-are_whole-clause-parts : goal.returns-then-are_whole-clause-parts
returns-then-are_whole-clause-parts c =
    let w = c.args.wanted in
    let whole = c.are_whole.ensures in
    let t = c.if-are_whole.true in
    let listed = c.in_ok-parts.ensures ∙ ap (λ (s : PartsState). s.all ++ flat_map (λ (t : Triple). flat_map (λ (u : Triple). u ∷ []) (munged w.id t)) (dump w.version w.id w.rev c.args.document.now)) c.new-parts.ensures in
    parts_of_document w.id c.args.is_counted w.version w.rev c.args.document.now c.in_ok-parts.parts (whole.entity t) (whole.counted t) (whole.parts t) listed

pub returns-then-are_whole-clause-fit_own : goal.returns-then-are_whole-clause-fit_own
returns-then-are_whole-clause-fit_own c =
    let w = c.args.wanted in
    let whole = c.are_whole.ensures in
    let t = c.if-are_whole.true in
    let listed = c.in_ok-parts.ensures ∙ ap (λ (s : PartsState). s.all ++ flat_map (λ (t : Triple). flat_map (λ (u : Triple). u ∷ []) (munged w.id t)) (dump w.version w.id w.rev c.args.document.now)) c.new-parts.ensures in
    own_fit w.id c.args.is_counted w.version w.rev c.args.document.now c.in_ok-parts.parts (whole.entity t) (whole.counted t) (whole.parts t) listed

pub returns-then-are_whole-clause-fit_shared : goal.returns-then-are_whole-clause-fit_shared
returns-then-are_whole-clause-fit_shared c =
    let w = c.args.wanted in
    let whole = c.are_whole.ensures in
    let t = c.if-are_whole.true in
    let listed = c.in_ok-parts.ensures ∙ ap (λ (s : PartsState). s.all ++ flat_map (λ (t : Triple). flat_map (λ (u : Triple). u ∷ []) (munged w.id t)) (dump w.version w.id w.rev c.args.document.now)) c.new-parts.ensures in
    shared_fit w.id c.args.is_counted w.version w.rev c.args.document.now c.in_ok-parts.parts (whole.entity t) (whole.counted t) (whole.parts t) listed
