-- The sink has what is marked of what munging leaves of the dump.
use Rattle.std.proofs.Common.{◌≡◌, [], ◌∷◌, ◌++◌, filter, flat_map, ◌∙◌}
use Rattle.rdf_term.specs.declared.triple.Triple.{Triple}
use Rattle.munger.specs.Munging.{munged}
use Rattle.entity_rdf.specs.Dump.{dump}
use Rattle.page_parts.specs.declared.sifting.Sifted.{Sifted}
use Rattle.page_parts.specs.Marked.{found_of, is_marked, kept_by}
use Rattle.fetched_pages.proofs.Telling.{filter_flat, if_weaker}
use Rattle.fetched_pages.proofs.apart.marked_in_page.Goals as goal

pub returns : goal.returns
returns c =
    let x = c.args.id in
    let all = dump c.args.setting.version x c.args.rev c.args.document.now in
    if_weaker c.munge_into.result (λ (s : Sifted). found_of s ≡ found_of c.new-none.result ++ flat_map (λ (t : Triple). flat_map (kept_by c.new-none.result) (munged x t)) all)
    (λ (s : Sifted). found_of s ≡ filter (is_marked c.args.marks.now) (flat_map (munged x) all))
    (λ s is. is
    ∙ (λ i. c.new-none.ensures.none i ++ flat_map (λ (t : Triple). flat_map (λ (u : Triple). filter (is_marked (c.new-none.ensures.marks i)) (u ∷ [])) (munged x t)) all)
    ∙ filter_flat (is_marked c.args.marks.now) (munged x) all) c.munge_into.ensures
