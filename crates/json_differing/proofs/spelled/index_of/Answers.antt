-- The member is there, so what stands for none doesn't matter.
use Rattle.std.proofs.Common.{◌<◌, length, sym, ap, ◌∙◌, rules}
use Rattle.std.proofs.lemmas.Slice.Eq.{bytes_eq-Decides}
use Rattle.json_differing.specs.declared.spelled.Spelled.{Spelled}
use Rattle.json_differing.proofs.SpelledLists.{get_or-any}
use Rattle.json_differing.proofs.spelled.index_of.Goals as goal

pub returns-then-eq : goal.returns-then-eq
returns-then-eq c =
    let known = c.args.known.now in
    let index = c.loop-index.index in
    let low : index < length known = search rules in
    (low, λ other. ap (λ (s : Spelled). s.key.now) (get_or-any known index other _ low) ∙ (bytes_eq-Decides _ c.args.key.now).0 (sym c.eq.ensures ∙ c.if-eq.true))
