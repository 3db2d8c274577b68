use Rattle.std.proofs.Common.{◌≡◌, false, arith, ◌∙◌}
use Rattle.std.proofs.lemmas.Grind.{common_steps}
use Rattle.rdf_term.specs.declared.tag.TagState.TheVariants.{Start}
use Rattle.rdf_term.specs.TagReader.{is_rest_of_tag}
use Rattle.rdf_term.proofs.Tags.{is_tag_read}
use Rattle.rdf_term.proofs.tag.is_tag.Goals as goal

pub returns : goal.returns
returns c =
    let e : c.is_end.result ≡ is_rest_of_tag Start c.args.tag.now = grind (arith, common_steps) in
    e ∙ is_tag_read c.args.tag.now

pub returns-in-None : goal.returns-in-None
returns-in-None c =
    let e : false ≡ is_rest_of_tag Start c.args.tag.now = grind (arith, common_steps) in
    e ∙ is_tag_read c.args.tag.now
