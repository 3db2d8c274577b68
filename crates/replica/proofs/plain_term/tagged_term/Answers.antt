use Rattle.replica.proofs.PlainTerms.{lang_fits}
use Rattle.replica.proofs.plain_term.tagged_term.Goals as goal

pub returns : goal.returns
returns c =
    let e = c.in_ok-tag.ensures in
    lang_fits c.args.content.now c.args.tag.now c.in_ok-tag.tag.now e.0 e.1 c.requires c.utf8.content e.2
