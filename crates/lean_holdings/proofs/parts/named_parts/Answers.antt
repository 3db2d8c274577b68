-- Bytes that are no document mean nothing.
use Rattle.std.proofs.Common.{◌≡◌, Some, subst}
use Rattle.entity_json.specs.Document.{unfit_of}
use Rattle.fetched_pages.specs.{Fetched.IsWhy, Meaning.meaning}
use Rattle.lean_holdings.specs.Moving.{lists_of}
use Rattle.lean_holdings.proofs.{Short.unfit_means, Stepping.parts_nothing}
use Rattle.lean_holdings.proofs.parts.named_parts.Goals as goal

pub returns-in-Err-Unfit : goal.returns-in-Err-Unfit
returns-in-Err-Unfit c counted same =
    let why : unfit_of c.args.wanted.id c.args.bytes.now ≡ Some c.in-Err-Unfit.field-0-0 = subst (IsWhy c.args.wanted.id c.args.bytes.now) c.in-Err-Unfit.field-0-is c.in-Err-Unfit.ensures.err in
    parts_nothing counted (meaning c.args.wanted.version) c.args.wanted.id c.args.wanted.rev c.args.bytes.now (lists_of c.no_parts.result)
    (unfit_means c.args.wanted.version c.args.wanted.id c.args.wanted.rev c.args.bytes.now c.in-Err-Unfit.field-0-0 why) (c.no_parts.ensures counted (meaning c.args.wanted.version))
