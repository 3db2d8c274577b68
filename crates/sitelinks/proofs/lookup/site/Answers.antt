use Rattle.std.proofs.Common.{◌≡◌, IfOk, Some, None, Option, arith, rules}
use Rattle.std.proofs.lemmas.Grind.{common_steps}
use Rattle.std.proofs.lemmas.Result.{IfOk-weaker}
use Rattle.sitelinks.specs.declared.sites.Site.{Site}
use Rattle.sitelinks.specs.Site.{site_of}
use Rattle.sitelinks.proofs.Names.{IsNamed-looked_up}
use Rattle.sitelinks.proofs.lookup.site.Goals as goal

pub returns-in-Some-clause-rules : goal.returns-in-Some-clause-rules
returns-in-Some-clause-rules c =
    let value : Some c.special_site.result ≡ site_of c.args.id.now = first_of (search rules, grind (arith, common_steps)) in
    IsNamed-looked_up c.args.id.now (Some c.special_site.result) value

pub returns-in-Some-coded-clause-rules : goal.returns-in-Some-coded-clause-rules
returns-in-Some-coded-clause-rules c =
    let value : IfOk c.language_site.result (λ found. found ≡ site_of c.args.id.now) = first_of (search rules, grind (arith, common_steps)) in
    IfOk-weaker c.language_site.result _ _ (IsNamed-looked_up c.args.id.now) value

pub returns-in-None-clause-rules : goal.returns-in-None-clause-rules
returns-in-None-clause-rules c =
    let nothing : Option Site = None in
    let value : nothing ≡ site_of c.args.id.now = first_of (search rules, grind (arith, common_steps)) in
    IsNamed-looked_up c.args.id.now nothing value
