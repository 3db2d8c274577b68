-- By the lemma on each id.
use Rattle.sitelinks.proofs.Names.{site_is_named}
use Rattle.sitelinks.proofs.laws.ids_name_their_sites.Goals as goal

pub returns : goal.returns
returns c = site_is_named
