-- The reading of pages gives each page that a tree is.
use Rattle.entity_json.proofs.AgreePages.{one_page}
use Rattle.entity_json.proofs.laws.a_tree_has_one_page.Goals as goal

pub returns : goal.returns
returns c = one_page
