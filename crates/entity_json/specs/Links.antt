-- Rule 8: links to the pages of sites.
use Rattle.std.specs.Prelude.{◌≡◌, List, Some, codes}
use Rattle.json_spell.specs.Tree.{Tree}
use Rattle.entity_model.specs.declared.entity.Link.{Link}
use Rattle.entity_json.specs.Items.{AreItemIds}
use Rattle.entity_json.specs.Joined.{One, InMap}
use Rattle.entity_json.specs.Leaves.{text_at}

-- a link: the texts `site` and `title`, and badges, which are items
pub record IsLink (t : Tree) (x : Link) : Type 0 where
  pub site : text_at (codes "site") t ≡ Some x.site
  pub title : text_at (codes "title") t ≡ Some x.title
  pub badges : AreItemIds (codes "badges") t x.badges

-- sitelinks: a map to links, whose keys are passed over
abbrev pub AreLinks : Tree → List Link → Type 0
AreLinks t xs = InMap (One (λ member x. IsLink member.1 x)) (codes "sitelinks") t xs
