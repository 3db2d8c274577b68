use Rattle.std.proofs.Common.{◌≡◌, false, is_ok, ap, subst, sym, ◌∙◌}
use Rattle.sorted_sets.proofs.{Bools.or_false, Sorting.found}
use Rattle.slot_keys.specs.{declared.key.Key.Key, Added.is_held, Keys.key_cmp-total}
use Rattle.slot_keys.proofs.Lists.{or_left}
use Rattle.triple_catalog.proofs.Standing.{one_of_texts}
use Rattle.triple_catalog.proofs.catalog.Catalog.find_held.Goals as goal

pub returns-in-Ok-binary_search-clause-held : goal.returns-in-Ok-binary_search-clause-held
returns-in-Ok-binary_search-clause-held c = or_left _ _ (sym (found key_cmp-total c.args.near.old.rising.now c.in-Ok.key c.binary_search.result c.requires.rising c.binary_search.ensures.bound c.binary_search.ensures.position) ∙ ap is_ok c.in-Ok-binary_search.is)

pub returns-else-contains-clause-none : goal.returns-else-contains-clause-none
returns-else-contains-clause-none c key texts =
    subst (λ (k : Key). is_held c.args.near.old.rising.now c.args.added.now k ≡ false)
    (one_of_texts _ _ c.requires.stored.lies _ _ _ c.in-Ok.ensures.found texts)
    (or_false _ _ (sym (found key_cmp-total c.args.near.old.rising.now c.in-Ok.key c.binary_search.result c.requires.rising c.binary_search.ensures.bound c.binary_search.ensures.position) ∙ ap is_ok c.in_default-binary_search.is) (sym c.contains.ensures ∙ c.if-contains.false))
