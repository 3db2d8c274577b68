-- A new catalog lies in each region, and a new region has no text.
use Rattle.std.proofs.Common.{sym, ◌∙◌, subst}
use Rattle.slot_index.specs.Counts.{HaveOwners}
use Rattle.slot_index.proofs.Owners.{HaveOwners-empty}
use Rattle.triple_store.proofs.Unchanged.{all_beside, empty_len, none_counted, none_used, vacant}
use Rattle.triple_store.proofs.store.Store.new.Goals as goal

pub invariant_of-result : goal.invariant_of-result
invariant_of-result c = record {
  lies = c.new-2.ensures.lies c.in_ok-region.region;
  counted = λ slot. c.new-2.ensures.none slot ∙ sym (none_used c.new-3.result slot (empty_len c.new-3.result c.new-3.ensures));
  owned = subst HaveOwners (sym c.new-3.ensures) HaveOwners-empty;
}

pub returns-clause-sound : goal.returns-clause-sound
returns-clause-sound c = invariant_of-result c

pub returns-clause-counts : goal.returns-clause-counts
returns-clause-counts c = none_counted c.new-2.result c.in_ok-region.region c.new-3.result c.new-3.ensures

pub returns-clause-beside : goal.returns-clause-beside
returns-clause-beside c = λ piece. all_beside c.new-2.result c.in_ok-region.region piece c.new-2.ensures.empty ∙ vacant c.in_ok-region.region c.in_ok-region.ensures piece
