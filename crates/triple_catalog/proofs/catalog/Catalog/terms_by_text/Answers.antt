-- One more term has its text, and the order of the terms changes none.
use Rattle.std.proofs.Common.{◌≡◌, Some}
use Rattle.std.proofs.{lemmas.List.Elements.All-push, lemmas.List.Sorted.All-permutation}
use Rattle.term_pool.specs.Pool.{text_in_slot}
use Rattle.slot_keys.specs.declared.ranking.SlotText.{SlotText}
use Rattle.triple_catalog.proofs.catalog.Catalog.terms_by_text.Goals as goal

pub loop-slot-preserved : goal.loop-slot-preserved
loop-slot-preserved c =
    rw c.in_ok-push.ensures.items (All-push (λ (term : SlotText). text_in_slot c.args.self.now.pool c.args.region.now term.slot ≡ Some term.text.now) c.loop-slot.terms.items _ c.loop-slot.invariant c.in-Some.ensures.found)

pub returns-clause-texts : goal.returns-clause-texts
returns-clause-texts c =
    All-permutation (λ (term : SlotText). text_in_slot c.args.self.now.pool c.args.region.now term.slot ≡ Some term.text.now) c.loop-slot.terms.items c.sort_terms.new.terms.items c.sort_terms.ensures.same c.loop-slot.invariant
