-- Both pages are of the entity.
use Rattle.std.proofs.Common.{◌≡◌, ℕ, ◌≤◌, Bool, true, false, not, length, refl, subst, sym, ◌∙◌, arith}
use Rattle.std.proofs.Math.Bool.{beq}
use Rattle.json_differing.specs.Found.{AreDiffering}
use Rattle.entity_model.specs.declared.document.Document.TheVariants.{Entity as AnEntity}
use Rattle.entity_documents.proofs.ChangedPages.{has_changed}
use Rattle.entity_documents.proofs.EntityPages.{entity_page, some_document}
use Rattle.entity_json.proofs.Fitness.{documents}
use Rattle.entity_documents.proofs.changed.changed_within.Goals as goal

same_bools : (a b : Bool) → not (beq a b) ≡ false → a ≡ b
same_bools true true e = refl
same_bools true false e = absurd cc
same_bools false true e = absurd cc
same_bools false false e = refl

pub returns-clause-changes : goal.returns-clause-changes
returns-clause-changes c e is_document =
    let old = c.args.old.now in
    let new = c.args.new.now in
    let differing = c.in_ok-differing.differing in
    let within = c.args.within in
    let short : length new ≤ 8388608 = omega arith in
    let old_within = same_bools c.has_entities-old_within.result within c.if-old_within-within.false in
    let new_within = same_bools c.has_entities-new_within.result within c.if-new_within-within.false in
    let known = (documents c.args.id old (AnEntity e)).0 is_document in
    has_changed c.args.id old new e c.in_ok-gone.gone c.in-Some.come within differing is_document short
    (subst (λ (n : ℕ). AreDiffering n old new differing) c.depth_of-depth.ensures (c.in_ok-differing.ensures known.tree known.has_tree.reads known.has_tree.not_deep))
    (sym c.has_entities-old_within.ensures ∙ old_within) (sym c.has_entities-new_within.ensures ∙ new_within)
    c.in_ok-gone.ensures c.in-Some.ensures

pub returns-clause-kind : goal.returns-clause-kind
returns-clause-kind c fit =
    let old = c.args.old.now in
    let new = c.args.new.now in
    let differing = c.in_ok-differing.differing in
    let within = c.args.within in
    let some = some_document c.args.id old fit in
    let old_within = same_bools c.has_entities-old_within.result within c.if-old_within-within.false in
    let known = (documents c.args.id old some.document).0 some.is in
    entity_page c.args.id old new some.document c.in_ok-gone.gone within differing some.is
    (subst (λ (n : ℕ). AreDiffering n old new differing) c.depth_of-depth.ensures (c.in_ok-differing.ensures known.tree known.has_tree.reads known.has_tree.not_deep))
    (sym c.has_entities-old_within.ensures ∙ old_within) c.in_ok-gone.ensures
