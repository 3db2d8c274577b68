use Rattle.std.proofs.Common.{◌≡◌, ◌++◌, ◌∙◌, sym, ap, true, length, ◌==◌, arith}
use Rattle.std.proofs.lemmas.Bool.Decides.{nat_tests}
use Rattle.std.proofs.lemmas.List.{nil_from_length}
use Rattle.std.proofs.lemmas.List.Filters.{dedup_is}
use Rattle.sorted_sets.specs.Rising.{sorted}
use Rattle.sorted_sets.proofs.Sorting.{deduped}
use Rattle.slot_keys.specs.Keys.{key_cmp, key_cmp-total, key_cmp-IsAntisymmetric}
use Rattle.slot_keys.specs.Marks.{marked}
use Rattle.slot_keys.proofs.Marked.{kept_alone, kept_sorted}
use Rattle.slot_keys.proofs.keys.merged.Goals as goal

pub returns-then-is_empty : goal.returns-then-is_empty
returns-then-is_empty c =
    let none : (length c.as_slice-rest.result.now == 0) ≡ true = sym c.is_empty.ensures ∙ c.if-is_empty.true in
    c.in_ok-keys.ensures ∙ ap (marked c.args.old.now) c.as_slice.ensures.value
    ∙ kept_alone key_cmp-total key_cmp-IsAntisymmetric c.args.old.now c.args.met.now c.in_ok-parted.parted.kept.items c.in_ok-parted.parted.rest.items c.requires (sym c.as_slice-rest.ensures.value ∙ nil_from_length c.as_slice-rest.result.now (grind (arith, nat_tests))) c.in_ok-parted.ensures.same

pub returns : goal.returns
returns c =
    let kept = c.in_ok-parted.parted.kept.items in
    let rest = c.in_ok-parted.parted.rest.items in
    let both : c.extend_from_slice.new.self.items ≡ marked c.args.old.now kept ++ rest =
    c.in_ok-extend_from_slice.ensures.items
    ∙ ap (λ ks. ks ++ c.as_slice-rest.result.now) (c.in_ok-keys.ensures ∙ ap (marked c.args.old.now) c.as_slice.ensures.value)
    ∙ ap (λ ks. marked c.args.old.now kept ++ ks) c.as_slice-rest.ensures.value in
    kept_sorted key_cmp-total key_cmp-IsAntisymmetric c.args.old.now c.args.met.now kept rest c.dedup.new.self.items
    (dedup_is _ _ _ c.dedup.ensures.filtered ∙ deduped key_cmp-total key_cmp-IsAntisymmetric c.extend_from_slice.new.self.items c.sort.new.self.items c.in_ok-sort.ensures.permutation c.in_ok-sort.ensures.sorted ∙ ap (sorted key_cmp) both)
    c.in_ok-parted.ensures.same
