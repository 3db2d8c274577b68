-- Both texts were read whole.
use Rattle.std.proofs.Common.{◌≡◌, ◌==◌, length, [], true, sym, ◌∙◌, arith}
use Rattle.std.proofs.lemmas.List.{nil_from_length}
use Rattle.std.proofs.lemmas.Bool.Decides.{nat_tests}
use Rattle.json_differing.specs.Readable.{HasValue}
use Rattle.json_spell.proofs.Complete.{text-complete}
use Rattle.json_differing.proofs.Lows.{low_nests}
use Rattle.json_differing.proofs.Founds.{texts_differ}
use Rattle.json_differing.proofs.differing.read_differing.Goals as goal

pub returns : goal.returns
returns c t reads low =
    let old_rest = c.in_ok-found.found.rests.old.now in
    let new_rest = c.in_ok-found.found.rests.new.now in
    let no_old : (length old_rest == 0) ≡ true = sym c.is_empty.ensures ∙ c.if-not-is_empty.false in
    let no_new : (length new_rest == 0) ≡ true = sym c.is_empty-else-not-is_empty.ensures ∙ c.if-not-is_empty-2.false in
    let old_ends : old_rest ≡ [] = nil_from_length old_rest (grind (arith, nat_tests)) in
    let new_ends : new_rest ≡ [] = nil_from_length new_rest (grind (arith, nat_tests)) in
    let has : HasValue 64 c.args.old.now = record { tree = t; rest = []; read = text-complete c.args.old.now t reads; nests = low_nests c.args.old.now t reads low } in
    texts_differ c.args.depth (record { old = c.args.old; new = c.args.new }) c.in_ok-found.found (c.in_ok-found.ensures.found has) old_ends new_ends
