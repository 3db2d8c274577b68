-- A key that is stored before and after stands for the same triple.
use Rattle.std.proofs.Common.{◌≡◌, ◌<◌, true, List, sym, ◌∙◌, subst, arith}
use Rattle.rdf_term.specs.declared.triple.Triple.{Triple}
use Rattle.text_region.specs.Region.{Texts}
use Rattle.slot_keys.specs.declared.key.Key.{Key}
use Rattle.triple_catalog.specs.{declared.catalog.Catalog.Catalog, Counts.count_of, Moves.Removes, Slots.triple_at}
use Rattle.triple_catalog.specs.Stored.{HasKey, IsStored, counts_in, is_key}
use Rattle.triple_catalog.proofs.Live.{key_same, tells}
use Rattle.triple_catalog.proofs.Standing.{counted_key, key_stored, stored_if, stored_key}

-- where triples went
pub left_again : (now : Catalog) (s : Texts) (new : Catalog) (u : Texts) (gone : List Key) → IsStored now s → Removes now s new u gone → (key : Key) (t : Triple) → HasKey now s key t → is_key new key ≡ true → HasKey new u key t
left_again now s new u gone stored less key t was is =
    let held : Triple = triple_at new.pool u key in
    let later : HasKey new u key held = stored_key new u less.stored key is in
    let some : 0 < count_of (counts_in new u) held = counted_key new u less.stored key held later in
    let before : 0 < count_of (counts_in now s) held = omega (arith, some, less.counts held) in
    let one : (k : Key) × HasKey now s k held = key_stored now s stored held (stored_if (counts_in now s) held before) in
    let kept : HasKey new u one.0 held = less.keeps.kept one.0 held one.1 some in
    let same : one.0 ≡ key = key_same new.pool u one.0 key held less.stored.lies kept.has later.has in
    let here : HasKey now s key held = subst (λ (k : Key). HasKey now s k held) same one.1 in
    let eq : held ≡ t = sym (tells now.pool s key held here.has) ∙ tells now.pool s key t was.has in
    subst (λ (x : Triple). HasKey new u key x) eq later
