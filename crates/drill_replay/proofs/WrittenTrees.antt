-- The pages of a drill are their trees, written.
use Rattle.std.proofs.Common.{◌≡◌, ◌∙◌, refl, sym, ap, rules, ℕ, ◌<◌, ◌^◌, ◌%◌, List, [], ◌∷◌, ◌++◌, append_assoc, arith}
use Rattle.std.specs.Prelude.{decimal, codes}
use Rattle.std.specs.List.{concat}
use Rattle.std.proofs.lemmas.List.Folds.{concat-append}
use Rattle.json_spell.specs.Grammar.{Reads}
use Rattle.drill_replay.specs.Drill.{page_front, earlier_page, later_page, claims as claims_text}
use Rattle.drill_replay.specs.Trees.{earlier_tree, later_tree, page, labels, claims, statement, reference, source_snak, main, snak}
use Rattle.drill_replay.proofs.Printed.{AllPlain, decimal-plain, onto, plain-append, written_read}

earlier_plain : (i : ℕ) → i < 2 ^ 64 → AllPlain (earlier_tree i)
unfolding page labels
earlier_plain i h = let d = decimal-plain i h in search rules

abbrev front_pieces : ℕ → List (List ℕ)
front_pieces i =
    codes "{\"type\":\"item\",\"id\":\"Q" ∷ decimal i ∷
    codes "\",\"labels\":{\"en\":{\"language\":\"en\",\"value\":\"item " ∷ decimal i ∷
    codes "\"}}" ∷ []

abbrev end_pieces : List (List ℕ)
end_pieces = codes "}" ∷ []

earlier_is : (i : ℕ) → earlier_page i ≡ onto (earlier_tree i) []
unfolding page labels page_front
earlier_is i = sym (concat-append (front_pieces i) end_pieces) ∙ refl

pub earlier_read : (i : ℕ) → i < 2 ^ 64 → Reads (earlier_page i) (earlier_tree i)
earlier_read i h = written_read (earlier_tree i) (earlier_page i) (earlier_plain i h) (earlier_is i)

abbrev claims_pieces : ℕ → ℕ → ℕ → List (List ℕ)
claims_pieces i amount source =
    codes ",\"claims\":{\"P1\":[{\"mainsnak\":{\"snaktype\":\"value\",\"property\":\"P1\",\"datavalue\":{\"type\":\"quantity\",\"value\":{\"amount\":\"+" ∷ decimal amount ∷
    codes "\",\"unit\":\"1\"}}},\"id\":\"Q" ∷ decimal i ∷
    codes "$1\",\"rank\":\"normal\",\"references\":[{\"hash\":\"" ∷ decimal source ∷
    codes "\",\"snaks\":{\"P2\":[{\"snaktype\":\"value\",\"property\":\"P2\",\"datavalue\":{\"type\":\"string\",\"value\":\"source " ∷ decimal source ∷
    codes "\"}}]}}]}]}" ∷ []

claims_are : (i amount source : ℕ) → claims_text i amount source ≡ concat (claims_pieces i amount source)
unfolding claims_text
claims_are i amount source = refl

later_is : (i : ℕ) → later_page i ≡ onto (later_tree i) []
unfolding page labels page_front claims statement reference source_snak main snak
later_is i =
    ap (λ q. page_front i ++ q ++ codes "}") (claims_are i (i % 7) (i % 3))
    ∙ ap (λ q. q ++ codes "}") (sym (concat-append (front_pieces i) (claims_pieces i (i % 7) (i % 3))))
    ∙ sym (concat-append (front_pieces i ++ claims_pieces i (i % 7) (i % 3)) end_pieces)
    ∙ rw (append_assoc (decimal i) (codes "$1")) refl

later_plain : (i : ℕ) → i < 2 ^ 64 → AllPlain (later_tree i)
unfolding page labels claims statement reference source_snak main snak
later_plain i h =
    let d = decimal-plain i h in
    let e = decimal-plain (i % 7) (omega arith) in
    let f = decimal-plain (i % 3) (omega arith) in
    let g = plain-append (decimal i) (codes "$1") d (refl, (refl, tt)) in
    search rules

pub later_read : (i : ℕ) → i < 2 ^ 64 → Reads (later_page i) (later_tree i)
later_read i h = written_read (later_tree i) (later_page i) (later_plain i h) (later_is i)
