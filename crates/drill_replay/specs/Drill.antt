-- The drill of a size: its deliveries, and the pages of its revisions.
use Rattle.std.specs.Prelude.{ℕ, ◌+◌, ◌-◌, ◌*◌, ◌/◌, ◌%◌, ◌≤◌, ◌==◌, ◌&&◌, nat_le, if◌then◌else◌, List, [], ◌∷◌, ◌++◌, decimal, codes, Option, Some, None, ℤ, pos}
use Rattle.std.specs.List.{concat, flat_map, range_with_len}
use Rattle.entity_model.specs.declared.id.EntityId.{EntityId}
use Rattle.entity_model.specs.declared.id.IdKind.TheVariants.{Q}
use Rattle.entity_model.specs.declared.event.Kind.{Kind}
use Rattle.entity_model.specs.declared.event.Kind.TheVariants.{Edit, Delete}
use Rattle.delivery.specs.declared.Delivery.{Delivery}
use Rattle.delivery.specs.declared.Delivery.TheVariants.{Event as Told, Watermark}

-- the sizes that a drill has, and the numbers of its items
abbrev pub IsSize : ℕ → Type 0
IsSize n = (1 ≤ n) × (n ≤ 200_000)

-- the item with a number, as Q42
abbrev pub item : ℕ → EntityId
item i = record { kind = Q; number = i }

-- so many seconds after 1970-01-01T00:00:00Z, in microseconds
abbrev pub time_at : ℕ → ℤ
time_at second = pos (1_000_000 * second)

-- what happened to the item's page at a revision and a second
abbrev pub event : Kind → ℕ → ℕ → ℕ → Delivery
event kind i rev second = Told (record { entity = item i; time = time_at second; rev = rev; kind = kind })

-- the edits of an item: the later one, the earlier one after it, and the later one again
abbrev pub edits : ℕ → List Delivery
edits i =
    event Edit i (2 * i) (2 * i) ∷ event Edit i (2 * i - 1) (2 * i - 1) ∷ event Edit i (2 * i) (2 * i) ∷ []

-- each fifth item is deleted, at the time and the revision of its later edit
abbrev pub deletion : ℕ → List Delivery
deletion i = if i % 5 == 0 then event Delete i (2 * i) (2 * i) ∷ [] else []

-- after each tenth item stands a watermark, and then an edit of a time before it
abbrev pub late_edit : ℕ → List Delivery
late_edit i =
    if i % 10 == 0 then Watermark (time_at (2 * i)) ∷ event Edit i (2 * i - 1) (2 * i - 3) ∷ [] else []

-- the deliveries of an item
abbrev pub item_deliveries : ℕ → List Delivery
item_deliveries i = edits i ++ deletion i ++ late_edit i

-- the deliveries of the drill of a size: those of the items from 1 to the size, in turn
abbrev pub drill : ℕ → List Delivery
drill size = flat_map item_deliveries (range_with_len 1 size)

-- the page of an item up to its last brace: its id and its label
unfoldable pub page_front : ℕ → List ℕ
page_front i = concat (
    codes "{\"type\":\"item\",\"id\":\"Q" ∷ decimal i ∷
    codes "\",\"labels\":{\"en\":{\"language\":\"en\",\"value\":\"item " ∷ decimal i ∷
    codes "\"}}" ∷ [])

-- the claims of an item, a member of its page: one statement of an amount, with one reference to a source
unfoldable pub claims : ℕ → ℕ → ℕ → List ℕ
claims i amount source = concat (
    codes ",\"claims\":{\"P1\":[{\"mainsnak\":{\"snaktype\":\"value\",\"property\":\"P1\",\"datavalue\":{\"type\":\"quantity\",\"value\":{\"amount\":\"+" ∷ decimal amount ∷
    codes "\",\"unit\":\"1\"}}},\"id\":\"Q" ∷ decimal i ∷
    codes "$1\",\"rank\":\"normal\",\"references\":[{\"hash\":\"" ∷ decimal source ∷
    codes "\",\"snaks\":{\"P2\":[{\"snaktype\":\"value\",\"property\":\"P2\",\"datavalue\":{\"type\":\"string\",\"value\":\"source " ∷ decimal source ∷
    codes "\"}}]}}]}]}" ∷ [])

-- the page of an item at its earlier revision
abbrev pub earlier_page : ℕ → List ℕ
earlier_page i = page_front i ++ codes "}"

-- the page of an item at its later revision: the same with claims
abbrev pub later_page : ℕ → List ℕ
later_page i = page_front i ++ claims i (i % 7) (i % 3) ++ codes "}"

-- the page at a revision: revision 2i - 1 is the earlier one of item i, and revision 2i the later one
abbrev pub page_of : ℕ → List ℕ
page_of rev = if rev % 2 == 0 then later_page (rev / 2) else earlier_page ((rev + 1) / 2)

-- what is at a revision of the drill of a size: a page from 1 to twice the size
abbrev pub contents_of : ℕ → ℕ → Option (List ℕ)
contents_of size rev = if nat_le 1 rev && nat_le rev (2 * size) then Some (page_of rev) else None
