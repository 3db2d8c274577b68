-- The values of lines in the form in which most programs write them.
use Rattle.std.specs.Prelude.{ℕ, List, codes}
use Rattle.serde_json.specs.Data.{Data, unsigned, number, string, array, object, no_items, item, no_members, member}

-- of an event with these members; an object has its keys in order
abbrev pub event_data : List ℕ → List ℕ → ℕ → List ℕ → Data
event_data kind entity rev time =
    object (member (codes "entity") (string entity)
    (member (codes "kind") (string kind)
    (member (codes "rev") (number (unsigned rev))
    (member (codes "time") (string time) no_members))))

-- of a watermark at this time
abbrev pub watermark_data : List ℕ → Data
watermark_data time = object (member (codes "watermark") (string time) no_members)

-- of a question with these texts
abbrev pub ask_data : List ℕ → List ℕ → List ℕ → Data
ask_data subject predicate wanted =
    object (member (codes "ask") (array (item (string subject) (item (string predicate) (item (string wanted) no_items)))) no_members)
