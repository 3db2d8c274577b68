-- Pages in memory that is lent.
use Rattle.std.specs.Prelude.{ℕ, ◌==◌, ◌+◌, List, Option, None, Some, if◌then◌else◌, find, reverse, take, drop, length, nat_le}
use Rattle.revisions.specs.Revisions.{Contents}
use Rattle.memory_run.specs.declared.pages.Place.{Place}

-- the last place of a revision
abbrev pub place_at : List Place → ℕ → Option Place
place_at places rev = find (λ (p : Place). p.revision == rev) (reverse places)

-- so many bytes from a start on, if they are there
abbrev pub part_of : List ℕ → ℕ → ℕ → Option (List ℕ)
part_of bytes start len = if nat_le (start + len) (length bytes) then Some (take len (drop start bytes)) else None

-- the bytes of a revision, where this says which place it has
abbrev pub page_at : (ℕ → Option Place) → List ℕ → ℕ → Option (List ℕ)
page_at place bytes rev = by (place rev)
  where
    by : Option Place → Option (List ℕ)
    by None = None
    by (Some p) = part_of bytes p.start p.length

-- what is at each revision, whatever the folder
abbrev pub contents_of : (ℕ → Option Place) → List ℕ → Contents
contents_of place bytes = λ _ rev. page_at place bytes rev
