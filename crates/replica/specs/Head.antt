-- The first line of a record.
use Rattle.std.specs.Prelude.{◌≡◌, ◌≢◌, ℕ, ◌<◌, ◌^◌, List, ◌++◌, codes, length, slice_index}
use Rattle.std.specs.Fmt.{decimal}
use Rattle.replica.specs.declared.head.Head.{Head}

-- the line, without its line feed: the record's number, and how many triples come and go
unfoldable pub head_line : Head → List ℕ
head_line head = codes "# patch " ++ decimal head.number ++ codes " +" ++ decimal head.adds ++ codes " -" ++ decimal head.removes

-- the line is that of the head, whose record is numbered from 1; each number has at most 64 bits
pub record IsHead (line : List ℕ) (head : Head) : Type 0 where
  pub text : line ≡ head_line head
  pub numbered : 0 < head.number
  pub number : head.number < 2 ^ 64
  pub adds : head.adds < 2 ^ 64
  pub removes : head.removes < 2 ^ 64

-- the bytes have no space
abbrev pub HasNoSpace : List ℕ → Type 0
HasNoSpace bytes = (i : ℕ) → i < length bytes → slice_index bytes i ≢ 32
