-- A JSON value as definitions speak of it (RFC 8259, section 3), and the members of an object.
use Rattle.std.specs.Prelude.{ℕ, List, Bool, Option, Some, None, cond}
use Rattle.std.specs.Str.{bytes_eq}

mutual
  -- A number is its spelling, and a string its characters in UTF-8 with the escapes replaced.
  pub data Tree : Type 0 where
    null : Tree
    boolean : Bool → Tree
    number : List ℕ → Tree
    string : List ℕ → Tree
    array : Trees → Tree
    object : Pairs → Tree

  -- the values of an array, in order
  pub data Trees : Type 0 where
    no_trees : Trees
    tree : Tree → Trees → Trees

  -- the members of an object, in order, with those that repeat a name
  pub data Pairs : Type 0 where
    no_pairs : Pairs
    pair : List ℕ → Tree → Pairs → Pairs

-- the first of two options that is there
abbrev pub first_there : {A : Type 0} → Option A → Option A → Option A
first_there (Some a) other = Some a
first_there None other = other

-- the value of the last member with the name
abbrev pub last_member : List ℕ → Pairs → Option Tree
last_member name no_pairs = None
last_member name (pair key value rest) = first_there (last_member name rest) (cond (bytes_eq key name) (Some value) None)

-- the value of the last member with the name, where the value is an object that has one
abbrev pub member_of : List ℕ → Tree → Option Tree
member_of name null = None
member_of name (boolean b) = None
member_of name (number spelling) = None
member_of name (string content) = None
member_of name (array values) = None
member_of name (object members) = last_member name members
