-- The letters of ids.
use Rattle.std.specs.Prelude.{◌≡◌, ℕ, refl}
use Rattle.entity_model.specs.declared.id.IdKind.{IdKind}
use Rattle.entity_model.specs.declared.id.IdKind.TheVariants.{P, Q, L}

-- the place of a kind in the order of ids
abbrev pub id_kind_place : IdKind → ℕ
id_kind_place P = 0
id_kind_place Q = 1
id_kind_place L = 2

-- the letter of a kind, in ASCII
abbrev pub letter_of : IdKind → ℕ
letter_of P = 80
letter_of Q = 81
letter_of L = 76

-- kinds at one place are one kind
pub id_kind_place_same : (k l : IdKind) → id_kind_place k ≡ id_kind_place l → k ≡ l
id_kind_place_same P P e = refl
id_kind_place_same P Q e = cc
id_kind_place_same P L e = cc
id_kind_place_same Q P e = cc
id_kind_place_same Q Q e = refl
id_kind_place_same Q L e = cc
id_kind_place_same L P e = cc
id_kind_place_same L Q e = cc
id_kind_place_same L L e = refl
