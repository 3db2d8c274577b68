-- The reader of language tags accepts just the tags.
use Rattle.std.proofs.Common.{◌≡◌, ℕ, ◌<◌, Bool, true, false, ◌&&◌, List, [], ◌∷◌, ◌==◌, length, refl, ◌∙◌, arith, ⊎_elim, ne_eqb, if◌then◌else◌, Some, None}
use Rattle.std.specs.Char.{is_ascii_alphabetic, is_ascii_alphanumeric}
use Rattle.std.specs.List.{list_all, slice_split, onto_first}
use Rattle.std.specs.Option.{option_map_or}
use Rattle.std.proofs.lemmas.Bool.{cases_eq}
use Rattle.std.proofs.lemmas.List.Splits.{length-slice_split}
use Rattle.rdf_term.specs.declared.tag.TagState.{TagState}
use Rattle.rdf_term.specs.declared.tag.TagState.TheVariants.{Start, First, Dash, Later}
use Rattle.rdf_term.specs.Grammar.{are_tag_parts, is_tag, is_word}
use Rattle.rdf_term.specs.TagReader.{is_rest_of_tag, tag_state_after}

abbrev parts_of : List ℕ → List (List ℕ)
parts_of text = slice_split (λ c. c == 45) text

abbrev are_words : List (List ℕ) → Bool
are_words parts = list_all (is_word is_ascii_alphanumeric) parts

-- whether the parts may follow from here
abbrev may_follow : TagState → List (List ℕ) → Bool
may_follow Start [] = false
may_follow Start (part ∷ parts) = is_word is_ascii_alphabetic part && are_words parts
may_follow First [] = false
may_follow First (part ∷ parts) = list_all is_ascii_alphabetic part && are_words parts
may_follow Dash parts = are_words parts
may_follow Later [] = false
may_follow Later (part ∷ parts) = list_all is_ascii_alphanumeric part && are_words parts

after_dash : (state : TagState) (rest : TagState → Bool) (parts : List (List ℕ)) → ((q : TagState) → rest q ≡ may_follow q parts) → option_map_or rest (tag_state_after state 45) false ≡ may_follow state ([] ∷ parts)
after_dash Start rest parts h = refl
after_dash First rest parts h = h Dash
after_dash Dash rest parts h = refl
after_dash Later rest parts h = h Dash

after_other : (state : TagState) (x : ℕ) → (x == 45) ≡ false → (rest : TagState → Bool) (parts : List (List ℕ)) → 0 < length parts → ((q : TagState) → rest q ≡ may_follow q parts) → option_map_or rest (tag_state_after state x) false ≡ may_follow state (onto_first x parts)
after_other state x n rest [] l h = absurd (omega arith)
after_other Start x n rest (part ∷ parts) l h =
    let k = h First in elim (is_ascii_alphabetic x) as (λ b. option_map_or rest (if b then Some First else None) false ≡ ((b && list_all is_ascii_alphabetic part) && are_words parts)) [ true ↦ k | false ↦ refl ]
after_other First x n rest (part ∷ parts) l h =
    let k = h First in rw n (elim (is_ascii_alphabetic x) as (λ b. option_map_or rest (if b then Some First else None) false ≡ ((b && list_all is_ascii_alphabetic part) && are_words parts)) [ true ↦ k | false ↦ refl ])
after_other Dash x n rest (part ∷ parts) l h =
    let k = h Later in elim (is_ascii_alphanumeric x) as (λ b. option_map_or rest (if b then Some Later else None) false ≡ ((b && list_all is_ascii_alphanumeric part) && are_words parts)) [ true ↦ k | false ↦ refl ]
after_other Later x n rest (part ∷ parts) l h =
    let k = h Later in rw n (elim (is_ascii_alphanumeric x) as (λ b. option_map_or rest (if b then Some Later else None) false ≡ ((b && list_all is_ascii_alphanumeric part) && are_words parts)) [ true ↦ k | false ↦ refl ])

rest_read : (text : List ℕ) (state : TagState) → is_rest_of_tag state text ≡ may_follow state (parts_of text)
rest_read [] Start = refl
rest_read [] First = refl
rest_read [] Dash = refl
rest_read [] Later = refl
rest_read (x ∷ xs) state =
    ⊎_elim
    (λ e. rw e (after_dash state (λ q. is_rest_of_tag q xs) (parts_of xs) (rest_read xs)))
    (λ n. let apart = ne_eqb x 45 n in rw apart (after_other state x apart (λ q. is_rest_of_tag q xs) (parts_of xs) (omega (arith, length-slice_split (λ c. c == 45) xs)) (rest_read xs)))
    (cases_eq x 45)

pub is_tag_read : (text : List ℕ) → is_rest_of_tag Start text ≡ is_tag text
is_tag_read text = rest_read text Start ∙ by (parts_of text)
  where
    by : (parts : List (List ℕ)) → may_follow Start parts ≡ are_tag_parts parts
    by [] = refl
    by (part ∷ parts) = refl
