-- Word by word.
use Rattle.std.proofs.Common.{◌∙◌, List, ℕ, ◌∷◌, [], ◌++◌, codes, arith}
use Rattle.std.specs.Fmt.{decimal}
use Rattle.replica.specs.declared.head.Head.{Head as TheHead}
use Rattle.replica.proofs.Heads.{line_words, no_space_in_decimal, no_space_in_mark, no_space_in_name, no_space_in_sign}
use Rattle.replica.proofs.head.number_words.Goals as goal

-- what stands behind each word
abbrev after_adds : TheHead → List ℕ
after_adds head = 45 ∷ decimal head.removes

abbrev after_number : TheHead → List ℕ
after_number head = (43 ∷ decimal head.adds) ++ 32 ∷ after_adds head

abbrev after_name : TheHead → List ℕ
after_name head = decimal head.number ++ 32 ∷ after_number head

abbrev after_mark : TheHead → List ℕ
after_mark head = codes "patch" ++ 32 ∷ after_name head

pub returns-in_err-mark : goal.returns-in_err-mark
returns-in_err-mark c = λ head is. absurd (c.in_err-mark.ensures (35 ∷ []) (after_mark head) no_space_in_mark (is.text ∙ line_words head))

pub returns-in_err-name : goal.returns-in_err-name
returns-in_err-name c = λ head is.
    let mark = c.in_ok-mark.ensures (35 ∷ []) (after_mark head) no_space_in_mark (is.text ∙ line_words head) in
    absurd (c.in_err-name.ensures (codes "patch") (after_name head) no_space_in_name mark.1)

pub returns-in_err-number : goal.returns-in_err-number
returns-in_err-number c = λ head is.
    let mark = c.in_ok-mark.ensures (35 ∷ []) (after_mark head) no_space_in_mark (is.text ∙ line_words head) in
    let name = c.in_ok-name.ensures (codes "patch") (after_name head) no_space_in_name mark.1 in
    absurd (c.in_err-number.ensures (decimal head.number) (after_number head) (no_space_in_decimal head.number is.number) name.1)

pub returns-in_err-adds : goal.returns-in_err-adds
returns-in_err-adds c = λ head is.
    let mark = c.in_ok-mark.ensures (35 ∷ []) (after_mark head) no_space_in_mark (is.text ∙ line_words head) in
    let name = c.in_ok-name.ensures (codes "patch") (after_name head) no_space_in_name mark.1 in
    let number = c.in_ok-number.ensures (decimal head.number) (after_number head) (no_space_in_decimal head.number is.number) name.1 in
    absurd (c.in_err-adds.ensures (43 ∷ decimal head.adds) (after_adds head) (no_space_in_sign 43 head.adds (λ e. absurd (omega arith)) is.adds) number.1)

pub returns : goal.returns
returns c = λ head is.
    let mark = c.in_ok-mark.ensures (35 ∷ []) (after_mark head) no_space_in_mark (is.text ∙ line_words head) in
    let name = c.in_ok-name.ensures (codes "patch") (after_name head) no_space_in_name mark.1 in
    let number = c.in_ok-number.ensures (decimal head.number) (after_number head) (no_space_in_decimal head.number is.number) name.1 in
    let adds = c.in_ok-adds.ensures (43 ∷ decimal head.adds) (after_adds head) (no_space_in_sign 43 head.adds (λ e. absurd (omega arith)) is.adds) number.1 in
    (number.0, adds.0, adds.1)
