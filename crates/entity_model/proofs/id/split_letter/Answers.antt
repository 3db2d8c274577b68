-- Where the text begins with none of the letters, it is the text of no id.
use Rattle.std.proofs.Common.{◌≢◌, ℕ, List, ◌∷◌, arith, None}
use Rattle.std.proofs.lemmas.Str.Pattern.{strip_prefix_char}
use Rattle.entity_model.specs.declared.id.IdKind.{IdKind}
use Rattle.entity_model.specs.declared.id.IdKind.TheVariants.{P, Q, L}
use Rattle.entity_model.specs.IdKind.{letter_of}
use Rattle.entity_model.proofs.id.split_letter.Goals as goal

-- a text that begins with none of the letters begins with no kind's
none_of : (bs : List ℕ) → ((rest : List ℕ) → bs ≢ 80 ∷ rest) → ((rest : List ℕ) → bs ≢ 81 ∷ rest) → ((rest : List ℕ) → bs ≢ 76 ∷ rest) → (kind : IdKind) (rest : List ℕ) → bs ≢ letter_of kind ∷ rest
none_of bs not_p not_q not_l P rest = not_p rest
none_of bs not_p not_q not_l Q rest = not_q rest
none_of bs not_p not_q not_l L rest = not_l rest

pub returns-in_err-rest-clause-none : goal.returns-in_err-rest-clause-none
returns-in_err-rest-clause-none c =
    let not_p = strip_prefix_char 80 c.args.text.now None c.in_default.ensures.cases (omega arith) in
    let not_q = strip_prefix_char 81 c.args.text.now None c.in_default-strip_prefix.ensures.cases (omega arith) in
    let not_l = strip_prefix_char 76 c.args.text.now None c.in_err-rest.ensures.cases (omega arith) in
    rw c.from_residual.ensures (none_of c.args.text.now not_p not_q not_l)
