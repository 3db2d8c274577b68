-- What stands behind the sign.
use Rattle.std.proofs.Common.{◌≡◌, None, Some}
use Rattle.std.specs.Fmt.{decimal}
use Rattle.std.proofs.lemmas.Str.Pattern.{strip_prefix_char}
use Rattle.replica.proofs.head.signed_number.Goals as goal

pub returns-in_err-digits : goal.returns-in_err-digits
returns-in_err-digits c = λ n small is.
    absurd (strip_prefix_char c.args.sign c.args.text.now None c.in_err-digits.ensures.cases c.requires (decimal n) is)

pub returns : goal.returns
returns c = λ n small is.
    let front = strip_prefix_char c.args.sign c.args.text.now (Some c.in_ok-digits.digits) c.in_ok-digits.ensures.cases c.requires in
    let same : c.in_ok-digits.digits.now ≡ decimal n = cc in
    c.number.ensures n small same
