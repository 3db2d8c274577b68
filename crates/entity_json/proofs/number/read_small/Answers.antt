-- 0 is written 0; another number begins with 1 to 9, and then `parse` reads the number that is written so.
use Rattle.std.proofs.Common.{◌≡◌, [], ◌∷◌, true, Some, arith, sym, ap, ◌∙◌}
use Rattle.std.specs.Result.{result_ok}
use Rattle.std.specs.Str.{bytes_eq}
use Rattle.std.proofs.lemmas.Fmt.{decimal_injective, parse-decimal}
use Rattle.std.proofs.lemmas.Slice.Eq.{bytes_eq-Decides}
use Rattle.digits.proofs.Decimals.{number_read, zero_written}
use Rattle.entity_json.proofs.SmallNumbers.{small-starts}
use Rattle.entity_json.proofs.number.read_small.Goals as goal

pub returns-then-eq-clause-sound : goal.returns-then-eq-clause-sound
returns-then-eq-clause-sound c =
    let same : c.args.text.now ≡ 48 ∷ [] = (bytes_eq-Decides c.args.text.now (48 ∷ [])).0 (sym c.eq.ensures ∙ c.if-eq.true) in
    (omega arith, zero_written ∙ sym same)

pub returns-then-eq-clause-complete : goal.returns-then-eq-clause-complete
returns-then-eq-clause-complete c = λ n low is.
    let same : c.args.text.now ≡ 48 ∷ [] = (bytes_eq-Decides c.args.text.now (48 ∷ [])).0 (sym c.eq.ensures ∙ c.if-eq.true) in
    ap Some (decimal_injective 0 n (omega arith) (omega arith) (zero_written ∙ sym same ∙ sym is))

pub returns-then-starts_above_zero-clause-sound : goal.returns-then-starts_above_zero-clause-sound
returns-then-starts_above_zero-clause-sound c =
    let first = c.starts_above_zero.ensures.0 c.if-starts_above_zero.true in
    rw c.ok.ensures.value (number_read 8 _ _ (omega arith) c.parse.ensures.value.0 first.0)

pub returns-then-starts_above_zero-clause-complete :
    goal.returns-then-starts_above_zero-clause-complete
returns-then-starts_above_zero-clause-complete c = λ n low is.
    c.ok.ensures.value ∙ ap result_ok (parse-decimal 8 n c.args.text.now _ low (omega arith) (sym is) c.parse.ensures.value.0)

pub returns-else-starts_above_zero-clause-complete :
    goal.returns-else-starts_above_zero-clause-complete
returns-else-starts_above_zero-clause-complete c = λ n low is.
    let first = small-starts n c.args.text.now low is (λ e. let tests = ap (λ s. bytes_eq s (48 ∷ [])) e in cc (tests, c.eq.ensures, c.if-eq.false)) in
    let starts : c.starts_above_zero.result ≡ true = c.starts_above_zero.ensures.1 (first.0, first.1) in
    cc (starts, c.if-starts_above_zero.false)
