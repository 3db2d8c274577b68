-- The value and what is left behind it. What nests no deeper than allowed isn't deep.
use Rattle.std.proofs.Common.{◌≡◌, ◌==◌, length, Some, true, false, sym, ap, ◌∙◌, arith}
use Rattle.std.proofs.lemmas.List.{nil_from_length}
use Rattle.std.proofs.lemmas.Result.{err_from_is_err_and}
use Rattle.std.proofs.lemmas.Bool.Decides.{nat_tests}
use Rattle.json_spell.specs.View.{json_view}
use Rattle.json_spell.proofs.Complete.{text-sound}
use Rattle.json_spell.proofs.Levels.{reads_low}
use Rattle.json_spell.proofs.AnswerLemmas.{excuses-passed, excuses-behind}
use Rattle.json_reader.proofs.reader.read_whole.Goals as goal

pub returns-in_err-json : goal.returns-in_err-json
returns-in_err-json c =
    let p = err_from_is_err_and c.from_residual.result c.from_residual.ensures.1 in
    rw (p.1, p.2) (excuses-passed c.args.bytes.now c.in_err-json.field-0.0 c.in_err-json.ensures.read)

pub returns-then-not-is_empty : goal.returns-then-not-is_empty
returns-then-not-is_empty c =
    let some_left : (length c.in_ok-json.rest.now == 0) ≡ false = sym c.is_empty.ensures ∙ c.if-not-is_empty.true in
    excuses-behind c.args.bytes.now c.in_ok-json.rest.now (json_view c.in_ok-json.json) c.in_ok-json.ensures.read
    (λ e. let none_left : (length c.in_ok-json.rest.now == 0) ≡ true = ap (λ q. length q == 0) e in cc)

pub returns : goal.returns
returns c =
    let none_left : (length c.in_ok-json.rest.now == 0) ≡ true = sym c.is_empty.ensures ∙ c.if-not-is_empty.false in
    let rest_is = nil_from_length c.in_ok-json.rest.now (grind (arith, nat_tests)) in
    let reads = text-sound c.args.bytes.now (json_view c.in_ok-json.json) (c.in_ok-json.ensures.read ∙ ap (λ q. Some (json_view c.in_ok-json.json, q)) rest_is) in
    (reads_low c.args.bytes.now (json_view c.in_ok-json.json) reads c.in_ok-json.ensures.nests, reads)
