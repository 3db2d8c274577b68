-- The causes in their order, and then the page.
use Rattle.std.proofs.Common.{◌≤◌, length, ap, arith}
use Rattle.std.proofs.lemmas.Result.{err_from_is_err_and}
use Rattle.json_spell.specs.View.{json_view}
use Rattle.entity_json.specs.Document.{page_limit, unfit_by}
use Rattle.entity_json.proofs.Outcomes.{outcome-large}
use Rattle.entity_documents.proofs.AnswerLemmas.{text-refused, page-refused, page-told, small-told, owned-told}
use Rattle.entity_documents.proofs.reading.document.Goals as goal

pub returns-then-bytes-gt-PAGE_LIMIT-clause-answer : goal.returns-then-bytes-gt-PAGE_LIMIT-clause-answer
returns-then-bytes-gt-PAGE_LIMIT-clause-answer c = ap unfit_by (outcome-large c.args.id c.args.bytes.now (omega arith))

pub returns-in_err-json-clause-answer : goal.returns-in_err-json-clause-answer
returns-in_err-json-clause-answer c =
    let short : length c.args.bytes.now ≤ page_limit = omega arith in
    let p = err_from_is_err_and c.from_residual.result c.from_residual.ensures.1 in
    rw (p.1, p.2) (text-refused c.args.id c.args.bytes.now c.in_err-json.field-0.0 short c.in_err-json.ensures)

pub returns-in_err-page_of-clause-answer : goal.returns-in_err-page_of-clause-answer
returns-in_err-page_of-clause-answer c =
    let short : length c.args.bytes.now ≤ page_limit = omega arith in
    let p = err_from_is_err_and c.from_residual-in_err-page_of.result c.from_residual-in_err-page_of.ensures.1 in
    rw (p.1, p.2)
    (page-refused c.args.id c.args.bytes.now (json_view c.in_ok-json.json) c.in_err-page_of.field-0.0 short c.in_ok-json.ensures.0 c.in_ok-json.ensures.1 c.in_err-page_of.ensures)

pub returns-clause-answer : goal.returns-clause-answer
returns-clause-answer c =
    let short : length c.args.bytes.now ≤ page_limit = omega arith in
    page-told c.args.id c.args.bytes.now (json_view c.in_ok-json.json) c.in_ok-page_of.field-0 c.own_document.result short c.in_ok-json.ensures.0 c.in_ok-json.ensures.1 c.in_ok-page_of.ensures c.own_document.ensures

pub returns-clause-small : goal.returns-clause-small
returns-clause-small c =
    let short : length c.args.bytes.now ≤ page_limit = omega arith in
    small-told c.args.id c.args.bytes.now c.own_document.result
    (page-told c.args.id c.args.bytes.now (json_view c.in_ok-json.json) c.in_ok-page_of.field-0 c.own_document.result short c.in_ok-json.ensures.0 c.in_ok-json.ensures.1 c.in_ok-page_of.ensures c.own_document.ensures)

pub returns-clause-owned : goal.returns-clause-owned
returns-clause-owned c =
    let short : length c.args.bytes.now ≤ page_limit = omega arith in
    owned-told c.args.id c.args.bytes.now c.own_document.result
    (page-told c.args.id c.args.bytes.now (json_view c.in_ok-json.json) c.in_ok-page_of.field-0 c.own_document.result short c.in_ok-json.ensures.0 c.in_ok-json.ensures.1 c.in_ok-page_of.ensures c.own_document.ensures)
