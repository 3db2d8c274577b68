-- The scan ends where the value does.
use Rattle.json_differing.proofs.SpelledTexts.{scanned_closed, scanned_read}
use Rattle.json_differing.proofs.scanned.scan_closed.Goals as goal

pub returns-clause-read : goal.returns-clause-read
returns-clause-read c levels has =
    scanned_read levels c.args.bytes.now c.skip_ws-start.result.now c.in_ok-end.end.now c.before-text.result.now c.skip_ws-rest.result.now has c.skip_ws-start.ensures.rest c.before-text.ensures c.skip_ws-rest.ensures.rest
    c.in_ok-end.ensures.rest

pub returns-clause-known : goal.returns-clause-known
returns-clause-known c levels has =
    scanned_closed levels c.args.bytes.now c.skip_ws-start.result.now c.in_ok-end.end.now c.before-text.result.now c.skip_ws-rest.result.now has c.skip_ws-start.ensures.rest c.before-text.ensures c.skip_ws-rest.ensures.rest
    c.in_ok-end.ensures.rest
