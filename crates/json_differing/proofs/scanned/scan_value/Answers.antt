-- What a scan found.
use Rattle.json_differing.proofs.scanned.scan_value.Goals as goal

pub returns-in-Some-clause-read : goal.returns-in-Some-clause-read
returns-in-Some-clause-read c has = c.in-Some.ensures.read c.args.levels has

pub returns-in-Some-clause-known : goal.returns-in-Some-clause-known
returns-in-Some-clause-known c has closed = c.in-Some.ensures.known c.args.levels has
