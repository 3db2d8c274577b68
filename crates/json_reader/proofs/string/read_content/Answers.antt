-- Each way through the loop is a step of the content.
use Rattle.std.proofs.Common.{◌≡◌, ◌∷◌, ◌++◌, ◌==◌, false, sym, ap, ◌∙◌, arith, rules}
use Rattle.std.specs.Prelude.{encode_utf8}
use Rattle.std.specs.String.{string_bytes}
use Rattle.std.proofs.lemmas.Bool.Decides.{nat_tests}
use Rattle.json_spell.proofs.ContentSteps.{content_at-end, content_at-closed, content_at-escape, content_at-no_escape, content_at-other, content_so-none, content_so-closed, content_so-more}
use Rattle.json_reader.proofs.string.read_content.Goals as goal

pub returns-in_default-clause-read : goal.returns-in_default-clause-read
returns-in_default-clause-read c =
    let left = c.loop-content.left.now in
    content_so-none (string_bytes c.loop-content.content) left c.args.bytes.now c.loop-content.invariant.same
    (content_at-end left c.in_ok-rest.rest.now c.in_ok-rest.ensures.read c.in_default.ensures)

pub returns-then-byte-eq34-clause-read : goal.returns-then-byte-eq34-clause-read
returns-then-byte-eq34-clause-read c =
    let left = c.loop-content.left.now in
    let rest_is : c.in_ok-rest.rest.now ≡ 0x22 ∷ c.in-Some.rest.now = c.in-Some.ensures ∙ ap (λ b. b ∷ c.in-Some.rest.now) c.if-byte-eq34.true in
    content_so-closed (string_bytes c.loop-content.content) left c.args.bytes.now _ _ c.in-Some.rest.now c.loop-content.invariant.same
    (content_at-closed left c.in_ok-rest.rest.now c.in-Some.rest.now c.in_ok-rest.ensures.read rest_is) (c.into_bump_str.ensures ∙ c.in_ok-rest.ensures.pushed)

pub returns-then-byte-ne92-clause-read : goal.returns-then-byte-ne92-clause-read
returns-then-byte-ne92-clause-read c =
    let left = c.loop-content.left.now in
    let no_mark : (c.in-Some.byte == 0x22) ≡ false = grind (arith, nat_tests, c.if-byte-eq34.false) in
    let no_backslash : (c.in-Some.byte == 0x5C) ≡ false = grind (arith, nat_tests, c.if-byte-ne92.true) in
    content_so-none (string_bytes c.loop-content.content) left c.args.bytes.now c.loop-content.invariant.same
    (content_at-other left c.in_ok-rest.rest.now c.in-Some.byte c.in-Some.rest.now c.in_ok-rest.ensures.read c.in-Some.ensures no_mark no_backslash)

pub returns-in_default-read_escape-clause-read : goal.returns-in_default-read_escape-clause-read
returns-in_default-read_escape-clause-read c =
    let left = c.loop-content.left.now in
    let rest_is : c.in_ok-rest.rest.now ≡ 0x5C ∷ c.in-Some.rest.now = c.in-Some.ensures ∙ ap (λ b. b ∷ c.in-Some.rest.now) c.if-byte-ne92.false in
    content_so-none (string_bytes c.loop-content.content) left c.args.bytes.now c.loop-content.invariant.same
    (content_at-no_escape left c.in_ok-rest.rest.now c.in-Some.rest.now c.in_ok-rest.ensures.read rest_is (sym c.in_default-read_escape.ensures.read))

pub loop-content-preserved : goal.loop-content-preserved
loop-content-preserved c =
    let left = c.loop-content.left.now in
    let rest_is : c.in_ok-rest.rest.now ≡ 0x5C ∷ c.in-Some.rest.now = c.in-Some.ensures ∙ ap (λ b. b ∷ c.in-Some.rest.now) c.if-byte-ne92.false in
    let step = content_at-escape left c.in_ok-rest.rest.now c.in-Some.rest.now c.in-Some-read_escape.character c.in-Some-read_escape.rest.now c.in_ok-rest.ensures.read rest_is (sym c.in-Some-read_escape.ensures.read) in
    let pushed = c.in_ok-push.ensures.bytes ∙ ap (λ q. q ++ encode_utf8 c.in-Some-read_escape.character) c.in_ok-rest.ensures.pushed in
    record {
      same = content_so-more (string_bytes c.loop-content.content) left c.args.bytes.now _ _ c.in-Some-read_escape.rest.now c.in-Some-read_escape.character c.loop-content.invariant.same step pushed;
      no_longer = search rules;
    }
