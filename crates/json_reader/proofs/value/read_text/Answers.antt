-- A quotation mark and a plain content are a string.
use Rattle.std.proofs.Common.{sym, ap, ◌∙◌, refl, rules}
use Rattle.json_spell.specs.declared.json.Json.{the_lemmas}
use Rattle.json_spell.specs.Tree.{string}
use Rattle.json_spell.specs.Reading.{read_map}
use Rattle.json_spell.proofs.Lists.{after_byte-sound}
use Rattle.json_spell.proofs.ValueSteps.{value_at-string}
use Rattle.json_reader.proofs.value.read_text.Goals as goal

pub returns-clause-read : goal.returns-clause-read
returns-clause-read c =
    let s = c.args.bytes.now in
    let content = c.in_ok-content.content.now in
    let opened = after_byte-sound 0x22 s content (sym c.in_ok-content.ensures.rest) in
    value_at-string s 0x22 content opened refl ∙ ap (read_map string) c.in_ok-text.ensures.read ∙ search (rules, the_lemmas)

pub returns-clause-flat : goal.returns-clause-flat
returns-clause-flat c = λ n. search (rules, the_lemmas)
