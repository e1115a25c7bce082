use Rattle.std.proofs.Common.{◌≡◌, rules, true}
use Rattle.texts.specs.Words.{is_hex_text}
use Rattle.texts.specs.Words.{text_of}
use Rattle.texts.proofs.ForCallers.{hex_is_text, is_some, same_some}
use Rattle.dap_text.proofs.words.read_text.Goals as goal

pub invariant_of-result-in_default : goal.invariant_of-result-in_default
invariant_of-result-in_default c =
    let hex : is_hex_text c.args.word.now ≡ true = search rules in
    is_some (text_of c.args.word.now) (hex_is_text c.args.word.now hex)

pub returns-in_default : goal.returns-in_default
returns-in_default c =
    let hex : is_hex_text c.args.word.now ≡ true = search rules in
    same_some (text_of c.args.word.now) (hex_is_text c.args.word.now hex)
