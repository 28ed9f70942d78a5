use Rattle.std.proofs.Common.{◌∙◌, ap, sym, Ok, List, ℕ}
use Rattle.message_value.specs.TextTypes.{text_code}
use Rattle.message_value.proofs.SkipTexts.{text_fits, text_again_at, item_utf8}
use Rattle.message_value.proofs.text.TextType.skip.Goals as goal

pub skip-item-requires : goal.skip-item-requires
skip-item-requires c = text_fits (text_code c.args.self) c.args.len c.args.cursor.now c.requires.read.0 c.requires.read.1

pub from_utf8_unchecked-requires : goal.from_utf8_unchecked-requires
from_utf8_unchecked-requires c = item_utf8 (text_code c.args.self) c.args.len c.args.cursor.now c.requires.read.0 (c.skip-item.result.now, c.skip-item.new.self) c.requires.read.1 c.skip-item.ensures.read

pub returns-clause-read : goal.returns-clause-read
returns-clause-read c =
    text_again_at (text_code c.args.self) c.args.len c.args.cursor.now c.requires.read.0 (c.skip-item.result.now, c.skip-item.new.self) c.requires.read.1 c.skip-item.ensures.read
    ∙ ap (λ (bytes : List ℕ). Ok (bytes, c.skip-item.new.self)) (sym c.from_utf8_unchecked.ensures)
