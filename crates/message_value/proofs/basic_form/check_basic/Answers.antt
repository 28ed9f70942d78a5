use Rattle.std.proofs.Common.{arith}
use Rattle.std.proofs.lemmas.Grind.{common_steps}
use Rattle.message_value.specs.Order.{number_of}
use Rattle.message_value.specs.Spelling.{width_of}
use Rattle.message_value.specs.Value.{number, text}
use Rattle.message_value.specs.Forms.{basic_at}
use Rattle.message_value.specs.Reading.{number_value_at}
use Rattle.signature.specs.BasicType.{byte_of}
use Rattle.message_value.proofs.basic_form.check_basic.Goals as goal

pub returns-in_ok-read_value-in-Text : goal.returns-in_ok-read_value-in-Text
unfolding basic_at
returns-in_ok-read_value-in-Text c = (text c.in_ok-read_value-in-Text.field-0.now, grind (arith, common_steps))

pub returns-in_ok-item-in-Number : goal.returns-in_ok-item-in-Number
unfolding basic_at number_value_at
returns-in_ok-item-in-Number c =
    let code = byte_of c.args.basic in
    (number (number_of c.args.order (width_of code) c.in_ok-item-in-Number.field-0.now), grind (arith, common_steps))
