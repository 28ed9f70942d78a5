use Rattle.std.proofs.Common.{arith}
use Rattle.std.proofs.lemmas.Grind.{common_steps}
use Rattle.message_value.specs.Value.{number}
use Rattle.message_value.specs.Reading.{number_value_at, word_at}
use Rattle.message_value.proofs.basic_form.check_boolean.Goals as goal

pub returns : goal.returns
unfolding number_value_at word_at
returns c = (number c.in_ok-word.word, grind (arith, common_steps))
