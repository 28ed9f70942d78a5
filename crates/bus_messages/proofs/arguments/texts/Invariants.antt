use Rattle.std.proofs.Common.{◌≡◌, ◌-◌, length}
use Rattle.message_value.specs.Reading.{each_at}
use Rattle.bus_messages.specs.Arguments.{text_element, text_elements}
use Rattle.bus_messages.proofs.TextElements.{read_before, lent_values}
use Rattle.bus_messages.proofs.arguments.texts.Given as goal

-- the texts that were read and those that are read from here are those of the array
abbrev pub invariant-loop : goal.invariant-loop
invariant-loop l = read_before (lent_values l.texts.items) (each_at (text_element l.order) (length l.bytes - l.counter) l.cursor) ≡ text_elements l.order l.bytes
