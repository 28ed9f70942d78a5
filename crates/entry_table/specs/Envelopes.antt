-- Entries that a message's envelope fits (own).
use Rattle.message_view.specs.Message.{Message}
use Rattle.match_rule.specs.Envelope.{EnvelopeFits}
use Rattle.entry_table.specs.declared.entry.Filter.{Filter}
use Rattle.entry_table.specs.declared.entry.Filter.TheVariants.{Rule, Attached}

-- the filter is a rule that the envelope fits, or an attached program, which asks nothing of it
abbrev pub FilterFits : Filter → Message → Type 0
FilterFits (Rule compiled) m = EnvelopeFits compiled.rule m
FilterFits (Attached program) m = Unit {0}
