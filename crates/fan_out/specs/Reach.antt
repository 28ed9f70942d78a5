-- Whether a message may reach anybody (own).
use Rattle.std.specs.Prelude.{◌≡◌, ℕ, Bool, true, false, [], Option, Contains}
use Rattle.message_view.specs.Message.{Message}
use Rattle.match_rule.specs.FixedTexts.{FixedTexts, texts_of}
use Rattle.entry_table.specs.declared.entry.Entry.{Entry}
use Rattle.entry_table.specs.OfferedEntries.{IsOffered}
use Rattle.program_table.specs.State.{State}
use Rattle.program_table.specs.Recipients.{AreRecipients}

module _ {M : Type 0} where
  -- no message with these texts has a recipient, whichever connection sends it
  abbrev pub ReachesNobody : State M → FixedTexts → Type 0
  ReachesNobody s texts = (sender : Option ℕ) (m : Message) → texts_of m ≡ texts → AreRecipients s sender m []

  -- a message with these texts is offered to some entry, or none has a recipient
  abbrev pub TellsReach : State M → FixedTexts → Bool → Type 0
  TellsReach s texts true = (e : Entry) × Contains s.registrations.entries e × IsOffered texts e
  TellsReach s texts false = ReachesNobody s texts
