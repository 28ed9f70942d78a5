-- Who gets a broadcast (D-Bus Specification, "Match Rules").
use Rattle.std.specs.Prelude.{◌≡◌, ◌↔◌, ℕ, ◌<◌, Bool, false, List, Option, Some, None, Contains, nat_eq, slice_get}
use Rattle.std.specs.Option.{option_eq}
use Rattle.std.specs.List.Sorted.{IsStrictlyIncreasing}
use Rattle.bpf_code.specs.Steps.{Ends}
use Rattle.message_view.specs.Message.{Message}
use Rattle.match_rule.specs.Holds.{Holds}
use Rattle.summary.specs.ImageBytes.{image_bytes}
use Rattle.summary.specs.Sets.{has_slot, IsSet}
use Rattle.owners.specs.Queues.{owner_of}
use Rattle.entry_table.specs.OfferedEntries.{IsFor}
use Rattle.entry_table.specs.declared.entry.Entry.{Entry}
use Rattle.entry_table.specs.declared.entry.Filter.{Filter}
use Rattle.entry_table.specs.declared.entry.Filter.TheVariants.{Rule, Attached}
use Rattle.program_table.specs.Registrations.{Registrations}
use Rattle.program_table.specs.State.{State}

-- The name's primary owner is the sender. None is the bus, which owns none of them.
abbrev pub is_owned : Registrations → Option ℕ → List ℕ → Bool
is_owned r None name = false
is_owned r (Some sender) name = option_eq nat_eq (owner_of name r.claims) (Some sender)

abbrev pub is_owned_at : Registrations → Option ℕ → Option (Option (List ℕ)) → Bool
is_owned_at r sender (Some (Some name)) = is_owned r sender name
is_owned_at r sender _ = false

-- the words of the set of the slots of the sender's names
pub record AreOwnedSlots (r : Registrations) (sender : Option ℕ) (words : List ℕ) : Type 0 where
  pub set : IsSet words
  pub owned : (slot : ℕ) → has_slot words slot ≡ is_owned_at r sender (slice_get r.slots slot)

-- a rule holds of the message, or the message is one that a program is for, and the program's verdict on its image isn't 0
abbrev pub FilterMatches : Registrations → Option ℕ → Message → Filter → Type 0
FilterMatches r sender m (Rule compiled) = Holds compiled.rule m (is_owned r sender)
FilterMatches r sender m (Attached attachment) =
    IsFor attachment.asked m
    × (words : List ℕ) × (verdict : ℕ) × (steps : ℕ)
    × AreOwnedSlots r sender words
    × (0 < verdict)
    × Ends attachment.program (image_bytes attachment.edition m words) verdict steps

-- the connection has an entry that matches; entries are of connections alone
abbrev pub IsRecipient : {M : Type 0} → State M → Option ℕ → Message → ℕ → Type 0
IsRecipient s sender m n =
    (e : Entry) × Contains s.registrations.entries e × (e.connection ≡ n) × FilterMatches s.registrations sender m e.filter

-- exactly the recipients, by rising number
pub record AreRecipients {M : Type 0} (s : State M) (sender : Option ℕ) (m : Message) (numbers : List ℕ) : Type 0 where
  pub rising : IsStrictlyIncreasing numbers
  pub exact : (n : ℕ) → Contains numbers n ↔ IsRecipient s sender m n
