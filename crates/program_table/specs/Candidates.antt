-- The entries that a message may match by its member and its interface (own).
use Rattle.std.specs.Prelude.{ℕ, Bool, true, ◌&&◌, List, filter, Option, Some, None}
use Rattle.message_view.specs.Message.{Message, member_of, interface_of}
use Rattle.match_rule.specs.FixedTexts.{member_asked, interface_asked}
use Rattle.entry_table.specs.declared.entry.Entry.{Entry}
use Rattle.entry_table.specs.declared.entry.Filter.{Filter}
use Rattle.entry_table.specs.declared.entry.Filter.TheVariants.{Rule, Attached}
use Rattle.program_table.specs.SlotNames.{is_name}
use Rattle.program_table.specs.State.{State}

-- the text is there where one is asked for
abbrev pub is_text_found : Option (List ℕ) → Option (List ℕ) → Bool
is_text_found None found = true
is_text_found (Some text) found = is_name text found

-- an attached program, or a rule whose member and interface conditions, where there are such, hold of the message
abbrev pub is_candidate : Message → Filter → Bool
is_candidate m (Rule compiled) =
    is_text_found (member_asked compiled.rule) (member_of m) && is_text_found (interface_asked compiled.rule) (interface_of m)
is_candidate m (Attached program) = true

abbrev pub candidates : {M : Type 0} → State M → Message → List Entry
candidates s m = filter (λ (e : Entry). is_candidate m e.filter) s.registrations.entries
