-- The entries that a message is offered to (own).
use Rattle.std.specs.Prelude.{◌≢◌, ◌↔◌, ℕ, Bool, List, Contains, AllPairs}
use Rattle.message_view.specs.Message.{Message}
use Rattle.match_rule.specs.RuleTree.{RuleTree}
use Rattle.match_rule.specs.Holds.{Holds}
use Rattle.match_rule.specs.FixedTexts.{FixedTexts, fixed_texts, texts_of, AreFound}
use Rattle.entry_table.specs.declared.entry.Entry.{Entry}
use Rattle.entry_table.specs.declared.entry.Filter.{Filter}
use Rattle.entry_table.specs.declared.entry.Filter.TheVariants.{Rule, Attached}
use Rattle.entry_table.specs.AttachedProgram.{AskedTexts}
use Rattle.entry_table.specs.Namespaces.{Namespaces, namespaces_asked, AreInside}

-- the texts that a filter fixes by equality; an attached program those of the messages that it is for
abbrev pub texts_fixed : Filter → FixedTexts
texts_fixed (Rule compiled) = fixed_texts compiled.rule
texts_fixed (Attached program) = program.asked.texts

-- the namespaces that a filter asks for
abbrev pub namespaces_fixed : Filter → Namespaces
namespaces_fixed (Rule compiled) = namespaces_asked compiled.rule
namespaces_fixed (Attached program) = program.asked.namespaces

-- the message is one that an attached program is for: it has each of the texts, and lies in each of the namespaces
abbrev pub IsFor : AskedTexts → Message → Type 0
IsFor asked m = AreFound asked.texts (texts_of m) × AreInside asked.namespaces (texts_of m)

-- A message is offered to an entry where it has each text that the entry's filter fixes, and lies in each namespace that
-- the filter asks for. Of the message that takes no more than its texts.
abbrev pub IsOffered : FixedTexts → Entry → Type 0
IsOffered texts e = AreFound (texts_fixed e.filter) texts × AreInside (namespaces_fixed e.filter) texts

-- a message of which a rule holds has the texts that the rule fixes, and lies in the namespaces that it asks for
abbrev pub OfferedWhereItHolds : Type 0
OfferedWhereItHolds =
    (rule : RuleTree) (m : Message) (owned : List ℕ → Bool)
    → Holds rule m owned
    → AreFound (fixed_texts rule) (texts_of m) × AreInside (namespaces_asked rule) (texts_of m)

-- exactly those of the entries that a message with these texts is offered to, each once
pub record AreOffered (entries : List Entry) (texts : FixedTexts) (offers : List Entry) : Type 0 where
  pub exact : (e : Entry) → Contains offers e ↔ (Contains entries e × IsOffered texts e)
  pub once : AllPairs (λ (e f : Entry). e.id ≢ f.id) offers
