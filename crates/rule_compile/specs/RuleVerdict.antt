-- What is promised of a rule's text and a message's bytes (own).
use Rattle.std.specs.Prelude.{◌≡◌, ◌↔◌, ◌⊎◌, ℕ, ◌<◌, ◌≤◌, Bool, List, Option, Some, None, Err}
use Rattle.message_view.specs.Message.{Message}
use Rattle.message_view.specs.Valid.{Valid}
use Rattle.match_key.specs.declared.error.RuleError.TheVariants.{NoMemory}
use Rattle.match_rule.specs.RuleTree.{RuleTree, sender_name_of}
use Rattle.match_rule.specs.Grammar.{ReadsAs}
use Rattle.match_rule.specs.Reading.{rule_at}
use Rattle.match_rule.specs.Holds.{Holds}
use Rattle.summary.specs.Sets.{IsSet}
use Rattle.rule_compile.specs.Compiled.{AgreeOn, IsRefusal}
use Rattle.rule_compile.specs.declared.verdict.VerdictError.{VerdictError}
use Rattle.rule_compile.specs.declared.verdict.VerdictError.TheVariants.{Rule, Program}

-- the slot of a rule, which has one where it asks for an owned name
abbrev pub slot_if_asked : Option (List ℕ) → ℕ → Option ℕ
slot_if_asked (Some name) slot = Some slot
slot_if_asked None slot = None

-- The text reads as a rule, the bytes spell a message, and the verdict is nonzero exactly where the rule holds of the
-- message, whichever names its sender owns, as far as the slots say so of the name that the rule asks for.
pub record DecidesText (text : List ℕ) (slot : ℕ) (bytes slots : List ℕ) (verdict steps : ℕ) : Type 0 where
  pub rule : RuleTree
  pub reads : ReadsAs text rule
  pub message : Message
  pub valid : Valid bytes message
  pub within : steps ≤ 4096
  pub decides : (owned : List ℕ → Bool) → IsSet slots → AgreeOn rule (slot_if_asked (sender_name_of rule) slot) owned slots → (0 < verdict) ↔ Holds rule message owned

-- why a text has no verdict: its first fault, or what its rule isn't compiled for, or memory ran out
abbrev pub IsUndecided : List ℕ → VerdictError → Type 0
IsUndecided text (Rule fault) = (fault ≡ NoMemory) ⊎ (rule_at text ≡ Err fault)
IsUndecided text (Program error) = (rule : RuleTree) × ReadsAs text rule × IsRefusal rule error
