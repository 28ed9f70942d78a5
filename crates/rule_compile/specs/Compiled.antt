-- What a compiled rule is (own).
use Rattle.std.specs.Prelude.{◌≡◌, ◌↔◌, ℕ, ◌<◌, Bool, List, Option, IfSome, is_some, unwrap_or}
use Rattle.bpf_code.specs.declared.instruction.Ins.{Ins}
use Rattle.bpf_code.specs.Steps.{Ends}
use Rattle.message_view.specs.Message.{Message}
use Rattle.message_view.specs.Valid.{Valid}
use Rattle.match_rule.specs.RuleTree.{RuleTree, sender_name_of, weight_of}
use Rattle.match_rule.specs.Holds.{Holds}
use Rattle.summary.specs.declared.edition.Edition.TheVariants.{Two}
use Rattle.summary.specs.ImageBytes.{image_bytes}
use Rattle.summary.specs.Sets.{has_slot, IsSet}
use Rattle.rule_compile.specs.declared.error.CompileError.{CompileError}
use Rattle.rule_compile.specs.declared.error.CompileError.TheVariants.{TooLong, NoMemory}

-- a slot below 1,024 is given exactly where the rule asks for an owned name
pub record IsSlotOf (slot : Option ℕ) (rule : RuleTree) : Type 0 where
  pub where_asked : is_some slot ≡ is_some (sender_name_of rule)
  pub small : IfSome slot (λ s. s < 1024)

-- the owned names have the rule's sender name exactly where its slot is among the slots
abbrev pub AgreeOn : RuleTree → Option ℕ → (List ℕ → Bool) → List ℕ → Type 0
AgreeOn rule slot owned slots = IfSome (sender_name_of rule) (λ name. owned name ≡ has_slot slots (unwrap_or slot 0))

-- The program's verdict on the image of a message, of edition 2, is nonzero exactly where the rule holds of the
-- message; whatever its byte order, and whichever slots the sender has.
abbrev pub IsCompiled : RuleTree → Option ℕ → List Ins → Type 0
IsCompiled rule slot program =
    (bytes : List ℕ) (m : Message) (slots : List ℕ) (owned : List ℕ → Bool) (v n : ℕ)
    → Valid bytes m
    → IsSet slots
    → AgreeOn rule slot owned slots
    → Ends program (image_bytes Two m slots) v n
    → (0 < v) ↔ Holds rule m owned

-- when a rule isn't compiled; want of memory says nothing of it
abbrev pub IsRefusal : RuleTree → CompileError → Type 0
IsRefusal rule TooLong = 4096 < weight_of rule
IsRefusal rule NoMemory = Unit {0}
