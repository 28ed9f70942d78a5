-- What is promised of programs and rules over messages, in one place (own).
use Rattle.std.specs.Prelude.{◌≡◌, ◌↔◌, ℕ, ◌<◌, ◌≤◌, Bool, List, length, Option}
use Rattle.bpf_code.specs.declared.instruction.Ins.{Ins}
use Rattle.bpf_code.specs.Program.{WellFormed}
use Rattle.bpf_code.specs.Steps.{Ends}
use Rattle.message_view.specs.Message.{Message}
use Rattle.message_view.specs.Valid.{Valid}
use Rattle.match_rule.specs.RuleTree.{RuleTree}
use Rattle.match_rule.specs.Holds.{Holds}
use Rattle.summary.specs.declared.edition.Edition.{Edition}
use Rattle.summary.specs.declared.edition.Edition.TheVariants.{Two}
use Rattle.summary.specs.ImageBytes.{image_bytes}
use Rattle.summary.specs.Sets.{IsSet}
use Rattle.rule_compile.specs.Compiled.{IsCompiled, AgreeOn}

-- A program that the verifier accepts, run on the image of a valid message, returns a verdict within as many steps as
-- it has instructions; and the verdict of a compiled rule on the image of edition 2 is nonzero exactly where the rule
-- holds of the message.
pub record Headline (program : List Ins) (bytes slots : List ℕ) (edition : Edition) (verdict steps : ℕ) : Type 0 where
  pub message : Message
  pub valid : Valid bytes message
  pub accepted : WellFormed program
  pub ends : Ends program (image_bytes edition message slots) verdict steps
  pub within : steps ≤ length program
  pub decides : (rule : RuleTree) (slot : Option ℕ) (owned : List ℕ → Bool) → IsCompiled rule slot program → IsSet slots → AgreeOn rule slot owned slots → edition ≡ Two
      → (0 < verdict) ↔ Holds rule message owned
