-- The program of what is left of a rule, where a message has the texts that it fixes and its envelope fits (own).
use Rattle.std.specs.Prelude.{◌↔◌, ℕ, ◌<◌, Bool, List, Option}
use Rattle.bpf_code.specs.declared.instruction.Ins.{Ins}
use Rattle.bpf_code.specs.Steps.{Ends}
use Rattle.message_view.specs.Message.{Message}
use Rattle.message_view.specs.Valid.{Valid}
use Rattle.match_rule.specs.Envelope.{EnvelopeFits}
use Rattle.match_rule.specs.FixedTexts.{fixed_texts, texts_of, AreFound}
use Rattle.match_rule.specs.RuleTree.{RuleTree}
use Rattle.match_rule.specs.Holds.{Holds}
use Rattle.summary.specs.declared.edition.Edition.TheVariants.{Two}
use Rattle.summary.specs.ImageBytes.{image_bytes}
use Rattle.summary.specs.Sets.{IsSet}
use Rattle.rule_compile.specs.Compiled.{AgreeOn}

-- The program's verdict on the image, of edition 2, of a message that has the texts that the rule fixes, and whose
-- envelope fits, is nonzero exactly where the rule holds of the message.
pub record IsRest (rule : RuleTree) (slot : Option ℕ) (program : List Ins) : Type 0 where
  pub decides : (bytes : List ℕ) (m : Message) (slots : List ℕ) (owned : List ℕ → Bool) (v n : ℕ)
      → Valid bytes m
      → IsSet slots
      → AgreeOn rule slot owned slots
      → AreFound (fixed_texts rule) (texts_of m)
      → EnvelopeFits rule m
      → Ends program (image_bytes Two m slots) v n
      → (0 < v) ↔ Holds rule m owned
