-- Inner: what running a filter's program tells.
use Rattle.std.specs.Prelude.{◌≡◌, ◌↔◌, ℕ, ◌<◌, Bool, IsTrue, List}
use Rattle.bpf_code.specs.declared.instruction.Ins.{Ins}
use Rattle.bpf_code.specs.Steps.{Ends}
use Rattle.message_view.specs.Message.{Message}
use Rattle.message_view.specs.Valid.{Valid}
use Rattle.summary.specs.declared.edition.Edition.{Edition}
use Rattle.summary.specs.declared.edition.Edition.TheVariants.{Two}
use Rattle.summary.specs.ImageBytes.{image_bytes}
use Rattle.rule_compile.specs.Rest.{IsRest}
use Rattle.entry_table.specs.CompiledRule.{CompiledRule}
use Rattle.entry_table.specs.declared.entry.Filter.{Filter}
use Rattle.entry_table.specs.declared.entry.Filter.TheVariants.{Rule, Attached}

-- the image of the message of these bytes, whose sender owns the slots of these words
pub record IsImage (edition : Edition) (bytes words image : List ℕ) : Type 0 where
  pub same : (m : Message) → Valid bytes m → image ≡ image_bytes edition m words

-- the program ends over the image with this verdict
pub record HasVerdict (edition : Edition) (bytes words : List ℕ) (program : List Ins) (verdict : ℕ) : Type 0 where
  pub ends : (m : Message) → Valid bytes m → (steps : ℕ) × Ends program (image_bytes edition m words) verdict steps

-- the program's verdict is not 0 exactly where the answer is true
pub record Says (edition : Edition) (bytes words : List ℕ) (program : List Ins) (answer : Bool) : Type 0 where
  pub verdict : ℕ
  pub ends : HasVerdict edition bytes words program verdict
  pub same : IsTrue answer ↔ (0 < verdict)

-- the program of what is left of the rule beside the texts that it fixes says so
pub record SaysRest (compiled : CompiledRule) (bytes words : List ℕ) (answer : Bool) : Type 0 where
  pub program : List Ins
  pub rest : IsRest compiled.rule compiled.slot program
  pub says : Says Two bytes words program answer

-- what the filter's program says
abbrev pub IsAnswer : List ℕ → List ℕ → Filter → Bool → Type 0
IsAnswer bytes words (Rule compiled) answer = SaysRest compiled bytes words answer
IsAnswer bytes words (Attached attached) answer = Says attached.edition bytes words attached.program answer

-- the edition of the images that the filter's program reads
abbrev pub edition_of : Filter → Edition
edition_of (Rule compiled) = Two
edition_of (Attached attached) = attached.edition
