-- Verdicts over the images of messages.
use Rattle.std.proofs.Common.{◌↔◌, ℕ, ◌<◌, Bool, List, subst}
use Rattle.std.specs.Prelude.{IsTrue}
use Rattle.bpf_code.specs.declared.instruction.Ins.{Ins}
use Rattle.bpf_code.specs.Steps.{Ends}
use Rattle.summary.specs.declared.edition.Edition.{Edition}
use Rattle.summary.specs.declared.edition.Edition.TheVariants.{Two}
use Rattle.rule_compile.specs.Rest.{IsRest}
use Rattle.entry_table.specs.AttachedProgram.{AttachedProgram}
use Rattle.entry_table.specs.CompiledRule.{CompiledRule}
use Rattle.entry_table.specs.declared.entry.Filter.TheVariants.{Rule, Attached}
use Rattle.summary.specs.ImageBytes.{image_bytes}
use Rattle.fan_out.specs.Answers.{IsImage, HasVerdict, Says, IsAnswer}

verdict_over : (edition : Edition) (bytes words image : List ℕ) (program : List Ins) (verdict : ℕ) → IsImage edition bytes words image → (steps : ℕ) × Ends program image verdict steps → HasVerdict edition bytes words program verdict
verdict_over edition bytes words image program verdict is run =
    record { ends = λ m valid. subst (λ (i : List ℕ). (steps : ℕ) × Ends program i verdict steps) (is.same m valid) run }

pub rule_answer : (compiled : CompiledRule) (bytes words image : List ℕ) (program : List Ins) (verdict : ℕ) (answer : Bool) → IsImage Two bytes words image → IsRest compiled.rule compiled.slot program → (steps : ℕ) × Ends program image verdict steps → (IsTrue answer ↔ (0 < verdict)) → IsAnswer bytes words (Rule compiled) answer
rule_answer compiled bytes words image program verdict answer is rest run same = record {
  program = program;
  rest = rest;
  says = record { verdict = verdict; ends = verdict_over Two bytes words image program verdict is run; same = same };
}

pub attached_answer : (attached : AttachedProgram) (bytes words image : List ℕ) (verdict : ℕ) (answer : Bool) → IsImage attached.edition bytes words image → (steps : ℕ) × Ends attached.program image verdict steps → (IsTrue answer ↔ (0 < verdict)) → IsAnswer bytes words (Attached attached) answer
attached_answer attached bytes words image verdict answer is run same =
    record { verdict = verdict; ends = verdict_over attached.edition bytes words image attached.program verdict is run; same = same }

-- ---- of a program that ends over every image with one verdict

abbrev EndsAnywhere : List Ins → ℕ → Type 0
EndsAnywhere program verdict = (image : List ℕ) → (steps : ℕ) × Ends program image verdict steps

says_anywhere : (edition : Edition) (bytes words : List ℕ) (program : List Ins) (verdict : ℕ) (answer : Bool) → EndsAnywhere program verdict → (IsTrue answer ↔ (0 < verdict)) → Says edition bytes words program answer
says_anywhere edition bytes words program verdict answer run same =
    record { verdict = verdict; ends = record { ends = λ m valid. run (image_bytes edition m words) }; same = same }

pub attached_anywhere : (attached : AttachedProgram) (bytes words : List ℕ) (verdict : ℕ) (answer : Bool) → EndsAnywhere attached.program verdict → (IsTrue answer ↔ (0 < verdict)) → IsAnswer bytes words (Attached attached) answer
attached_anywhere attached bytes words verdict answer run same = says_anywhere attached.edition bytes words attached.program verdict answer run same
