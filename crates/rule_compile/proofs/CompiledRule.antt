-- The lowered program of a rule, from what is known of the program before it was lowered.
use Rattle.std.proofs.Common.{◌↔◌, ℕ, ◌<◌, ◌≤◌, Bool, List, Option, sym, subst, arith}
use Rattle.bpf_code.specs.declared.instruction.Ins.{Ins}
use Rattle.bpf_code.specs.Steps.{Ends, start}
use Rattle.bpf_machine.proofs.OneEnd.{ends_one}
use Rattle.message_view.specs.Message.{Message}
use Rattle.message_view.specs.Valid.{Valid}
use Rattle.match_rule.specs.RuleTree.{RuleTree, weight_of}
use Rattle.match_rule.specs.Holds.{Holds}
use Rattle.summary.specs.declared.edition.Edition.TheVariants.{Two}
use Rattle.summary.specs.ImageBytes.{image_bytes}
use Rattle.summary.specs.Sets.{IsSet}
use Rattle.jump_islands.specs.declared.error.LowerError.{LowerError}
use Rattle.jump_islands.specs.declared.error.LowerError.TheVariants.{TooMany, NoMemory}
use Rattle.jump_islands.specs.Lowering.{IsTarget, IsTargetRefusal}
use Rattle.jump_islands.specs.PlainLength.{plain_length}
use Rattle.rule_compile.specs.Compiled.{IsCompiled, IsRefusal, AgreeOn}
use Rattle.rule_compile.specs.Numbers.{error_of}

-- over the image of each message the program ends, with a verdict that is nonzero exactly where the rule holds
abbrev pub Decides : RuleTree → Option ℕ → List Ins → Type 0
Decides rule slot code =
    (bytes : List ℕ) (m : Message) (slots : List ℕ) (owned : List ℕ → Bool)
    → Valid bytes m
    → IsSet slots
    → AgreeOn rule slot owned slots
    → (v : ℕ) × (n : ℕ) × Ends code (image_bytes Two m slots) v n × ((0 < v) ↔ Holds rule m owned)

-- so does the lowered program
pub compiled : (rule : RuleTree) (slot : Option ℕ) (code program : List Ins) → IsTarget code program → Decides rule slot code → IsCompiled rule slot program
compiled rule slot code program lowered decides = λ bytes m slots owned v n valid set agree ends.
    let image = image_bytes Two m slots in
    let of_code = lowered.only image v n ends in
    let r = decides bytes m slots owned valid set agree in
    let one = ends_one code image v r.0 of_code.0 r.1 start of_code.1 r.2 in
    let Holding : ℕ → Type 0 = λ w. (0 < w) ↔ Holds rule m owned in
    subst Holding (sym one.0) r.3

-- a program that is refused weighs too much
pub refused : (rule left : RuleTree) (code : List Ins) (error : LowerError) → IsTargetRefusal code error → plain_length code ≤ weight_of left → weight_of left ≤ weight_of rule → IsRefusal rule (error_of error)
refused rule left code TooMany many short lighter = omega arith
refused rule left code NoMemory many short lighter = tt
