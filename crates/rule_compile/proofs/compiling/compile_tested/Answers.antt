use Rattle.std.proofs.Common.{◌≡◌, ℕ, Bool, List}
use Rattle.std.specs.Prelude.{unwrap_or}
use Rattle.std.proofs.lemmas.Result.{err_from_is_err_and}
use Rattle.bpf_code.specs.declared.instruction.Ins.{Ins}
use Rattle.match_rule.specs.declared.condition.Condition.{Condition}
use Rattle.match_rule.specs.RuleTree.{RuleTree}
use Rattle.rule_compile.specs.declared.rest.Tested.{Tested}
use Rattle.rule_compile.specs.Compiled.{IsSlotOf}
use Rattle.rule_compile.specs.Tested.{tested_of}
use Rattle.rule_compile.specs.RuleCode.{rule_code}
use Rattle.summary.specs.declared.edition.Edition.TheVariants.{Two}
use Rattle.summary.proofs.ImageShows.{image_shows}
use Rattle.rule_compile.proofs.RuleLength.{rule_length}
use Rattle.rule_compile.proofs.RuleRuns.{rule_runs}
use Rattle.rule_compile.proofs.CompiledRule.{Decides, compiled, refused}
use Rattle.rule_compile.proofs.RestRules.{one_sender, same_bytes, no_heavier, same_slot}
use Rattle.rule_compile.proofs.compiling.compile_tested.Goals as goal

-- the code of the tested conditions of a rule of which each part is known
code_is : (slot number : ℕ) (tested : Tested) (rule : RuleTree) (conditions : List Condition) (eavesdrops : Bool) (code : List Ins) → code ≡ rule_code slot (tested_of tested (record { conditions = conditions; eavesdrops = eavesdrops })) → slot ≡ number → conditions ≡ rule.conditions → eavesdrops ≡ rule.eavesdrops → code ≡ rule_code number (tested_of tested rule)
code_is slot number tested rule conditions eavesdrops code is s c e = rw (s, c, e) at is

pub returns-in_err-program-clause-refused : goal.returns-in_err-program-clause-refused
returns-in_err-program-clause-refused c =
    let rule : RuleTree = c.args.rule.now in
    let tested : Tested = c.args.tested in
    let number : ℕ = unwrap_or c.args.slot 0 in
    let left : RuleTree = tested_of tested rule in
    let same : c.in_ok-code.code ≡ rule_code number left = code_is _ number tested rule _ _ _ c.in_ok-code.ensures.value c.unwrap_or-slot.ensures c.conditions.ensures.value c.eavesdrops.ensures in
    let p = err_from_is_err_and c.from_residual-in_err-program.result c.from_residual-in_err-program.ensures.1 in
    rw (p.1, p.2) (refused rule left (rule_code number left) c.in_err-program.field-0.0 (rw same at c.in_err-program.ensures.refused) (rule_length number left) (no_heavier tested rule))

pub verified_program-requires : goal.verified_program-requires
verified_program-requires c = c.in_ok-program.ensures.lowered.accepted c.in_ok-code.ensures.made

pub returns-clause-compiled : goal.returns-clause-compiled
returns-clause-compiled c =
    let rule : RuleTree = c.args.rule.now in
    let tested : Tested = c.args.tested in
    let slot = c.args.slot in
    let left : RuleTree = tested_of tested rule in
    let code : List Ins = rule_code (unwrap_or slot 0) left in
    let same : c.in_ok-code.code ≡ code = code_is _ (unwrap_or slot 0) tested rule _ _ _ c.in_ok-code.ensures.value c.unwrap_or-slot.ensures c.conditions.ensures.value c.eavesdrops.ensures in
    let fits : IsSlotOf slot left = same_slot tested rule slot c.requires in
    let decides : Decides left slot code = (λ bytes m slots owned valid set agree. rule_runs bytes m slots owned left slot valid (image_shows Two bytes m slots valid set.size set.bits) fits agree (one_sender tested rule c.conditions.ensures.one_sender) (same_bytes tested rule c.conditions.ensures.bytes)) in
    rw c.verified_program.ensures (compiled left slot code c.in_ok-program.program.items (rw same at c.in_ok-program.ensures.lowered) decides)
