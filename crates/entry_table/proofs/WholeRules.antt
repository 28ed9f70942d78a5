-- The whole program of a rule decides whether it holds.
use Rattle.std.proofs.Common.{◌≡◌, ◌↔◌, ℕ, ◌<◌, true, List, Option, sym, subst}
use Rattle.std.specs.Prelude.{All, unwrap_or}
use Rattle.bpf_code.specs.Steps.{start}
use Rattle.bpf_machine.proofs.OneEnd.{ends_one}
use Rattle.message_value.specs.Bytes.{AreBytes}
use Rattle.match_rule.specs.Condition.{value_of}
use Rattle.match_rule.specs.Parts.{has_one_sender}
use Rattle.match_rule.specs.RuleTree.{RuleTree}
use Rattle.match_rule.specs.Holds.{Holds}
use Rattle.summary.specs.declared.edition.Edition.TheVariants.{Two}
use Rattle.summary.specs.ImageBytes.{image_bytes}
use Rattle.summary.proofs.ImageShows.{image_shows}
use Rattle.rule_compile.specs.Compiled.{IsSlotOf, IsCompiled}
use Rattle.rule_compile.specs.RuleCode.{rule_code}
use Rattle.rule_compile.proofs.RuleRuns.{rule_runs}
use Rattle.entry_table.specs.CompiledRule.{IsFit}
use Rattle.entry_table.specs.WholeProgram.{whole_program}

-- of two ways to end from the start the verdict is one
decided : (rule : RuleTree) (slot : Option ℕ) → IsSlotOf slot rule → has_one_sender rule.conditions ≡ true → All (λ c. AreBytes (value_of c)) rule.conditions → IsCompiled rule slot (rule_code (unwrap_or slot 0) rule)
decided rule slot fits one are = λ bytes m slots owned v n valid set agree ends.
    let image : List ℕ = image_bytes Two m slots in
    let runs = rule_runs bytes m slots owned rule slot valid (image_shows Two bytes m slots valid set.size set.bits) fits agree one are in
    let same = ends_one (rule_code (unwrap_or slot 0) rule) image v runs.0 n runs.1 start ends runs.2 in
    let Holding : ℕ → Type 0 = λ w. (0 < w) ↔ Holds rule m owned in
    subst Holding (sym same.0) runs.3

pub fits_whole : (rule : RuleTree) (slot : Option ℕ) → IsSlotOf slot rule → has_one_sender rule.conditions ≡ true → All (λ c. AreBytes (value_of c)) rule.conditions → IsFit (record { rule = rule; slot = slot; program = whole_program rule slot })
unfolding whole_program
fits_whole rule slot fits one are = record { slot = fits; program = decided rule slot fits one are }
