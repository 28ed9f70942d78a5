use Rattle.std.proofs.Common.{subst, sym}
use Rattle.entry_table.specs.declared.rule_program.Parts.{Parts}
use Rattle.entry_table.specs.CompiledRule.{IsFit}
use Rattle.entry_table.specs.RuleHints.{AreHints}
use Rattle.entry_table.specs.WholeProgram.{whole_program}
use Rattle.rule_compile.specs.Rest.{IsRest}
use Rattle.entry_table.proofs.rule_program.RuleProgram.share.Goals as goal

pub invariant_of-result : goal.invariant_of-result
invariant_of-result c = subst (λ (p : Parts). IsFit (record { rule = p.rule; slot = p.slot; program = whole_program p.rule p.slot }) × IsRest p.rule p.slot p.rest × AreHints p.rule c.self.inside.shape) (sym c.in_ok-try_clone.ensures) c.self.invariant
