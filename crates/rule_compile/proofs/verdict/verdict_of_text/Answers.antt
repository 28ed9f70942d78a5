use Rattle.std.proofs.Common.{ℕ, List, Option, subst}
use Rattle.std.proofs.Math.Nat.{le_trans}
use Rattle.bpf_code.specs.declared.instruction.Ins.{Ins}
use Rattle.summary.specs.declared.edition.Edition.TheVariants.{Two}
use Rattle.match_rule.specs.RuleTree.{RuleTree, sender_name_of}
use Rattle.rule_compile.specs.Compiled.{IsCompiled}
use Rattle.rule_compile.specs.RuleVerdict.{slot_if_asked}
use Rattle.rule_compile.proofs.verdict.verdict_of_text.Goals as goal

pub returns-clause-decided : goal.returns-clause-decided
returns-clause-decided c =
    let rule : RuleTree = c.in_ok-rule.rule in
    let program : List Ins = c.in_ok-program.program in
    let compiled : IsCompiled rule (slot_if_asked (sender_name_of rule) c.args.slot) program =
    subst (λ (slot : Option ℕ). IsCompiled rule slot program) c.slot_of-slot.ensures c.in_ok-program.ensures.compiled in
    record {
      rule = rule;
      reads = c.in_ok-rule.ensures.found;
      message = c.outcome_on.ensures.message;
      valid = c.outcome_on.ensures.valid;
      within = le_trans c.outcome_on.ensures.within c.outcome_on.ensures.accepted.few;
      decides = λ owned set agree. c.outcome_on.ensures.decides rule (slot_if_asked (sender_name_of rule) c.args.slot) owned compiled set agree (λ i. Two);
    }
