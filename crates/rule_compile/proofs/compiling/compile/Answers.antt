use Rattle.std.proofs.Common.{subst}
use Rattle.std.specs.Prelude.{IfOk}
use Rattle.match_rule.specs.RuleTree.{RuleTree}
use Rattle.rule_compile.specs.Compiled.{IsCompiled}
use Rattle.rule_compile.proofs.RestRules.{whole_rule}
use Rattle.rule_compile.proofs.compiling.compile.Goals as goal

pub returns-clause-compiled : goal.returns-clause-compiled
returns-clause-compiled c =
    subst (λ (rule : RuleTree). IfOk c.compile_tested.result (λ program. IsCompiled rule c.args.slot program)) (whole_rule c.args.rule.now) c.compile_tested.ensures.compiled
