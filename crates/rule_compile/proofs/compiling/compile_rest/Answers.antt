use Rattle.std.proofs.Common.{refl}
use Rattle.std.proofs.lemmas.Result.{IfOk-weaker}
use Rattle.rule_compile.specs.declared.rest.Tested.TheVariants.{Left}
use Rattle.rule_compile.specs.Compiled.{IsCompiled}
use Rattle.rule_compile.specs.Rest.{IsRest}
use Rattle.rule_compile.specs.Tested.{tested_of}
use Rattle.rule_compile.proofs.RestRules.{rest_compiled}
use Rattle.rule_compile.proofs.compiling.compile_rest.Goals as goal

pub returns-clause-rest : goal.returns-clause-rest
returns-clause-rest c =
    let rule = c.args.rule in
    let slot = c.args.slot in
    IfOk-weaker c.compile_tested.result (λ program. IsCompiled (tested_of (Left rule) rule.now) slot program) (λ program. IsRest rule.now slot program) (λ program. rest_compiled rule.now slot (Left rule) program (λ d. refl) refl) c.compile_tested.ensures.compiled
