use Rattle.std.proofs.Common.{◌≡◌, sym, ◌∙◌, ap, arith}
use Rattle.std.specs.Prelude.{Ok}
use Rattle.match_rule.specs.Gathering.{rule_of, tree_at}
use Rattle.match_rule.proofs.Steps.{gives_err}
use Rattle.match_rule.proofs.Spelled.{read_of, rule_at-tree}
use Rattle.match_rule.proofs.Found.{rule_found}
use Rattle.match_rule.proofs.ReadRules.{legal}
use Rattle.match_rule.proofs.rule.Rule.read.Goals as goal

pub returns-in_err-parts-clause-only : goal.returns-in_err-parts-clause-only
returns-in_err-parts-clause-only c = λ rule is.
    gives_err _ c.from_residual.result _ c.in_err-parts.field-0.0 c.from_residual.ensures.1
    (λ other. sym (read_of c.args.text.now rule is) ∙ rule_at-tree c.args.text.now (omega arith) ∙ ap tree_at (sym c.as_bytes.ensures.value) ∙ c.in_err-parts.ensures other)

pub invariant_of-result : goal.invariant_of-result
invariant_of-result c =
    let tree : tree_at c.args.text.now ≡ Ok (rule_of c.in_ok-parts.parts) = ap tree_at (sym c.as_bytes.ensures.value) ∙ c.in_ok-parts.ensures in
    legal c.args.text.now (rule_of c.in_ok-parts.parts) (omega arith) tree

pub returns-clause-found : goal.returns-clause-found
returns-clause-found c =
    rw c.unwrap_or.ensures
    (rule_found c.args.text.now (rule_of c.in_ok-parts.parts)
    (rule_at-tree c.args.text.now (omega arith) ∙ ap tree_at (sym c.as_bytes.ensures.value) ∙ c.in_ok-parts.ensures))

pub returns-clause-only : goal.returns-clause-only
returns-clause-only c = λ rule is.
    rw c.unwrap_or.ensures
    (sym (read_of c.args.text.now rule is) ∙ rule_at-tree c.args.text.now (omega arith) ∙ ap tree_at (sym c.as_bytes.ensures.value) ∙ c.in_ok-parts.ensures)
