use Rattle.std.proofs.Common.{ℕ, List, subst}
use Rattle.bpf_code.specs.Steps.{Ends}
use Rattle.filter_reasons.proofs.TestLines.{positive, nonzero}
use Rattle.filter_reasons.proofs.holding.holds.Goals as goal

pub returns-clause-value : goal.returns-clause-value
returns-clause-value c = λ m valid.
    let ends = subst (λ (image : List ℕ). Ends c.in_ok-program.program image c.run.result.verdict c.run.result.steps) (c.new-image.ensures m valid) c.run.ensures.ends in
    let owned = c.in_ok-slots.ensures.owned in
    let decides = c.in_ok-program.ensures.compiled c.args.view.now m c.in_ok-slots.slots (λ name. c.args.owns) c.run.result.verdict c.run.result.steps valid owned.0 owned.1 ends in
    (λ e. decides.0 (positive c.run.result.verdict e), λ h. nonzero c.run.result.verdict (decides.1 h))
