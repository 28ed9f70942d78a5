use Rattle.std.proofs.Common.{refl}
use Rattle.match_rule.specs.Reading.{part_at}
use Rattle.match_rule.proofs.Steps.{gives_err}
use Rattle.match_rule.proofs.part.part_at.Goals as goal

pub returns-in_err-term : goal.returns-in_err-term
unfolding part_at
returns-in_err-term c =
    gives_err _ c.from_residual-in_err-term.result _ c.in_err-term.field-0.0 c.from_residual-in_err-term.ensures.1
    (λ other. rw (c.in_ok-key.ensures, ← c.in_ok-own.ensures, c.in_ok-value.ensures, c.in_err-term.ensures other) refl)
