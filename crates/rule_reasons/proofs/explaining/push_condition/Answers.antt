use Rattle.std.proofs.Common.{[], ◌∷◌, sym, append-nil}
use Rattle.std.specs.Prelude.{string_bytes}
use Rattle.rule_reasons.specs.Reasons.{reason_line}
use Rattle.rule_reasons.specs.Steps.{nothing, one}
use Rattle.rule_reasons.proofs.Lines.{one_line}
use Rattle.rule_reasons.proofs.explaining.push_condition.Goals as goal

pub returns-then-holds : goal.returns-then-holds
returns-then-holds c = λ m valid. ([], nothing ((c.holds.ensures m valid).0 c.if-holds.true), sym (append-nil (string_bytes c.args.text.now)))

pub returns : goal.returns
returns c = λ m valid. (
  reason_line c.args.condition.now m ∷ [],
  one (λ held. let yes = (c.holds.ensures m valid).1 held in absurd cc),
  one_line c.args.front.now _ _ _ (reason_line c.args.condition.now m) c.in_ok-push_str.ensures.bytes (c.in_ok-push_reason.ensures m valid),
)
