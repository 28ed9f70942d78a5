use Rattle.std.proofs.Common.{◌+◌, get_or, sym, ◌∙◌, ap, arith}
use Rattle.match_rule.specs.Bytes.{begins_with}
use Rattle.match_rule.specs.Grammar.{apostrophe}
use Rattle.match_rule.specs.Reading.{step}
use Rattle.match_rule.proofs.Steps.{past_skipped, past_taken, whole_rest}
use Rattle.match_rule.proofs.part.value_at.Goals as goal
use Rattle.match_rule.proofs.part.value_at.Goals.{in-Skip, in-Take+in_ok-push-in-Take}

pub loop-i-preserved : goal.loop-i-preserved
loop-i-preserved c =
    let q = c.loop-i.quoting in
    let bytes = c.args.bytes.now in
    let i = c.loop-i.i in
    let is = ap (λ rest. step q (get_or bytes i 0) (begins_with apostrophe rest)) (sym (whole_rest bytes (i + 1))) ∙ ap (step q (get_or bytes i 0)) (sym c.begins_with_apostrophe.ensures) ∙ sym c.step.ensures in
    elim c.match-step.branch [
      | in-Skip w ↦ rw (w.value-is, w.quoting-is) (past_skipped q w.in-Skip.next c.loop-i.value.items bytes i (omega arith) (is ∙ w.in-Skip.is) ∙ c.loop-i.invariant)
      | in-Take+in_ok-push-in-Take w ↦ rw (w.value-is, w.quoting-is, w.in_ok-push-in-Take.ensures.items) (past_taken q w.in-Take.next c.loop-i.value.items bytes i (omega arith) (is ∙ w.in-Take.is) ∙ c.loop-i.invariant)
    ]
