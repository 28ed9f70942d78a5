use Rattle.outbox.proofs.Steps.{begins, mints_at}
use Rattle.outbox.proofs.handle.Outbox.with_turn.Goals as goal

pub with_rule-requires : goal.with_rule-requires
with_rule-requires c = begins

pub another-pass-requires-clause-rule : goal.another-pass-requires-clause-rule
another-pass-requires-clause-rule c = mints_at _ _ c.in_ok-queue.ensures.1 c.in_ok-queue.ensures.2
