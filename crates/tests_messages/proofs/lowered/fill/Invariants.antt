use Rattle.std.proofs.Common.{◌≡◌}
use Rattle.tests_messages.proofs.lowered.fill.Given as goal

abbrev pub invariant-loop : goal.invariant-loop
invariant-loop l = l.draft.bound ≡ l.fn.draft.bound
