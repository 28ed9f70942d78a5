use Rattle.std.proofs.Common.{inl}
use Rattle.fan_out.proofs.recipients.is_passed_over.Goals as goal

pub returns-then-misses : goal.returns-then-misses
returns-then-misses g c = inl (rw c.if-misses.true at c.misses.ensures)
