use Rattle.std.proofs.Common.{◌≡◌, drop}
use Rattle.monitors.specs.Sending.{destination_asked}
use Rattle.monitors.proofs.asking.first_destination.Given as goal

-- none in front asks for one
abbrev pub invariant-loop-condition : goal.invariant-loop-condition
invariant-loop-condition l = destination_asked (drop l.condition-index l.conditions) ≡ destination_asked l.conditions
