use Rattle.std.proofs.Common.{◌≡◌, ◌≤◌, take}
use Rattle.filter.specs.Weights.{slashes}
use Rattle.filter.proofs.weight.slashes.Given as goal

-- how many those in front are
abbrev pub invariant-loop-byte : goal.invariant-loop-byte
invariant-loop-byte l = (l.count ≡ slashes (take l.byte-index l.text)) × (l.count ≤ l.byte-index)
