use Rattle.std.proofs.Common.{◌≡◌, ◌+◌, drop}
use Rattle.std.specs.Prelude.{nat_le}
use Rattle.peers.specs.Holdings.{instructions_of}
use Rattle.peers.proofs.holdings.has_room_for.Given as goal

-- what is left has room for the programs that are left as the share has for all
abbrev pub invariant-loop-program : goal.invariant-loop-program
invariant-loop-program l = nat_le (instructions_of (drop l.program-index l.programs) + l.len) l.left ≡ nat_le (instructions_of l.programs + l.len) l.share
