use Rattle.std.proofs.Common.{◌≡◌, ap, arith}
use Rattle.program_table.specs.State.{State}
use Rattle.program_table.proofs.Counting.{commands_below, counts_more}
use Rattle.program_table.proofs.OfConnections.{counted_theirs}
use Rattle.program_table.proofs.state.BusState.count.Goals as goal

pub count_command-requires-clause-fits : goal.count_command-requires-clause-fits
count_command-requires-clause-fits g c =
    let below = commands_below c.args.connection c.self.inside.commands c.self.inside.connections.connections c.self.invariant.0.counted in
    let same : c.self.inside.commands ≡ c.args.self.now.commands = ap (λ (s : State _). s.commands) c.self.view_is in
    omega (arith, below, same, c.requires.fits)

pub invariant_of-self : goal.invariant_of-self
invariant_of-self g c = rw c.count_command.ensures (
  counts_more c.args.connection c.self.inside.commands c.self.inside.connections c.self.invariant.0,
  counted_theirs c.args.connection c.self.inside.connections.connections c.self.inside.registrations c.self.invariant.1,
)
