use Rattle.std.proofs.Common.{ap, ◌∙◌}
use Rattle.program_table.specs.Connections.{commands_of}
use Rattle.program_table.specs.State.{State}
use Rattle.published.proofs.Counted.{commands-owned}
use Rattle.published.proofs.publisher.Publisher.commands_of.Goals as goal

pub returns : goal.returns
returns g c =
    c.commands_of.ensures ∙ ap (λ (s : State g.row.M.Denot). commands_of c.args.connection s.connections) c.state.ensures.state
    ∙ commands-owned c.args.self.now.history c.args.connection c.state.ensures.history
