use Rattle.std.proofs.Common.{◌∙◌, ap, sym}
use Rattle.program_table.specs.Connections.{commands_of}
use Rattle.program_table.specs.ConnectionList.{ConnectionList}
use Rattle.program_table.proofs.Places.{commands_here, commands_none}
use Rattle.program_table.proofs.connections.Connections.commands_of.Goals as goal

pub returns-in-Some : goal.returns-in-Some
returns-in-Some g c = rw c.index.ensures (
    commands_here c.args.number c.in-Some.place c.self.inside.list.items _ (rw (← c.as_slice.ensures.value) c.in-Some.ensures)
    ∙ ap (λ (r : ConnectionList _). commands_of c.args.number r.connections) c.self.view_is)

pub returns-in-None : goal.returns-in-None
returns-in-None g c =
    sym (commands_none c.args.number c.self.inside.list.items (rw (← c.as_slice.ensures.value) c.in-None.ensures))
    ∙ ap (λ (r : ConnectionList _). commands_of c.args.number r.connections) c.self.view_is
