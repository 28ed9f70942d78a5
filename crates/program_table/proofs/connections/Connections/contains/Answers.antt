use Rattle.std.proofs.Common.{◌∙◌, ap}
use Rattle.program_table.specs.Connections.{is_connected}
use Rattle.program_table.specs.ConnectionList.{ConnectionList}
use Rattle.program_table.proofs.Places.{connected_at}
use Rattle.program_table.proofs.connections.Connections.contains.Goals as goal

pub returns : goal.returns
returns g c =
    c.is_some.ensures ∙ connected_at c.args.number c.as_slice.result.now c.place_of.result c.place_of.ensures
    ∙ ap (is_connected c.args.number) c.as_slice.ensures.value ∙ ap (λ (r : ConnectionList _). is_connected c.args.number r.connections) c.self.view_is
