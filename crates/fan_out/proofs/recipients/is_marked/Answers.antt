use Rattle.fan_out.proofs.Rows.{marked_at}
use Rattle.program_table.specs.Connections.{numbers_of}
use Rattle.fan_out.proofs.recipients.is_marked.Goals as goal

pub returns : goal.returns
returns g c = marked_at (numbers_of c.args.state.now.connections) c.args.marks.now.places c.in-Some.place c.args.connection c.has.result c.requires.state.rising c.in-Some.ensures c.has.ensures
