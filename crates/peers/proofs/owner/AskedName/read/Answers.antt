use Rattle.std.proofs.Common.{sym, ◌∙◌}
use Rattle.peers.proofs.AskedNames.{name_read}
use Rattle.peers.proofs.owner.AskedName.read.Goals as goal

pub returns-in-Ok : goal.returns-in-Ok
returns-in-Ok c = name_read c.args.text.now c.in-Ok.name (sym c.read.ensures ∙ c.in-Ok.is)
