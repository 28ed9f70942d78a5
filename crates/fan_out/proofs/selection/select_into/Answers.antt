use Rattle.fan_out.proofs.Finding.{whole_listed}
use Rattle.fan_out.proofs.selection.select_into.Goals as goal

pub returns : goal.returns
returns g c m valid = whole_listed c.args.state.now c.args.sender m c.list_recipients-cost.new.recipients.items (c.list_recipients-cost.ensures.exact m valid)
