use Rattle.std.proofs.Common.{option_map}
use Rattle.bus_messages.specs.Methods.{is_called}
use Rattle.bus_messages.proofs.CalledMethods.{found_is}
use Rattle.bus_messages.proofs.call.MethodEntry.of.Goals as goal

pub returns : goal.returns
returns c = found_is (is_called (option_map (λ name. name.now) c.args.interface) c.args.member.now) c.first_called.result c.rows-table.result.now c.first_called.ensures c.rows-table.ensures
