use Rattle.std.proofs.Common.{refl}
use Rattle.bus_messages.specs.Methods.{methods}
use Rattle.bus_messages.proofs.call.rows.Goals as goal

-- the table of the code has the rows of the definitions
pub returns : goal.returns
unfolding methods
returns c = refl
