use Rattle.std.proofs.Common.{arith}
use Rattle.message_view.proofs.Views.{reading_found, reading_only}
use Rattle.message_view.proofs.view.View.read.Goals as goal

pub returns-clause-found : goal.returns-clause-found
returns-clause-found c = reading_found c.args.bytes.now c.read_exactly.result (λ i. omega (arith, c.type_inv.bytes i)) c.read_exactly.ensures

pub returns-clause-only : goal.returns-clause-only
returns-clause-only c = λ m valid. reading_only c.args.bytes.now c.read_exactly.result m c.read_exactly.ensures valid
