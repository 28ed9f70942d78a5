use Rattle.std.proofs.Common.{ap}
use Rattle.message_view.proofs.Views.{kept_is}
use Rattle.message_view.proofs.view.View.order.Goals as goal

pub returns : goal.returns
returns c = λ m valid. ap (λ kept. kept.order) (kept_is c.self.inside.bytes.now c.args.self.now _ _ m _ c.self.invariant c.self.view_is valid)
