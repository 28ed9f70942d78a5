use Rattle.message_view.proofs.Views.{body_kept}
use Rattle.message_view.proofs.view.View.body.Goals as goal

pub returns : goal.returns
returns c = λ m valid. body_kept c.self.inside.bytes.now c.args.self.now _ _ m _ c.self.invariant c.self.view_is valid
