use Rattle.message_view.proofs.Views.{signature_kept}
use Rattle.message_view.proofs.view.View.signature.Goals as goal

pub returns : goal.returns
returns c = λ m valid. signature_kept c.self.inside.bytes.now c.args.self.now _ _ _ m _ c.self.invariant c.self.view_is valid c.as_bytes.ensures.text
