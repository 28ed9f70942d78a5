use Rattle.message_view.proofs.Views.{args_found, args_are}
use Rattle.message_view.proofs.view.View.args.Goals as goal

pub new-requires : goal.new-requires
new-requires c = args_found c.self.inside.bytes.now c.args.self.now _ _ c.again.result _ c.at_body.result c.self.invariant c.self.view_is c.again.ensures c.at_body.ensures

pub returns : goal.returns
returns c = λ m valid. args_are c.self.inside.bytes.now c.args.self.now _ _ c.again.result m _ c.at_body.result c.new.result c.self.invariant c.self.view_is valid c.again.ensures c.at_body.ensures c.new.ensures
