use Rattle.std.proofs.Common.{Ok, Option, refl, subst}
use Rattle.owners.specs.declared.answer.Change.{Change}
use Rattle.router.specs.NameCalls.{Foresees, command_of}
use Rattle.peers.proofs.OwnerChanging.{made_ahead, made_alone, made_none}
use Rattle.peers.proofs.peer.Peer.change_owner.Goals as goal

pub returns-in-Ok-Some-clause-changes : goal.returns-in-Ok-Some-clause-changes
returns-in-Ok-Some-clause-changes g c =
    let F : Option Change → Type 0 = λ o. Foresees c.self.inside.pass c.args.control.now (command_of c.self.inside.pass.connection c.args.call.now) (Ok o) c.foresee.new.pass in
    made_ahead g.M.Mailbox.outbox_of c.args.call.now c.in-Ok-Some.change _ c.args.self.now c.change_announced.new.self c.foresee.new.pass c.args.control.now c.change_announced.new.control _ _ c.self.view_is
    (subst F c.in-Ok-Some.field-0-is c.in-Ok-Some.ensures) c.change_announced.ensures.changes

pub returns-in-Ok-None-clause-changes : goal.returns-in-Ok-None-clause-changes
returns-in-Ok-None-clause-changes g c =
    let F : Option Change → Type 0 = λ o. Foresees c.self.inside.pass c.args.control.now (command_of c.self.inside.pass.connection c.args.call.now) (Ok o) c.foresee.new.pass in
    made_alone g.M.Mailbox.outbox_of c.args.call.now _ c.args.self.now _ c.foresee.new.pass c.args.control.now c.change_name.new.self c.change_name.result c.self.view_is
    (subst F c.in-Ok-None.field-0-is c.in-Ok-None.ensures) c.change_name.ensures refl

pub returns-in-Err-clause-changes : goal.returns-in-Err-clause-changes
returns-in-Err-clause-changes g c =
    made_none g.M.Mailbox.outbox_of c.args.call.now _ c.args.self.now _ c.in-Err.error c.args.control.now c.self.view_is c.in-Err.ensures refl
