use Rattle.std.proofs.Common.{Ok, Option, Some, None, subst}
use Rattle.router.specs.History.{after}
use Rattle.peers.specs.Asked.{IsOwnerOf}
use Rattle.peers.specs.Queries.{NamesOwner}
use Rattle.peers.specs.declared.owner.Owner.{Owner}
use Rattle.peers.proofs.Lists.{tells_owner}
use Rattle.peers.proofs.peer.Peer.get_name_owner.Goals as goal

pub returns-in-Ok-Some-clause-row : goal.returns-in-Ok-Some-clause-row
returns-in-Ok-Some-clause-row g c =
    let O : Option Owner → Type 0 = λ o. IsOwnerOf (after c.owner_named.new.self.pass.seen) c.args.name.now (Ok o) in
    tells_owner g.M.Mailbox.outbox_of c.deref_mut-control.result.now.history c.args.name.now (NamesOwner c.args.request) (Ok (Some c.in-Ok-Some.owner)) c.args.self.now c.owner_named.new.self c.answer_owner.new.self c.answer_owner.result
    c.owner_named.ensures.same c.owner_named.ensures.later (subst O c.in-Ok-Some.field-0-is c.in-Ok-Some.ensures.owner) c.in-Ok-Some.ensures.seen c.answer_owner.ensures.row

pub returns-in-Ok-None-clause-row : goal.returns-in-Ok-None-clause-row
returns-in-Ok-None-clause-row g c =
    let O : Option Owner → Type 0 = λ o. IsOwnerOf (after c.owner_named.new.self.pass.seen) c.args.name.now (Ok o) in
    tells_owner g.M.Mailbox.outbox_of c.deref_mut-control.result.now.history c.args.name.now (NamesOwner c.args.request) (Ok None) c.args.self.now c.owner_named.new.self c.refuse_placed.new.self c.refuse_placed.result
    c.owner_named.ensures.same c.owner_named.ensures.later (subst O c.in-Ok-None.field-0-is c.in-Ok-None.ensures.owner) c.in-Ok-None.ensures.seen c.refuse_placed.ensures.answer
