use Rattle.std.proofs.Common.{◌≡◌, false, ◌∙◌, sym, ap}
use Rattle.std.specs.Prelude.{option_map}
use Rattle.peers.specs.Handling.{is_known}
use Rattle.peers.specs.PeerState.{PeerState}
use Rattle.peers.proofs.Handling.{handled_to, handled_unwatching}
use Rattle.peers.proofs.peer.Peer.handle.Goals as goal

pub returns-in-Some-clause-handled : goal.returns-in-Some-clause-handled
returns-in-Some-clause-handled g c =
    let is_open : c.args.self.now.pass.is_closed ≡ false = sym (c.is_closed.ensures ∙ ap (λ (v : PeerState g.row.M.Denot). v.pass.is_closed) c.self.view_is) ∙ c.if-is_closed.false in
    handled_unwatching g.M.Mailbox.outbox_of c.args.context.now.shares c.args.view.now c.args.self.now c.send_to.new.self c.send_to.result is_open
    (λ m valid.
    handled_to g.M.Mailbox.outbox_of c.args.context.now.shares c.args.view.now c.in-Some.name.now m c.args.self.now c.send_to.new.self c.send_to.result (sym (c.is_for_bus.ensures m valid) ∙ c.if-is_for_bus.false)
    (sym (c.is_known.ensures ∙ ap is_known (c.kind.ensures m valid)) ∙ c.if-is_known.true) (sym (c.destination.ensures m valid) ∙ ap (option_map (λ text. text.now)) c.in-Some.is) c.send_to.ensures.outcome)
