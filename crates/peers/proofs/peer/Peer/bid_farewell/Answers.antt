use Rattle.std.proofs.Common.{ℕ, ◌≡◌, ◌∙◌, List, Some, ap, subst, sym}
use Rattle.std.specs.Prelude.{codes}
use Rattle.router.specs.Standing.TheVariants as standings
use Rattle.unique_name.specs.UniqueNames.{unique_name}
use Rattle.peers.specs.declared.leaving.Farewell.{Farewell}
use Rattle.peers.specs.Announcements.{TellsOwner}
use Rattle.peers.specs.Departure.{told_by}
use Rattle.peers.specs.PeerState.{PeerState, name_of}
use Rattle.peers.proofs.peer.Peer.bid_farewell.Goals as goal

pub returns-in-Told-clause-told : goal.returns-in-Told-clause-told
returns-in-Told-clause-told g c =
    let number : c.connection-number.result ≡ c.args.self.now.pass.connection = c.connection-number.ensures ∙ ap (λ (v : PeerState g.row.M.Denot). v.pass.connection) c.self.view_is in
    let T : List ℕ → ℕ → Type 0 = λ name n. TellsOwner standings.Next g.M.Mailbox.outbox_of c.args.control.now.history (codes "NameLost") name (Some n) c.args.self.now c.tell_lost.result c.tell_lost.new.self in
    let named = subst (λ name. T name c.connection-number.result) (c.as_str.ensures.text ∙ ap unique_name c.new-name.ensures) c.tell_lost.ensures.told in
    let F : Farewell → Type 0 = λ farewell. TellsOwner standings.Next g.M.Mailbox.outbox_of c.args.control.now.history (codes "NameLost") (name_of c.args.self.now) (told_by farewell c.args.self.now) c.args.self.now c.tell_lost.result c.tell_lost.new.self in
    subst F (sym c.in-Told.is) (subst (λ n. T (unique_name n) n) number named)
