use Rattle.std.proofs.Common.{◌≡◌, ◌∙◌, ap, subst}
use Rattle.bus_messages.specs.declared.error_name.ErrorName.TheVariants.{NoMemory}
use Rattle.message_build.specs.Asked.{Asked}
use Rattle.router.specs.Standing.TheVariants as standings
use Rattle.unique_name.specs.UniqueNames.{unique_name}
use Rattle.peers.specs.Answers.{IsPutAt, IsEither, fault_asked, text_with}
use Rattle.peers.specs.PeerState.{PeerState, name_of}
use Rattle.peers.proofs.Putting.{built_placed, answered_if, text_is}
use Rattle.peers.proofs.peer.Peer.answer_hello.Goals as goal

pub returns-then-request-clause-answer : goal.returns-then-request-clause-answer
returns-then-request-clause-answer g c =
    let v : PeerState g.row.M.Denot = c.args.self.now in
    let history = c.args.control.now.history in
    let outbox_of = g.M.Mailbox.outbox_of in
    let named : c.as_str.result.now ≡ name_of v = c.as_str.ensures.text ∙ ap unique_name (c.new-name.ensures ∙ c.connection.ensures ∙ ap (λ (v : PeerState g.row.M.Denot). v.pass.connection) c.self.view_is) in
    let asked = text_with v.serial (name_of v) c.args.request (name_of v) in
    let B : Asked → Type 0 = λ a. IsEither a (fault_asked v c.args.request NoMemory) c.in_ok-bytes.bytes in
    let built = subst B (text_is v.serial (name_of v) c.args.request c.as_str.result ∙ ap (λ t. text_with v.serial (name_of v) c.args.request t) named) c.in_ok-bytes.ensures.built in
    answered_if (IsPutAt standings.Last outbox_of history) c.args.request asked v c.put_placed.result c.put_placed.new.self c.if-request.true
    (built_placed standings.Last outbox_of history (IsEither asked (fault_asked v c.args.request NoMemory)) c.in_ok-bytes.bytes v c.reply_bytes.new.self c.put_placed.new.self c.put_placed.result c.reply_bytes.ensures.same built c.put_placed.ensures.put)
