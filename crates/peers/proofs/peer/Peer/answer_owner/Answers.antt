use Rattle.std.proofs.Common.{Ok, Some, ◌∙◌, ap, sym, subst}
use Rattle.message_build.specs.Asked.{Asked}
use Rattle.router.specs.Standing.TheVariants as standings
use Rattle.unique_name.specs.UniqueNames.{unique_name}
use Rattle.peers.specs.Answers.{AnswersBy, IsPutAt, text_with}
use Rattle.peers.specs.PeerState.{PeerState, name_of}
use Rattle.peers.specs.Queries.{NamesOwner}
use Rattle.peers.specs.declared.owner.Owner.{Owner}
use Rattle.peers.proofs.Putting.{text_is}
use Rattle.peers.proofs.peer.Peer.answer_owner.Goals as goal

pub returns-in-Bus-clause-row : goal.returns-in-Bus-clause-row
returns-in-Bus-clause-row g c =
    let v : PeerState g.row.M.Denot = c.args.self.now in
    let put = IsPutAt standings.State g.M.Mailbox.outbox_of c.args.control.now.history in
    let answer = c.answer_placed in
    let A : Asked → Type 0 = λ asked. AnswersBy put c.args.request.wants_answer c.args.request asked v answer.result answer.new.self in
    let N : Owner → Type 0 = λ o. NamesOwner c.args.request put (Ok (Some o)) v answer.result answer.new.self in
    subst N (sym c.in-Bus.is) (subst A (text_is v.serial (name_of v) c.args.request _) answer.ensures.answer)

pub returns-in-Connection-clause-row : goal.returns-in-Connection-clause-row
returns-in-Connection-clause-row g c =
    let v : PeerState g.row.M.Denot = c.args.self.now in
    let put = IsPutAt standings.State g.M.Mailbox.outbox_of c.args.control.now.history in
    let answer = c.answer_placed-in-Connection in
    let A : Asked → Type 0 = λ asked. AnswersBy put c.args.request.wants_answer c.args.request asked v answer.result answer.new.self in
    let N : Owner → Type 0 = λ o. NamesOwner c.args.request put (Ok (Some o)) v answer.result answer.new.self in
    let named = c.as_str.ensures.text ∙ ap unique_name c.new-owner.ensures in
    subst N (sym c.in-Connection.is) (subst A (text_is v.serial (name_of v) c.args.request c.as_str.result ∙ ap (λ t. text_with v.serial (name_of v) c.args.request t) named) answer.ensures.answer)
