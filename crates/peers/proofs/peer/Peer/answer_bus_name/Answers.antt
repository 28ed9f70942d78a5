use Rattle.std.proofs.Common.{◌∙◌, ap, subst}
use Rattle.message_build.specs.Asked.{Asked}
use Rattle.peers.specs.Answers.{IsAnswered, texts_with}
use Rattle.peers.specs.LentTexts.{lent_texts}
use Rattle.peers.specs.PeerState.{name_of}
use Rattle.peers.proofs.Putting.{texts_are}
use Rattle.peers.proofs.peer.Peer.answer_bus_name.Goals as goal

pub returns-clause-answer : goal.returns-clause-answer
returns-clause-answer g c =
    let v = c.args.self.now in
    let P : Asked → Type 0 = λ asked. IsAnswered c.args.request asked v c.answer.result c.answer.new.self in
    subst P (texts_are _ _ c.args.request c.as_slice.result ∙ ap (λ texts. texts_with v.serial (name_of v) c.args.request (lent_texts texts)) c.as_slice.ensures) c.answer.ensures.answer
