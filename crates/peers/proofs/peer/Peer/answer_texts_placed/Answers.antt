use Rattle.std.proofs.Common.{subst}
use Rattle.message_build.specs.Asked.{Asked}
use Rattle.router.specs.Standing.TheVariants as standings
use Rattle.peers.specs.Answers.{AnswersBy, IsPutAt}
use Rattle.peers.proofs.Putting.{texts_are}
use Rattle.peers.proofs.peer.Peer.answer_texts_placed.Goals as goal

pub returns-clause-answer : goal.returns-clause-answer
returns-clause-answer g c = let P : Asked → Type 0 = λ asked. AnswersBy (IsPutAt standings.State g.M.Mailbox.outbox_of c.args.control.now.history) c.args.request.wants_answer c.args.request asked c.args.self.now c.answer_placed.result c.answer_placed.new.self in subst P (texts_are _ _ c.args.request c.args.texts) c.answer_placed.ensures.answer
