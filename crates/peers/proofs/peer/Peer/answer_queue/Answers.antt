use Rattle.std.proofs.Common.{ℕ, List, ap, sym, subst}
use Rattle.router.specs.Standing.TheVariants as standings
use Rattle.peers.specs.Answers.{IsPutAt}
use Rattle.peers.specs.LentTexts.{lent_texts}
use Rattle.peers.specs.Queries.{RepliesFound, RepliesTextsBy, queue_found}
use Rattle.peers.specs.Queues.{texts_in}
use Rattle.peers.specs.declared.queries.Queue.{Queue}
use Rattle.peers.proofs.peer.Peer.answer_queue.Goals as goal

pub returns-in-Bus-clause-row : goal.returns-in-Bus-clause-row
returns-in-Bus-clause-row g c =
    let put = IsPutAt standings.State g.M.Mailbox.outbox_of c.args.control.now.history in
    let R : Queue → Type 0 = λ queue. RepliesFound put c.args.request (queue_found (texts_in queue)) c.args.self.now c.answer_texts_placed.result c.answer_texts_placed.new.self in
    let T : List (List ℕ) → Type 0 = λ texts. RepliesTextsBy put c.args.request texts c.args.self.now c.answer_texts_placed.result c.answer_texts_placed.new.self in
    subst R (sym c.in-Bus.is) (subst T (ap lent_texts c.as_slice.ensures) c.answer_texts_placed.ensures.answer)
