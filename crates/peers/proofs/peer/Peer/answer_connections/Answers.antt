use Rattle.std.proofs.Common.{ℕ, List, Result, sym, subst, ◌∙◌}
use Rattle.router.specs.Standing.TheVariants as standings
use Rattle.peers.specs.Answers.{IsPutAt}
use Rattle.peers.specs.Queries.{RepliesFound}
use Rattle.peers.specs.declared.refused.Refused.{Refused}
use Rattle.peers.proofs.Lists.{queue_told}
use Rattle.peers.proofs.peer.Peer.answer_connections.Goals as goal

pub returns-clause-row : goal.returns-clause-row
returns-clause-row g c =
    let R : Result (List (List ℕ)) Refused → Type 0 = λ found. RepliesFound (IsPutAt standings.State g.M.Mailbox.outbox_of c.args.control.now.history) c.args.request found c.args.self.now c.answer_unique.result c.answer_unique.new.self in
    subst R (sym (queue_told c.args.unique.now (sym c.is_empty.ensures ∙ c.if-is_empty.false))) c.answer_unique.ensures.row
