use Rattle.std.proofs.Common.{List, [], sym, subst}
use Rattle.published.specs.Publication.{Publication}
use Rattle.routing.specs.Turns.{TurnView}
use Rattle.passes.specs.Theirs.{HaveTurns}
use Rattle.passes.proofs.Theirs.{turns_none}
use Rattle.passes.proofs.control.Control.new.Goals as goal

pub invariant_of-result : goal.invariant_of-result
invariant_of-result g c =
    let outbox_of = g.M.Mailbox.outbox_of in
    let P : Publication g.row.M.Denot → Type 0 = λ p. HaveTurns outbox_of p.history [] in
    let Q : List TurnView → Type 0 = λ l. HaveTurns outbox_of c.in_ok-new.field-0.history l in
    subst Q (sym c.new-2.ensures.1) (subst P (sym c.in_ok-new.ensures) (turns_none outbox_of))
