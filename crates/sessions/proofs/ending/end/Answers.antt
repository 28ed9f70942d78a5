use Rattle.std.proofs.Common.{refl, ⊎_elim}
use Rattle.peers.specs.declared.leaving.Leaving.TheVariants.{Done, Ended, Refused}
use Rattle.sessions.proofs.Endings.{ends_by}
use Rattle.sessions.proofs.ending.end.Goals as goal

pub returns-in-Refused : goal.returns-in-Refused
returns-in-Refused g c = ends_by g.M.Mailbox.outbox_of c.args.peer c.leave-leaving.new.self c.leave-leaving.result.0 Refused c.leave-leaving.result.1 _ _ c.in-Refused.is c.leave-leaving.ensures.leaves c.leave-leaving.ensures.closed refl c.outcome_of-outcome.ensures

pub returns-in-Done : goal.returns-in-Done
returns-in-Done g c =
    ⊎_elim (λ is. ends_by g.M.Mailbox.outbox_of c.args.peer c.leave-leaving.new.self c.leave-leaving.result.0 Done c.leave-leaving.result.1 _ _ is c.leave-leaving.ensures.leaves c.leave-leaving.ensures.closed refl c.outcome_of-outcome.ensures)
    (λ is. ends_by g.M.Mailbox.outbox_of c.args.peer c.leave-leaving.new.self c.leave-leaving.result.0 Ended c.leave-leaving.result.1 _ _ is c.leave-leaving.ensures.leaves c.leave-leaving.ensures.closed refl c.outcome_of-outcome.ensures) c.in-Done.is
