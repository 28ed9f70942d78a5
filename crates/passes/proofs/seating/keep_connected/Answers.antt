use Rattle.std.proofs.Common.{◌∙◌}
use Rattle.passes.proofs.Seats.{gave_up}
use Rattle.passes.proofs.seating.keep_connected.Goals as goal

pub returns-clause-keeps : goal.returns-clause-keeps
returns-clause-keeps g c =
    (gave_up g.M.Mailbox.outbox_of c.args.state.now c.as_slice.result.now c.args.sender.now c.retain.new.self (c.as_slice.ensures.value ∙ c.numbers_in-numbers.ensures) c.retain.ensures).0

pub returns-clause-put : goal.returns-clause-put
returns-clause-put g c =
    (gave_up g.M.Mailbox.outbox_of c.args.state.now c.as_slice.result.now c.args.sender.now c.retain.new.self (c.as_slice.ensures.value ∙ c.numbers_in-numbers.ensures) c.retain.ensures).1
