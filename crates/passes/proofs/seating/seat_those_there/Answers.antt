use Rattle.passes.proofs.Finding.{recipients_there}
use Rattle.passes.proofs.seating.seat_those_there.Goals as goal

pub returns-clause-there : goal.returns-clause-there
returns-clause-there g c n e =
    let m = c.raw.ensures.spells in
    recipients_there c.args.state.now c.args.from m.0 c.seat_recipients.new.recipients.items c.entries_for.ensures.state (c.seat_recipients.ensures.recipients m.0 m.1) n e
