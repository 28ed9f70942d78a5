use Rattle.std.proofs.Common.{◌≡◌, ℕ, List, true, subst}
use Rattle.routing.specs.RecipientSeats.{is_in}
use Rattle.passes.proofs.Finding.{rising, recipients_there}
use Rattle.passes.proofs.Seats.{keeps_on}
use Rattle.passes.proofs.seating.seat_recipients.Goals as goal

pub returns-then-is_ready-clause-rising : goal.returns-then-is_ready-clause-rising
returns-then-is_ready-clause-rising g c = let m = c.raw.ensures.spells in rising c.select_into.new.recipients.items (c.select_into.ensures m.0 m.1).rising

pub take_seats-requires : goal.take_seats-requires
take_seats-requires g c = λ n e.
    let m = c.raw.ensures.spells in
    let P : List ℕ → Type 0 = λ l. is_in n l ≡ true in
    recipients_there c.args.state.now c.args.from m.0 c.select_into.new.recipients.items c.entries_for.ensures.state (c.select_into.ensures m.0 m.1) n (subst P c.as_slice-2.ensures.value e)

pub returns-clause-rising : goal.returns-clause-rising
returns-clause-rising g c = let m = c.raw.ensures.spells in rising c.select_into.new.recipients.items (c.select_into.ensures m.0 m.1).rising

pub returns-clause-shut : goal.returns-clause-shut
returns-clause-shut g c = λ n i e.
    let m = c.raw.ensures.spells in
    let there = recipients_there c.args.state.now c.args.from m.0 c.select_into.new.recipients.items c.entries_for.ensures.state (c.select_into.ensures m.0 m.1) n i in
    (keeps_on g.M.Mailbox.outbox_of c.args.state.now c.args.sender.now c.give_up_closed.new.sender c.take_seats.new.sender c.give_up_closed.ensures.keeps c.take_seats.ensures.keeps).shut n there e

pub returns-clause-keeps : goal.returns-clause-keeps
returns-clause-keeps g c = keeps_on g.M.Mailbox.outbox_of c.args.state.now c.args.sender.now c.give_up_closed.new.sender c.take_seats.new.sender c.give_up_closed.ensures.keeps c.take_seats.ensures.keeps
