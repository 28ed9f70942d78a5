use Rattle.std.proofs.Common.{◌≡◌, ◌≤◌, ◌+◌, length, take}
use Rattle.routing.specs.Numbers.{SeatsRise}
use Rattle.routing.specs.Puts.{PutTo}
use Rattle.routing.specs.Turns.{KeepsTurns}
use Rattle.routing.proofs.recipient_seats.put_all.Given as goal

abbrev pub invariant-loop-recipient : goal.invariant-loop-recipient
invariant-loop-recipient g l =
    PutTo l.initial.shares.message (take l.recipient-index l.recipients) l.refused.items l.initial.recipient_seats l.recipient_seats
    × (length l.refused.items ≤ l.recipient-index) × (l.shares.left + l.recipient-index ≡ length l.recipients) × (l.shares.message ≡ l.initial.shares.message)
    × KeepsTurns l.initial.turns l.turns × SeatsRise l.recipient_seats
