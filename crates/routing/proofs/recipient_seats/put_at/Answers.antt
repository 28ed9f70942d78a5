use Rattle.std.proofs.Common.{◌∙◌, get_or}
use Rattle.outbox.specs.Views.{Follows}
use Rattle.routing.specs.SenderView.{RecipientSeatView}
use Rattle.routing.specs.Numbers.{recipient_of}
use Rattle.routing.proofs.Places.{found, never_lacks, holds_there, rises_set, set_there}
use Rattle.routing.proofs.Lending.{stands_there}
use Rattle.routing.proofs.recipient_seats.put_at.Goals as goal

pub put-requires-clause-follows : goal.put-requires-clause-follows
put-requires-clause-follows g c =
    holds_there recipient_of c.args.recipient c.in-Ok.place c.args.recipient_seats.now c.index-recipient_seats-place.result (λ (s : RecipientSeatView). Follows s.seat.view.put c.args.item.mark) c.requires.rise c.in-Ok.ensures.found c.requires.follows

pub put-requires-clause-stands : goal.put-requires-clause-stands
put-requires-clause-stands g c =
    let recipient_seats = c.args.recipient_seats.now in
    let d = c.index-recipient_seats-place.result in
    let at = c.in-Ok.ensures.found in
    stands_there c.args.item.place c.args.recipient recipient_seats c.args.turns.now (get_or recipient_seats c.in-Ok.place d) (found recipient_of c.args.recipient c.in-Ok.place recipient_seats d c.requires.rise at) (at.here d) c.requires.stands

pub unreachable-requires : goal.unreachable-requires
unreachable-requires g c = never_lacks recipient_of c.args.recipient _ c.args.recipient_seats.now (λ (s : RecipientSeatView). Follows s.seat.view.put c.args.item.mark) c.requires.follows c.in-Err.ensures.gap

pub returns-clause-rise : goal.returns-clause-rise
returns-clause-rise g c =
    let at = c.in-Ok.ensures.found in
    rises_set recipient_of c.args.recipient c.in-Ok.place c.args.recipient_seats.now c.put.new.self c.requires.rise at (c.put.ensures.put.recipient ∙ at.here c.index-recipient_seats-place.result)

pub returns-clause-put : goal.returns-clause-put
returns-clause-put g c =
    let recipient_seats = c.args.recipient_seats.now in
    let d = c.index-recipient_seats-place.result in
    let at = c.in-Ok.ensures.found in
    record {
      before = get_or recipient_seats c.in-Ok.place d;
      after = c.put.new.self;
      was = found recipient_of c.args.recipient c.in-Ok.place recipient_seats d c.requires.rise at;
      change = c.put.ensures.put;
      now = set_there recipient_of c.args.recipient c.in-Ok.place recipient_seats c.put.new.self c.requires.rise at (c.put.ensures.put.recipient ∙ at.here d);
    }
